-- `printing::watched::is_changed` meets its contract: an element more at each step. Assumes nothing.
use mathlib.Core.Bool.{Bool}
use mathlib.Core.Path.{sym, ap, ap₂, ◌∙◌}
use lib.Seq.{take_all}
use Rattle.std.specs.Prelude.{not, ◌||◌}
use Rattle.std.specs.List.{list_any}
use Rattle.std.proofs.lemmas.List.Folds.{list_any_more}
use Rattle.printing.proofs.watched.is_changed.Goals as goal

pub loop-x-preserved : goal.loop-x-preserved
loop-x-preserved g c =
    let differs : g.row.T.Denot → Bool = λ x. not (g.T.PartialEq.eq x c.args.pattern.now) in
    ap₂ (λ (a b : Bool). a || b) c.loop-x.invariant (c.ne-changed.ensures ∙ ap differs c.x-item.is)
    ∙ sym (list_any_more differs c.args.list.now c.loop-x.x-index c.x-item.result c.loop-x-test.true)

pub returns : goal.returns
returns g c =
    let differs : g.row.T.Denot → Bool = λ x. not (g.T.PartialEq.eq x c.args.pattern.now) in
    c.loop-x.invariant ∙ ap (list_any differs) (take_all c.loop-x.x-index c.args.list.now c.loop-x-test.false)
