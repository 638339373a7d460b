-- `pull::step::tag_at` meets its contract: the end, or a varint32. Assumes nothing.
use mathlib.Core.Path.{sym, ap, ◌∙◌}
use lib.ListN.{drop}
use Rattle.spec.proofs.Laws.{takes_varint}
use Rattle.spec.proofs.PullLaws.{raw_end, raw_tag_lem}
use Rattle.pull.specs.Told.{as_moved}
use Rattle.pull.proofs.StepLaws.{number_told}
use Rattle.pull.proofs.step.tag_at.Goals as goal

pub returns-then-s-at : goal.returns-then-s-at
returns-then-s-at c = let a = c.args in sym (raw_end a.s.now a.at 0 c.if-s-at.true)

pub returns : goal.returns
returns c =
    let a = c.args in
    ap as_moved c.number_of.ensures
    ∙ number_told a.at c.narrow_found.result (takes_varint 4 15 (drop a.at a.s.now)) c.narrow_found.ensures
    ∙ sym (raw_tag_lem a.s.now a.at 0 c.if-s-at.false)
