-- `skip::unknown_or_group::read_unknown_or_skip_group` meets its contract: too many bytes, then a bad tag, then what the field says. Assumes nothing.
use mathlib.Core.Path.{sym, ap, ◌∙◌}
use Rattle.std.proofs.lemmas.Result.{err_from_is_err_and}
use Rattle.spec.proofs.SkipLaws.{unknown_group, unknown_plain}
use Rattle.skip.specs.Passed.{behind}
use Rattle.skip.proofs.KnownLaws.{known_unknown}
use Rattle.skip.proofs.SkipAnswers.{answer_no, answer_behind, checked_unknown, checked_good}
use Rattle.skip.proofs.unknown_or_group.read_unknown_or_skip_group.Goals as goal

pub returns-in_err-checked : goal.returns-in_err-checked
returns-in_err-checked c =
    let p = err_from_is_err_and c.from_residual.result c.from_residual.ensures.1 in
    rw (p.1, p.2) (answer_no _ (checked_unknown _ _ _ c.in_err-checked.ensures _))

pub returns-then-w-eq-START_GROUP : goal.returns-then-w-eq-START_GROUP
returns-then-w-eq-START_GROUP c =
    let a = c.args in
    let g = checked_good a.tag a.s.now c.in_ok-checked.ensures in
    answer_behind (known_unknown a.tag a.level a.s.now) c.skip_group.result
    (c.skip_group.ensures ∙ ap (behind 0) (sym (unknown_group _ _ _ g.0 g.1 (sym c.from-w.ensures ∙ c.if-w-eq-START_GROUP.true))))

pub returns : goal.returns
returns c =
    let a = c.args in
    let g = checked_good a.tag a.s.now c.in_ok-checked.ensures in
    answer_behind (known_unknown a.tag a.level a.s.now) c.past_plain.result
    (rw c.from-w.ensures at c.past_plain.ensures ∙ ap (behind 0) (sym (unknown_plain _ _ _ g.0 g.1 (rw c.from-w.ensures at c.if-w-eq-START_GROUP.false))))
