-- `skip::unknown_or_group::skip_field_for_tag` meets its contract: too many bytes, then a bad tag, then what the field says. Assumes nothing.
use mathlib.Core.Path.{sym, ap, ◌∙◌}
use Rattle.std.proofs.lemmas.Result.{err_from_is_err_and}
use Rattle.spec.proofs.SkipLaws.{skip_field_lem}
use Rattle.std.proofs.Common.{Ok}
use Rattle.skip.specs.Passed.{behind}
use Rattle.skip.proofs.KnownLaws.{known_skip}
use Rattle.skip.proofs.SkipAnswers.{answer_no, answer_behind, checked_skip, checked_good, value_skipped}
use Rattle.skip.proofs.unknown_or_group.skip_field_for_tag.Goals as goal

pub returns-in_err-checked : goal.returns-in_err-checked
returns-in_err-checked c =
    let p = err_from_is_err_and c.from_residual.result c.from_residual.ensures.1 in
    rw (p.1, p.2) (answer_no _ (checked_skip _ _ _ c.in_err-checked.ensures _))

pub returns-in-Some : goal.returns-in-Some
returns-in-Some c =
    let a = c.args in
    let g = checked_good a.tag a.s.now c.in_ok-checked.ensures in
    answer_behind (known_skip a.tag a.level a.s.now) (Ok c.in-Some.used) (value_skipped _ _ _ _ g.0 g.1 (rw c.from-w.ensures at c.in-Some.ensures))

pub returns : goal.returns
returns c =
    let a = c.args in
    let g = checked_good a.tag a.s.now c.in_ok-checked.ensures in
    answer_behind (known_skip a.tag a.level a.s.now) c.skip_field.result
    (rw c.from-w.ensures at c.skip_field.ensures ∙ ap (behind 0) (sym (skip_field_lem _ _ _ g.0 g.1)))
