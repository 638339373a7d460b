-- The cycle of calls {skip_field, skip_group}: a group's fields, one by one, and the end of the bytes. Assumes nothing.
use mathlib.Core.Path.{refl, sym, ap, ◌∙◌}
use native.Mathlib.Omega.{arith}
use Rattle.std.proofs.lemmas.Result.{err_from_is_err_and}
use Rattle.spec.specs.Skip.{inner_group}
use Rattle.spec.proofs.SkipLaws.{group_too_deep, group_entered, no_group}
use Rattle.skip.specs.Passed.{behind}
use Rattle.skip.proofs.PastLaws.{refused_behind}
use Rattle.skip.proofs.GroupTurn.{refused, bounds, closes, lost, lost_value, onward, value, ends_refused, ends_closed}
use Rattle.skip.proofs.unknown_or_group.+skip_field_skip_group.Goals as goal

-- ---- skip_field

pub skip_field-returns-then-level-ge-MOST_LEVELS : goal.skip_field-returns-then-level-ge-MOST_LEVELS
skip_field-returns-then-level-ge-MOST_LEVELS t c = rw c.if-w-eq-START_GROUP.true (refused_behind _ (group_too_deep inner_group _ _ (omega arith)))

pub skip_field-returns-then-w-eq-START_GROUP : goal.skip_field-returns-then-w-eq-START_GROUP
skip_field-returns-then-w-eq-START_GROUP t c = rw c.if-w-eq-START_GROUP.true (c.skip_group.ensures ∙ ap (behind _) (sym (group_entered inner_group _ _ (omega arith))))

pub skip_field-returns : goal.skip_field-returns
skip_field-returns t c = c.past_plain.ensures ∙ ap (behind _) (sym (no_group inner_group _ _ _ c.if-w-eq-START_GROUP.false))

-- ---- skip_group: no tag

pub skip_group-returns-in_err-value : goal.skip_group-returns-in_err-value
skip_group-returns-in_err-value t c =
    let p = err_from_is_err_and c.from_residual.result c.from_residual.ensures.1 in
    rw (p.1, p.2) (refused c.loop-at.invariant _ c.loop-at-test.true c.in_err-value.ensures)

-- a value of the most frequent ones

pub skip_group-quick_value-requires : goal.skip_group-quick_value-requires
skip_group-quick_value-requires t c = (bounds c.loop-at.invariant _ _ c.in_ok-value.ensures).inside

pub skip_group-loop-at-smaller-in-Some : goal.skip_group-loop-at-smaller-in-Some
skip_group-loop-at-smaller-in-Some t c =
    let on = value c.loop-at.invariant _ _ c.in_ok-value.ensures _ c.in-Some.ensures _ refl in
    omega (arith, on.0, bounds c.loop-at.invariant _ _ c.in_ok-value.ensures)

pub skip_group-loop-at-preserved-in-Some : goal.skip_group-loop-at-preserved-in-Some
skip_group-loop-at-preserved-in-Some t c = (value c.loop-at.invariant _ _ c.in_ok-value.ensures _ c.in-Some.ensures _ refl).1

-- a group within

pub skip_group-skip_field-requires : goal.skip_group-skip_field-requires
skip_group-skip_field-requires t c =
    let b = bounds c.loop-at.invariant _ _ c.in_ok-value.ensures in
    (omega (arith, c.loop-at.invariant.ahead, b), b.inside)

pub skip_group-returns-in_err-at-in-3 : goal.skip_group-returns-in_err-at-in-3
skip_group-returns-in_err-at-in-3 t c =
    let p = err_from_is_err_and c.from_residual-in_err-at-in-3.result c.from_residual-in_err-at-in-3.ensures.1 in
    rw (p.1, p.2)
    (sym c.in_err-at-in-3.was ∙ lost c.loop-at.invariant _ _ c.in_ok-value.ensures (λ w. omega (arith, c.in-3.is)) _ c.skip_field.ensures _ c.in_err-at-in-3.was)

pub skip_group-loop-at-smaller-in-3 : goal.skip_group-loop-at-smaller-in-3
skip_group-loop-at-smaller-in-3 t c =
    let on = onward c.loop-at.invariant _ _ c.in_ok-value.ensures (λ w. omega (arith, c.in-3.is)) _ c.skip_field.ensures _ c.in_ok-at-in-3.was in
    omega (arith, on.0, bounds c.loop-at.invariant _ _ c.in_ok-value.ensures)

pub skip_group-loop-at-preserved-in-3 : goal.skip_group-loop-at-preserved-in-3
skip_group-loop-at-preserved-in-3 t c = (onward c.loop-at.invariant _ _ c.in_ok-value.ensures (λ w. omega (arith, c.in-3.is)) _ c.skip_field.ensures _ c.in_ok-at-in-3.was).1

-- the end-group tag

pub skip_group-returns-in-4 : goal.skip_group-returns-in-4
skip_group-returns-in-4 t c = closes c.loop-at.invariant _ _ c.in_ok-value.ensures c.in-4.is

-- any other value

pub skip_group-past_plain-requires : goal.skip_group-past_plain-requires
skip_group-past_plain-requires t c = (bounds c.loop-at.invariant _ _ c.in_ok-value.ensures).inside

pub skip_group-returns-in_err-at-in_default-w : goal.skip_group-returns-in_err-at-in_default-w
skip_group-returns-in_err-at-in_default-w t c =
    let p = err_from_is_err_and c.from_residual-in_err-at-in_default-w.result c.from_residual-in_err-at-in_default-w.ensures.1 in
    rw (p.1, p.2)
    (sym c.in_err-at-in_default-w.was
    ∙ lost_value c.loop-at.invariant _ _ c.in_ok-value.ensures _ c.past_plain.ensures (λ w. omega arith) (λ w. omega arith) _ c.in_err-at-in_default-w.was)

pub skip_group-loop-at-smaller : goal.skip_group-loop-at-smaller
skip_group-loop-at-smaller t c =
    let on = value c.loop-at.invariant _ _ c.in_ok-value.ensures _ c.past_plain.ensures _ c.in_ok-at-in_default-w.was in
    omega (arith, on.0, bounds c.loop-at.invariant _ _ c.in_ok-value.ensures)

pub skip_group-loop-at-preserved : goal.skip_group-loop-at-preserved
skip_group-loop-at-preserved t c = (value c.loop-at.invariant _ _ c.in_ok-value.ensures _ c.past_plain.ensures _ c.in_ok-at-in_default-w.was).1

-- the end of the bytes

pub skip_group-returns-then-outer : goal.skip_group-returns-then-outer
skip_group-returns-then-outer t c = ends_refused c.loop-at.invariant c.loop-at-test.false c.if-outer.true

pub skip_group-returns : goal.skip_group-returns
skip_group-returns t c = ends_closed c.loop-at.invariant c.loop-at-test.false c.if-outer.false
