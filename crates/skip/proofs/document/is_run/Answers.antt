-- `skip::document::is_run` meets its contract. The loop's invariant: what is to be said of all the bytes is what is said from here, with
-- no group open. Assumes nothing.
use mathlib.Core.Path.{refl, sym, ap, ◌∙◌}
use native.Mathlib.Omega.{arith}
use Rattle.wire.specs.Answers.{as_read}
use Rattle.skip.proofs.DocumentTurn.{no_more, bad_varint_lem, no_number, bounds, judged, opens, value_of, none_outside}
use Rattle.skip.proofs.document.is_run.Goals as goal

pub returns-in_default : goal.returns-in_default
returns-in_default c = bad_varint_lem c.loop-at.invariant _ c.loop-at-test.true (ap (as_read _) (sym c.in_default.is) ∙ c.raw_tag_at.ensures)

pub returns-then-value-lt8 : goal.returns-then-value-lt8
returns-then-value-lt8 c =
    no_number c.loop-at.invariant _ _ c.in-Ok.ensures (omega arith)

pub quick_value-requires : goal.quick_value-requires
quick_value-requires c =
    (bounds c.loop-at.invariant _ _ c.in-Ok.ensures).inside

pub loop-at-smaller-in-Some : goal.loop-at-smaller-in-Some
loop-at-smaller-in-Some c =
    let on = value_of c.loop-at.invariant _ _ c.in-Ok.ensures (omega arith) _ (rw c.in-Some.is at c.quick_value.ensures) in
    omega (arith, on.0, bounds c.loop-at.invariant _ _ c.in-Ok.ensures)

pub loop-at-preserved-in-Some : goal.loop-at-preserved-in-Some
loop-at-preserved-in-Some c =
    (value_of c.loop-at.invariant _ _ c.in-Ok.ensures (omega arith) _ (rw c.in-Some.is at c.quick_value.ensures)).1

pub overflow_cast-number : goal.overflow_cast-number
overflow_cast-number c =
    omega (arith, bounds c.loop-at.invariant _ _ c.in-Ok.ensures)

-- a group: what is said of the rest, where it is open
pub returns-then-w-eq-START_GROUP : goal.returns-then-w-eq-START_GROUP
returns-then-w-eq-START_GROUP c =
    let w = c.if-w-eq-START_GROUP.true in
    c.is_rest.ensures ∙ sym (opens c.loop-at.invariant _ _ (judged c.loop-at.invariant _ _ c.in-Ok.ensures (omega arith) (omega arith)) w (omega arith)).says

pub past_plain-requires : goal.past_plain-requires
past_plain-requires c =
    (bounds c.loop-at.invariant _ _ c.in-Ok.ensures).inside

pub returns-in_default-past_plain : goal.returns-in_default-past_plain
returns-in_default-past_plain c =
    none_outside c.loop-at.invariant _ _ c.in-Ok.ensures (omega arith) _ refl c.if-w-eq-START_GROUP.false (sym c.in_default-past_plain.is ∙ c.past_plain.ensures)

-- after a value
pub loop-at-smaller : goal.loop-at-smaller
loop-at-smaller c =
    let on = value_of c.loop-at.invariant _ _ c.in-Ok.ensures (omega arith) _ (sym c.in-Ok-past_plain.is ∙ c.past_plain.ensures) in
    omega (arith, on.0, bounds c.loop-at.invariant _ _ c.in-Ok.ensures)

pub loop-at-preserved : goal.loop-at-preserved
loop-at-preserved c =
    (value_of c.loop-at.invariant _ _ c.in-Ok.ensures (omega arith) _ (sym c.in-Ok-past_plain.is ∙ c.past_plain.ensures)).1

pub returns : goal.returns
returns c = no_more c.loop-at.invariant c.loop-at-test.false

pub loop-at-init : goal.loop-at-init
loop-at-init c = record { says = refl }
