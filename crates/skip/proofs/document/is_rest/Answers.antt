-- `skip::document::is_rest` meets its contract. The loop's invariant: what is to be said of all the bytes is what is said from here, with
-- the groups that are open. Assumes nothing.
use Rattle.std.proofs.Common.{arith, ℕ, zero, suc, ◌<◌, ◌≡◌, ◌↔◌, refl, sym, ap, ◌∙◌, Option, None, IsSome, is_some, true≢false, eqb-true}
use Rattle.std.proofs.lemmas.Bool.{eqb-false}
use Rattle.wire.specs.Answers.{as_read}
use Rattle.skip.proofs.DocumentTurn.{finish, bad_varint_lem, no_number, bounds, stores, full, takes_off, other_stored, nothing_open, value_of, no_value_of}
use Rattle.skip.proofs.document.is_rest.Goals as goal

pub returns-in_default : goal.returns-in_default
returns-in_default c = bad_varint_lem c.loop-at.invariant _ c.loop-at-test.true (ap (as_read _) (sym c.in_default.is) ∙ c.raw_tag_at.ensures)

pub returns-then-value-lt8 : goal.returns-then-value-lt8
returns-then-value-lt8 c =
    no_number c.loop-at.invariant _ _ c.in-Ok.ensures (omega arith)

pub quick_value-requires : goal.quick_value-requires
quick_value-requires c =
    (bounds c.loop-at.invariant _ _ c.in-Ok.ensures).inside

pub loop-at-smaller-in-Some : goal.loop-at-smaller-in-Some
loop-at-smaller-in-Some c =
    let on = value_of c.loop-at.invariant _ _ c.in-Ok.ensures (omega arith) _ (rw c.in-Some.is at c.quick_value.ensures) in
    omega (arith, on.0, bounds c.loop-at.invariant _ _ c.in-Ok.ensures)

pub loop-at-preserved-in-Some : goal.loop-at-preserved-in-Some
loop-at-preserved-in-Some c =
    (value_of c.loop-at.invariant _ _ c.in-Ok.ensures (omega arith) _ (rw c.in-Some.is at c.quick_value.ensures)).1

pub overflow_cast-number : goal.overflow_cast-number
overflow_cast-number c =
    omega (arith, bounds c.loop-at.invariant _ _ c.in-Ok.ensures)

-- a group begins
pub returns-then-is_full : goal.returns-then-is_full
returns-then-is_full c =
    let all = eqb-true _ _ (sym c.is_full.ensures.value ∙ c.if-is_full.true) in
    full c.loop-at.numbers.items c.loop-at.invariant _ _ c.in-Ok.ensures (omega arith) c.in-3.is (omega (arith, all))

pub loop-at-smaller-in-3 : goal.loop-at-smaller-in-3
loop-at-smaller-in-3 c =
    omega (arith, bounds c.loop-at.invariant _ _ c.in-Ok.ensures)

pub loop-at-preserved-in-3 : goal.loop-at-preserved-in-3
loop-at-preserved-in-3 c =
    let some = eqb-false _ _ (sym c.is_full.ensures.value ∙ c.if-is_full.false) in
    stores c.loop-at.numbers.items c.loop-at.invariant _ _ c.in-Ok.ensures (omega arith) c.in-3.is (omega (arith, some, c.is_full.ensures.fits)) c.push-in-3.ensures.items

-- and ends
none_left : (o : Option ℕ) (n : ℕ) → o ≡ None → IsSome o ↔ (0 < n) → n ≡ 0
none_left o zero e h = refl
none_left o (suc n) e h = let x : IsSome o = h.1 (omega arith) in absurd (true≢false (sym x ∙ ap is_some e))

pub returns-in_default-pop : goal.returns-in_default-pop
returns-in_default-pop c =
    nothing_open c.loop-at.numbers.items c.loop-at.invariant _ _ c.in-Ok.ensures (omega arith) c.in-4.is (none_left _ _ c.in_default-pop.is c.pop.ensures.variant)

pub returns-then-opened-number : goal.returns-then-opened-number
returns-then-opened-number c =
    other_stored c.loop-at.numbers.items c.loop-at.invariant _ _ c.in-Ok.ensures (omega arith) c.in-4.is _ _ (rw c.in-Some-pop.is at c.pop.ensures.items)
    (λ same. c.if-opened-number.true (omega (arith, same)))

pub loop-at-smaller-in-4 : goal.loop-at-smaller-in-4
loop-at-smaller-in-4 c =
    omega (arith, bounds c.loop-at.invariant _ _ c.in-Ok.ensures)

pub loop-at-preserved-in-4 : goal.loop-at-preserved-in-4
loop-at-preserved-in-4 c =
    takes_off c.loop-at.numbers.items c.loop-at.invariant _ _ c.in-Ok.ensures (omega arith) c.in-4.is _ _ (rw c.in-Some-pop.is at c.pop.ensures.items) (omega (arith, c.if-opened-number.false))

pub past_plain-requires : goal.past_plain-requires
past_plain-requires c =
    (bounds c.loop-at.invariant _ _ c.in-Ok.ensures).inside

pub returns-in_default-past_plain : goal.returns-in_default-past_plain
returns-in_default-past_plain c =
    no_value_of c.loop-at.invariant _ _ c.in-Ok.ensures (omega arith) _ (λ e. omega arith) (λ e. omega arith) (sym c.in_default-past_plain.is ∙ c.past_plain.ensures)

-- after a value
pub loop-at-smaller : goal.loop-at-smaller
loop-at-smaller c =
    let on = value_of c.loop-at.invariant _ _ c.in-Ok.ensures (omega arith) _ (sym c.in-Ok-past_plain.is ∙ c.past_plain.ensures) in
    omega (arith, on.0, bounds c.loop-at.invariant _ _ c.in-Ok.ensures)

pub loop-at-preserved : goal.loop-at-preserved
loop-at-preserved c =
    (value_of c.loop-at.invariant _ _ c.in-Ok.ensures (omega arith) _ (sym c.in-Ok-past_plain.is ∙ c.past_plain.ensures)).1

pub returns : goal.returns
returns c = rw c.is_empty.ensures (finish c.loop-at.numbers.items c.loop-at.invariant c.loop-at-test.false)

pub loop-at-init : goal.loop-at-init
loop-at-init c = record { says = rw (c.push.ensures.items, c.new-numbers.ensures) refl }
