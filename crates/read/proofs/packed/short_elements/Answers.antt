-- `read::packed::short_elements` meets its contract. Assumes nothing.
use native.Mathlib.Omega.{arith}
use mathlib.Core.Path.{refl}
use Rattle.read.proofs.Turn.{here, start, short_within, short_stored}
use Rattle.read.proofs.packed.short_elements.Goals as goal

pub loop-at-init : goal.loop-at-init
loop-at-init c = (here _ _ _ _ _ _ (omega arith) (omega arith), refl)

-- where the room has no place for a record, before the loop and in it
pub returns-then-room-lt-STRIDE : goal.returns-then-room-lt-STRIDE
returns-then-room-lt-STRIDE c = start _ _ _ _ (omega arith) (omega arith)

pub returns-then-most-to : goal.returns-then-most-to
returns-then-most-to c = c.loop-at.invariant.0.further

pub returns-in_default : goal.returns-in_default
returns-in_default c = c.loop-at.invariant.0.further

pub returns-in_default-meaning_of : goal.returns-in_default-meaning_of
returns-in_default-meaning_of c = c.loop-at.invariant.0.further

pub overflow_add-end : goal.overflow_add-end
overflow_add-end c = omega (arith, c.loop-at.invariant.1, short_within _ _ _ _ c.loop-at.invariant.0 c.loop-at-test.true c.short_at.ensures c.in-Some.is c.meaning_of.ensures c.in-Some-meaning_of.is)

pub overflow_add-at : goal.overflow_add-at
overflow_add-at c = omega (arith, short_within _ _ _ _ c.loop-at.invariant.0 c.loop-at-test.true c.short_at.ensures c.in-Some.is c.meaning_of.ensures c.in-Some-meaning_of.is)

pub put-to-requires : goal.put-to-requires
put-to-requires c = omega (arith, c.if-most-to.false, c.if-room-lt-STRIDE.false, c.loop-at.invariant.0.further.kept)

pub loop-at-smaller : goal.loop-at-smaller
loop-at-smaller c = omega (arith, short_within _ _ _ _ c.loop-at.invariant.0 c.loop-at-test.true c.short_at.ensures c.in-Some.is c.meaning_of.ensures c.in-Some-meaning_of.is)

pub loop-at-preserved : goal.loop-at-preserved
loop-at-preserved c = (
  short_stored _ _ _ _ c.loop-at.invariant.0 c.loop-at-test.true c.short_at.ensures c.in-Some.is c.meaning_of.ensures c.in-Some-meaning_of.is
      c.loop-at.invariant.1 (omega (arith, c.if-most-to.false, c.if-room-lt-STRIDE.false, c.loop-at.invariant.0.further.kept)) c.put-to.ensures.0 c.put-to.ensures.1,
  omega (arith, c.loop-at.invariant.1),
)

pub returns : goal.returns
returns c = c.loop-at.invariant.0.further
