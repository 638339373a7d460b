-- `read::message::short_ints` meets its contract. Assumes nothing.
use native.Mathlib.Omega.{arith}
use mathlib.Core.Path.{refl}
use Rattle.spec.specs.Reading.{plainly}
use Rattle.read.proofs.Turn.{here, start}
use Rattle.read.proofs.FieldTurn.{int_within, int_stored}
use Rattle.read.proofs.message.short_ints.Goals as goal

pub loop-at-init : goal.loop-at-init
loop-at-init c = ((λ mode. here _ _ _ _ _ _ (omega arith) (omega arith)), refl)

pub short_at-requires : goal.short_at-requires
short_at-requires c = omega (arith, c.loop-at-test.true)

pub overflow_add-at : goal.overflow_add-at
overflow_add-at c = omega (arith, c.loop-at-test.true)

-- where the first tag is not of a varint; where the room has no place for a record, before the loop and in it
pub returns-then-s-at-ne-VARINT : goal.returns-then-s-at-ne-VARINT
returns-then-s-at-ne-VARINT c = λ mode. start _ _ _ _ (omega arith) (omega arith)

pub returns-then-room-lt-STRIDE : goal.returns-then-room-lt-STRIDE
returns-then-room-lt-STRIDE c = λ mode. start _ _ _ _ (omega arith) (omega arith)

pub returns-then-most-to : goal.returns-then-most-to
returns-then-most-to c = λ mode. (c.loop-at.invariant.0 mode).further

pub returns-in_default : goal.returns-in_default
returns-in_default c = λ mode. (c.loop-at.invariant.0 mode).further

pub returns-in_default-short_at : goal.returns-in_default-short_at
returns-in_default-short_at c = λ mode. (c.loop-at.invariant.0 mode).further

pub returns-in_default-meaning_of : goal.returns-in_default-meaning_of
returns-in_default-meaning_of c = λ mode. (c.loop-at.invariant.0 mode).further

pub overflow_add-n : goal.overflow_add-n
overflow_add-n c = omega (arith, c.requires, int_within _ _ _ (c.loop-at.invariant.0 plainly) (omega (arith, c.loop-at-test.true)) c.int_kind.ensures c.in-Some.is c.short_at.ensures c.in-Some-short_at.is c.meaning_of.ensures c.in-Some-meaning_of.is)

pub overflow_add-here-in-loop-at : goal.overflow_add-here-in-loop-at
overflow_add-here-in-loop-at c = omega (arith, c.requires, c.loop-at.invariant.1, int_within _ _ _ (c.loop-at.invariant.0 plainly) (omega (arith, c.loop-at-test.true)) c.int_kind.ensures c.in-Some.is c.short_at.ensures c.in-Some-short_at.is c.meaning_of.ensures c.in-Some-meaning_of.is)

pub overflow_add-at-in-loop-at : goal.overflow_add-at-in-loop-at
overflow_add-at-in-loop-at c = omega (arith, c.requires, int_within _ _ _ (c.loop-at.invariant.0 plainly) (omega (arith, c.loop-at-test.true)) c.int_kind.ensures c.in-Some.is c.short_at.ensures c.in-Some-short_at.is c.meaning_of.ensures c.in-Some-meaning_of.is)

pub overflow_add-tag : goal.overflow_add-tag
overflow_add-tag c = omega (arith, c.requires, c.loop-at.invariant.1, int_within _ _ _ (c.loop-at.invariant.0 plainly) (omega (arith, c.loop-at-test.true)) c.int_kind.ensures c.in-Some.is c.short_at.ensures c.in-Some-short_at.is c.meaning_of.ensures c.in-Some-meaning_of.is)

pub put-to-requires : goal.put-to-requires
put-to-requires c = omega (arith, c.if-most-to.false, c.if-room-lt-STRIDE.false, (c.loop-at.invariant.0 plainly).further.kept)

pub loop-at-smaller : goal.loop-at-smaller
loop-at-smaller c = omega (arith, c.requires, int_within _ _ _ (c.loop-at.invariant.0 plainly) (omega (arith, c.loop-at-test.true)) c.int_kind.ensures c.in-Some.is c.short_at.ensures c.in-Some-short_at.is c.meaning_of.ensures c.in-Some-meaning_of.is)

pub loop-at-preserved : goal.loop-at-preserved
loop-at-preserved c = (
  (λ mode.
      int_stored _ _ _ (c.loop-at.invariant.0 mode) (omega (arith, c.loop-at-test.true)) c.int_kind.ensures c.in-Some.is c.short_at.ensures c.in-Some-short_at.is c.meaning_of.ensures c.in-Some-meaning_of.is
      c.loop-at.invariant.1 (omega (arith, c.if-most-to.false, c.if-room-lt-STRIDE.false, (c.loop-at.invariant.0 plainly).further.kept)) (rw c.from.ensures at c.put-to.ensures.0) c.put-to.ensures.1),
  omega (arith, c.loop-at.invariant.1),
)

pub returns : goal.returns
returns c = λ mode. (c.loop-at.invariant.0 mode).further
