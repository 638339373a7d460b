-- `segment::reading::quick` meets its contract. Assumes nothing.
use Prim.Native.Nat.{ℕ, ◌+◌, ◌<◌}
use native.Mathlib.Omega.{arith}
use mathlib.Core.Path.{◌≡◌, refl, ap₂, ◌∙◌}
use mathlib.Core.List.{List}
use lib.ListN.{length, drop, get_or, length-set}
use Rattle.spec.specs.Base.{Read}
use Rattle.spec.specs.Varint.{varint32}
use Rattle.spec.proofs.VarintLaws.{top}
use Rattle.wire.specs.Answers.{as_read, value_at}
use Rattle.wire.proofs.FoundLaws.{Placed, varint_placed}
use Rattle.segment.proofs.ShortLengths.{one, two, three}
use Rattle.segment.proofs.EmitLaws.{stores, message_there}
use Rattle.segment.proofs.reading.quick.Goals as goal
use Rattle.segment.proofs.reading.quick.Goals.{Joined-b0-ge128, then-b0-ge128+then-b1-ge128+else-b2-ge128, then-b0-ge128+else-b1-ge128, else-b0-ge128}

-- the length that the next message has, by the number of its bytes
length_read : (c : Joined-b0-ge128) → as_read c.loop-at.at (value_at c.if-b0-ge128.n c.if-b0-ge128.next) ≡ varint32 (drop c.loop-at.at c.args.s.now)
length_read c =
    let s : List ℕ = c.args.s.now in
    let at : ℕ = c.loop-at.at in
    let inside : at + 2 < length s = omega arith in
    let byte : (i : ℕ) → get_or s i 0 < 256 = λ i. (c.type_inv.s i).fits in
    let read : ℕ → ℕ → Read = λ n next. as_read at (value_at n next) in
    elim c.if-b0-ge128.branch [
      | then-b0-ge128+then-b1-ge128+else-b2-ge128 w ↦
          ap₂ read w.n-is w.next-is ∙ three s at inside w.if-b0-ge128.true (byte at) w.if-b1-ge128.true (byte (at + 1)) w.if-b2-ge128.false
      | then-b0-ge128+else-b1-ge128 w ↦ ap₂ read w.n-is w.next-is ∙ two s at inside w.if-b0-ge128.true (byte at) w.if-b1-ge128.false
      | else-b0-ge128 w ↦ ap₂ read w.n-is w.next-is ∙ one s at inside w.if-b0-ge128.false
    ]

placed : (c : Joined-b0-ge128) → Placed (top 4 15) c.args.s.now c.loop-at.at c.if-b0-ge128.n c.if-b0-ge128.next
placed c = varint_placed 4 15 _ _ (length_read c) refl

pub overflow_cast-b0 : goal.overflow_cast-b0
overflow_cast-b0 c = omega (arith, c.type_inv.s c.loop-at.at)

pub overflow_cast-b1 : goal.overflow_cast-b1
overflow_cast-b1 c = omega (arith, c.type_inv.s (c.loop-at.at + 1))

pub overflow_mul-n : goal.overflow_mul-n
overflow_mul-n c = omega (arith, c.type_inv.s (c.loop-at.at + 1))

pub overflow_add-n : goal.overflow_add-n
overflow_add-n c =
    let at = c.loop-at.at in
    omega (arith, c.type_inv.s at, c.type_inv.s (at + 1))

pub overflow_cast-b2 : goal.overflow_cast-b2
overflow_cast-b2 c = omega (arith, c.type_inv.s (c.loop-at.at + 2))

pub overflow_add-n-then-b1-ge128 : goal.overflow_add-n-then-b1-ge128
overflow_add-n-then-b1-ge128 c =
    let at = c.loop-at.at in
    omega (arith, c.type_inv.s at, c.type_inv.s (at + 1))

pub overflow_sub-s : goal.overflow_sub-s
overflow_sub-s c = (placed (goal.at.overflow_sub-s c).Joined-b0-ge128).inside

pub bounds-room-to-in-loop-at : goal.bounds-room-to-in-loop-at
bounds-room-to-in-loop-at c = simp length-set (omega arith)

pub loop-at-smaller : goal.loop-at-smaller
loop-at-smaller c = omega (arith, (placed (goal.at.loop-at-smaller c).Joined-b0-ge128).past, c.if-s-next.false)

pub loop-at-preserved : goal.loop-at-preserved
loop-at-preserved c =
    let j = (goal.at.loop-at-preserved c).Joined-b0-ge128 in
    stores c.loop-at.invariant (message_there _ _ _ _ (length_read j) c.if-s-next.false) (omega (arith, (placed j).past)) (omega (arith, (placed j).inside, c.if-s-next.false))
    c.if-most-to.false c.requires.3
