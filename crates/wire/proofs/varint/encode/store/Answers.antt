-- `wire::varint::encode::store` meets its contract. The eight bytes at once and both loops keep `Storing`, whose laws answer each store; the loops' measure is what is
-- still to be stored.
-- Assumes nothing.
use Prim.Native.Nat.{◌+◌, ◌<◌}
use native.Mathlib.Omega.{arith}
use mathlib.Core.Path.{refl, ap}
use lib.ListN.{length, length-set}
use Rattle.wire.proofs.VarintStores.{Storing, encode_ends, bytes_beyond, storing_begins, storing_left, storing_on, stored_byte, stored_last}
use Rattle.wire.proofs.varint.encode.store.Goals as goal
use Rattle.wire.proofs.varint.encode.store.Goals.{After-loop-v-2, Else-v-lt128, In-loop-v, In-loop-v-2, Joined-v-ge-NINE_BYTES, then-v-ge-NINE_BYTES, else-v-ge-NINE_BYTES}

pub store_eight-v-requires : goal.store_eight-v-requires
store_eight-v-requires c = (c.if-v-ge-NINE_BYTES.true, c.requires)

-- before the loops, whether eight bytes were stored or none
joined : (c : Joined-v-ge-NINE_BYTES) →
    let a = c.args in
    Storing a.value a.out.now a.at c.if-v-ge-NINE_BYTES.out c.if-v-ge-NINE_BYTES.v c.if-v-ge-NINE_BYTES.i
joined c =
    elim c.if-v-ge-NINE_BYTES.branch [
      | then-v-ge-NINE_BYTES w ↦
          rw (w.out-is, w.v-is, w.i-is) (storing_left (omega (arith, w.store_eight-v.ensures.0)) w.store_eight-v.ensures.1 (omega arith) c.requires (omega arith))
      | else-v-ge-NINE_BYTES w ↦ rw (w.out-is, w.v-is, w.i-is) (storing_begins c.requires (omega arith))
    ]

pub loop-v-init : goal.loop-v-init
loop-v-init c =
    let places = goal.at.loop-v-init c in
    storing_begins (joined places.Joined-v-ge-NINE_BYTES).room (joined places.Joined-v-ge-NINE_BYTES).below

-- four bytes, with one more after them
four : (c : In-loop-v) → c.loop-v.i + 4 < length c.loop-v.out
four c = omega (arith, bytes_beyond 4 c.loop-v.v c.loop-v-test.true c.loop-v.invariant.below)

pub bounds-out-i : goal.bounds-out-i
bounds-out-i c = omega (arith, four (goal.at.bounds-out-i c).In-loop-v)

pub bounds-out-i-in-loop-v : goal.bounds-out-i-in-loop-v
bounds-out-i-in-loop-v c = simp length-set (omega (arith, four (goal.at.bounds-out-i-in-loop-v c).In-loop-v))

pub bounds-out-i-in-loop-v-2 : goal.bounds-out-i-in-loop-v-2
bounds-out-i-in-loop-v-2 c = simp length-set (omega (arith, four (goal.at.bounds-out-i-in-loop-v-2 c).In-loop-v))

pub bounds-out-i-in-loop-v-3 : goal.bounds-out-i-in-loop-v-3
bounds-out-i-in-loop-v-3 c = simp length-set (omega (arith, four (goal.at.bounds-out-i-in-loop-v-3 c).In-loop-v))

pub overflow_add-out-in-loop-v-2 : goal.overflow_add-out-in-loop-v-2
overflow_add-out-in-loop-v-2 c =
    let places = goal.at.overflow_add-out-in-loop-v-2 c in
    omega (arith, four places.In-loop-v, (joined places.Joined-v-ge-NINE_BYTES).long)

pub overflow_add-out-in-loop-v-4 : goal.overflow_add-out-in-loop-v-4
overflow_add-out-in-loop-v-4 c =
    let places = goal.at.overflow_add-out-in-loop-v-4 c in
    omega (arith, four places.In-loop-v, (joined places.Joined-v-ge-NINE_BYTES).long)

pub overflow_add-out-in-loop-v-6 : goal.overflow_add-out-in-loop-v-6
overflow_add-out-in-loop-v-6 c =
    let places = goal.at.overflow_add-out-in-loop-v-6 c in
    omega (arith, four places.In-loop-v, (joined places.Joined-v-ge-NINE_BYTES).long)

pub overflow_add-i-in-loop-v : goal.overflow_add-i-in-loop-v
overflow_add-i-in-loop-v c =
    let places = goal.at.overflow_add-i-in-loop-v c in
    omega (arith, four places.In-loop-v, (joined places.Joined-v-ge-NINE_BYTES).long)

pub loop-v-preserved : goal.loop-v-preserved
loop-v-preserved c = stored_byte (stored_byte (stored_byte (stored_byte c.loop-v.invariant (omega arith) refl) (omega arith) (omega arith)) (omega arith) (omega arith)) (omega arith) (omega arith)

pub loop-v-2-init : goal.loop-v-2-init
loop-v-2-init c = storing_begins c.loop-v.invariant.room c.loop-v.invariant.below

-- two bytes, with one more after them
two : (c : In-loop-v-2) → c.loop-v-2.i + 2 < length c.loop-v-2.out
two c = omega (arith, bytes_beyond 2 c.loop-v-2.v c.loop-v-2-test.true c.loop-v-2.invariant.below)

pub bounds-out-i-in-loop-v-2-2 : goal.bounds-out-i-in-loop-v-2-2
bounds-out-i-in-loop-v-2-2 c = omega (arith, two (goal.at.bounds-out-i-in-loop-v-2-2 c).In-loop-v-2)

pub bounds-out-i-in-loop-v-2-3 : goal.bounds-out-i-in-loop-v-2-3
bounds-out-i-in-loop-v-2-3 c = simp length-set (omega (arith, two (goal.at.bounds-out-i-in-loop-v-2-3 c).In-loop-v-2))

pub overflow_add-out-in-loop-v-2-4 : goal.overflow_add-out-in-loop-v-2-4
overflow_add-out-in-loop-v-2-4 c =
    let places = goal.at.overflow_add-out-in-loop-v-2-4 c in
    omega (arith, two places.In-loop-v-2, (joined places.Joined-v-ge-NINE_BYTES).long)

pub overflow_add-i-in-loop-v-2 : goal.overflow_add-i-in-loop-v-2
overflow_add-i-in-loop-v-2 c =
    let places = goal.at.overflow_add-i-in-loop-v-2 c in
    omega (arith, two places.In-loop-v-2, (joined places.Joined-v-ge-NINE_BYTES).long)

pub loop-v-2-preserved : goal.loop-v-2-preserved
loop-v-2-preserved c = stored_byte (stored_byte c.loop-v-2.invariant (omega arith) refl) (omega arith) (omega arith)

-- after both loops
whole : (c : After-loop-v-2)
    → let a = c.args in
    Storing a.value a.out.now a.at c.loop-v-2.out c.loop-v-2.v c.loop-v-2.i
whole c =
    let joined : let a = c.args in
    Storing a.value a.out.now a.at c.if-v-ge-NINE_BYTES.out c.if-v-ge-NINE_BYTES.v c.if-v-ge-NINE_BYTES.i = elim c.if-v-ge-NINE_BYTES.branch [
      | then-v-ge-NINE_BYTES w ↦
          rw (w.out-is, w.v-is, w.i-is) (storing_left (omega (arith, w.store_eight-v.ensures.0)) w.store_eight-v.ensures.1 (omega arith) c.requires (omega arith))
      | else-v-ge-NINE_BYTES w ↦ rw (w.out-is, w.v-is, w.i-is) (storing_begins c.requires (omega arith))
    ] in
    storing_on (storing_on (joined) c.loop-v.invariant) c.loop-v-2.invariant

pub bounds-out-i-then-v-lt128 : goal.bounds-out-i-then-v-lt128
bounds-out-i-then-v-lt128 c = omega (arith, (whole (goal.at.bounds-out-i-then-v-lt128 c).After-loop-v-2).room, ap length (encode_ends c.loop-v-2.v (omega arith)))

pub overflow_add-result : goal.overflow_add-result
overflow_add-result c =
    let whole-here = whole (goal.at.overflow_add-result c).After-loop-v-2 in
    omega (arith, whole-here.room, ap length (encode_ends c.loop-v-2.v (omega arith)), whole-here.long)

pub shape_of-out-then-v-lt128 : goal.shape_of-out-then-v-lt128
shape_of-out-then-v-lt128 c = simp length-set (whole (goal.at.shape_of-out-then-v-lt128 c).After-loop-v-2).long

pub returns-then-v-lt128 : goal.returns-then-v-lt128
returns-then-v-lt128 c = stored_last (whole (goal.at.returns-then-v-lt128 c).After-loop-v-2) (omega arith) refl

-- one byte, with one more after it
one : (c : Else-v-lt128) → c.loop-v-2.i + 1 < length c.loop-v-2.out
one c = omega (arith, bytes_beyond 1 c.loop-v-2.v (omega arith) c.loop-v-2.invariant.below)

pub bounds-out-i-2 : goal.bounds-out-i-2
bounds-out-i-2 c = omega (arith, one (goal.at.bounds-out-i-2 c).Else-v-lt128)

pub bounds-out-i-3 : goal.bounds-out-i-3
bounds-out-i-3 c = simp length-set (omega (arith, one (goal.at.bounds-out-i-3 c).Else-v-lt128))

pub overflow_add-out-3 : goal.overflow_add-out-3
overflow_add-out-3 c =
    let places = goal.at.overflow_add-out-3 c in
    omega (arith, one places.Else-v-lt128, (whole places.After-loop-v-2).long)

pub overflow_add-result-2 : goal.overflow_add-result-2
overflow_add-result-2 c =
    let places = goal.at.overflow_add-result-2 c in
    omega (arith, one places.Else-v-lt128, (whole places.After-loop-v-2).long)

pub shape_of-out : goal.shape_of-out
shape_of-out c = simp length-set (whole (goal.at.shape_of-out c).After-loop-v-2).long

pub returns : goal.returns
returns c = stored_last (stored_byte (whole (goal.at.returns c).After-loop-v-2) (omega arith) refl) (omega arith) (omega arith)
