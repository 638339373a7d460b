-- `wire::varint::encode::store_eight` meets its contract: the law of a byte after which another comes, eight times.
-- Assumes nothing.
use Prim.Native.Nat.{ℕ, ◌+◌, ◌<◌}
use mathlib.Core.List.{List}
use native.Mathlib.Omega.{arith}
use mathlib.Core.Path.{refl}
use lib.ListN.{length, set, length-set}
use Rattle.wire.proofs.VarintStores.{Storing, bytes_beyond, storing_begins, stored_byte}
use Rattle.wire.proofs.varint.encode.store_eight.Goals as goal
use Rattle.wire.proofs.varint.encode.store_eight.Goals.{Start}

-- eight bytes, with one more after them
eight : (c : Start) → c.args.at + 8 < length c.args.out.now
eight c = omega (arith, c.requires.1, bytes_beyond 8 c.args.value c.requires.0 (omega arith))

-- each place is inside, whatever was stored before it
module _ (out : List ℕ) (at : ℕ) (room : at + 8 < length out) where
  in_1 : (b1 : ℕ) → at + 1 < length (set out at b1)
  in_1 b1 = simp length-set (omega arith)

  in_2 : (b1 b2 : ℕ) → at + 2 < length (set (set out at b1) (at + 1) b2)
  in_2 b1 b2 = simp length-set (omega arith)

  in_3 : (b1 b2 b3 : ℕ) → at + 3 < length (set (set (set out at b1) (at + 1) b2) (at + 2) b3)
  in_3 b1 b2 b3 = simp length-set (omega arith)

  in_4 : (b1 b2 b3 b4 : ℕ) → at + 4 < length (set (set (set (set out at b1) (at + 1) b2) (at + 2) b3) (at + 3) b4)
  in_4 b1 b2 b3 b4 = simp length-set (omega arith)

  in_5 : (b1 b2 b3 b4 b5 : ℕ) → at + 5 < length (set (set (set (set (set out at b1) (at + 1) b2) (at + 2) b3) (at + 3) b4) (at + 4) b5)
  in_5 b1 b2 b3 b4 b5 = simp length-set (omega arith)

  in_6 : (b1 b2 b3 b4 b5 b6 : ℕ) → at + 6 < length (set (set (set (set (set (set out at b1) (at + 1) b2) (at + 2) b3) (at + 3) b4) (at + 4) b5) (at + 5) b6)
  in_6 b1 b2 b3 b4 b5 b6 = simp length-set (omega arith)

  in_7 : (b1 b2 b3 b4 b5 b6 b7 : ℕ) → at + 7 < length (set (set (set (set (set (set (set out at b1) (at + 1) b2) (at + 2) b3) (at + 3) b4) (at + 4) b5) (at + 5) b6) (at + 6) b7)
  in_7 b1 b2 b3 b4 b5 b6 b7 = simp length-set (omega arith)

pub bounds-out-at : goal.bounds-out-at
bounds-out-at c = omega (arith, eight (goal.at.bounds-out-at c).Start)

pub bounds-out-at-2 : goal.bounds-out-at-2
bounds-out-at-2 c = in_1 c.args.out.now c.args.at (eight (goal.at.bounds-out-at-2 c).Start) _

pub overflow_add-out-3 : goal.overflow_add-out-3
overflow_add-out-3 c = omega (arith, eight (goal.at.overflow_add-out-3 c).Start)

pub bounds-out-at-3 : goal.bounds-out-at-3
bounds-out-at-3 c = in_2 c.args.out.now c.args.at (eight (goal.at.bounds-out-at-3 c).Start) _ _

pub overflow_add-out-5 : goal.overflow_add-out-5
overflow_add-out-5 c = omega (arith, eight (goal.at.overflow_add-out-5 c).Start)

pub bounds-out-at-4 : goal.bounds-out-at-4
bounds-out-at-4 c = in_3 c.args.out.now c.args.at (eight (goal.at.bounds-out-at-4 c).Start) _ _ _

pub overflow_add-out-7 : goal.overflow_add-out-7
overflow_add-out-7 c = omega (arith, eight (goal.at.overflow_add-out-7 c).Start)

pub bounds-out-at-5 : goal.bounds-out-at-5
bounds-out-at-5 c = in_4 c.args.out.now c.args.at (eight (goal.at.bounds-out-at-5 c).Start) _ _ _ _

pub overflow_add-out-9 : goal.overflow_add-out-9
overflow_add-out-9 c = omega (arith, eight (goal.at.overflow_add-out-9 c).Start)

pub bounds-out-at-6 : goal.bounds-out-at-6
bounds-out-at-6 c = in_5 c.args.out.now c.args.at (eight (goal.at.bounds-out-at-6 c).Start) _ _ _ _ _

pub overflow_add-out-11 : goal.overflow_add-out-11
overflow_add-out-11 c = omega (arith, eight (goal.at.overflow_add-out-11 c).Start)

pub bounds-out-at-7 : goal.bounds-out-at-7
bounds-out-at-7 c = in_6 c.args.out.now c.args.at (eight (goal.at.bounds-out-at-7 c).Start) _ _ _ _ _ _

pub overflow_add-out-13 : goal.overflow_add-out-13
overflow_add-out-13 c = omega (arith, eight (goal.at.overflow_add-out-13 c).Start)

pub bounds-out-at-8 : goal.bounds-out-at-8
bounds-out-at-8 c = in_7 c.args.out.now c.args.at (eight (goal.at.bounds-out-at-8 c).Start) _ _ _ _ _ _ _

pub overflow_add-out-15 : goal.overflow_add-out-15
overflow_add-out-15 c = omega (arith, eight (goal.at.overflow_add-out-15 c).Start)

pub shape_of-out : goal.shape_of-out
shape_of-out c = simp length-set refl

pub returns : goal.returns
returns c =
    let a = c.args in
    let s0 : Storing a.value a.out.now a.at a.out.now a.value a.at = storing_begins c.requires.1 (omega arith) in
    let s1 = stored_byte s0 (omega arith) {j = a.at + 1} refl in
    let s2 = stored_byte s1 (omega arith) {j = a.at + 2} (omega arith) in
    let s3 = stored_byte s2 (omega arith) {j = a.at + 3} (omega arith) in
    let s4 = stored_byte s3 (omega arith) {j = a.at + 4} (omega arith) in
    let s5 = stored_byte s4 (omega arith) {j = a.at + 5} (omega arith) in
    let s6 = stored_byte s5 (omega arith) {j = a.at + 6} (omega arith) in
    let s7 = stored_byte s6 (omega arith) {j = a.at + 7} (omega arith) in
    let s8 = stored_byte s7 (omega arith) {j = a.at + 8} (omega arith) in
    (omega (arith, s8.place), s8.same)
