-- `wire::varint::decode::of_ten` meets its contract: each byte by its law of `VarintSteps`, at the width of the flag.
-- Assumes nothing.
use Prim.Native.Nat.{ℕ, suc, ◌+◌, ◌*◌, ◌%◌, ◌≤◌, ◌<◌}
use native.Mathlib.Omega.{arith}
use mathlib.Core.Path.{◌≡◌}
use mathlib.Core.Bool.{Bool}
use mathlib.Core.List.{List}
use lib.ListN.{length, get_or, drop}
use Rattle.wire.specs.Reached.{Reached, varint_of}
use Rattle.wire.specs.Answers.{as_read, value_at}
use Rattle.wire.proofs.VarintSteps.{either_width, first_byte, stopped, turned}
use Rattle.wire.proofs.varint.decode.of_ten.Goals as goal

-- what is known after each byte, of numbers alone
module _ (s : List ℕ) (at : ℕ) (fits : at + 10 ≤ length s) (big0 : 128 ≤ get_or s at 0) where
  one : (k last : ℕ) → Reached (suc k) last s at 1 k (get_or s at 0 % 128)
  one k last = first_byte k last s at (omega arith) big0

  two : 128 ≤ get_or s (at + 1) 0 → (k last : ℕ) → Reached (suc (suc k)) last s at 2 k (get_or s at 0 % 128 + get_or s (at + 1) 0 % 128 * 128)
  two big1 k last = turned (omega arith) (one (suc k) last) big1

  three : 128 ≤ get_or s (at + 1) 0 → 128 ≤ get_or s (at + 2) 0 → (k last : ℕ)
      → Reached (suc (suc (suc k))) last s at 3 k (get_or s at 0 % 128 + get_or s (at + 1) 0 % 128 * 128 + get_or s (at + 2) 0 % 128 * 0x4000)
  three big1 big2 k last = turned (omega arith) (two big1 (suc k) last) big2

  four : 128 ≤ get_or s (at + 1) 0 → 128 ≤ get_or s (at + 2) 0 → 128 ≤ get_or s (at + 3) 0 → (k last : ℕ)
      → Reached (suc (suc (suc (suc k)))) last s at 4 k (get_or s at 0 % 128 + get_or s (at + 1) 0 % 128 * 128 + get_or s (at + 2) 0 % 128 * 0x4000 + get_or s (at + 3) 0 % 128 * 0x20_0000)
  four big1 big2 big3 k last = turned (omega arith) (three big1 big2 (suc k) last) big3

  ends_1 : (narrow : Bool) → get_or s (at + 1) 0 < 128 → as_read at (value_at (get_or s at 0 % 128 + get_or s (at + 1) 0 % 128 * 128) (at + 2)) ≡ varint_of narrow (drop at s)
  ends_1 narrow small = either_width narrow (drop at s) λ k last. stopped (omega arith) (one (suc (suc (suc k))) last) small

  ends_2 : (narrow : Bool) → 128 ≤ get_or s (at + 1) 0 → get_or s (at + 2) 0 < 128
      → as_read at (value_at (get_or s at 0 % 128 + get_or s (at + 1) 0 % 128 * 128 + get_or s (at + 2) 0 % 128 * 0x4000) (at + 3)) ≡ varint_of narrow (drop at s)
  ends_2 narrow big1 small = either_width narrow (drop at s) λ k last. stopped (omega arith) (two big1 (suc (suc k)) last) small

  ends_3 : (narrow : Bool) → 128 ≤ get_or s (at + 1) 0 → 128 ≤ get_or s (at + 2) 0 → get_or s (at + 3) 0 < 128
      → as_read at (value_at (get_or s at 0 % 128 + get_or s (at + 1) 0 % 128 * 128 + get_or s (at + 2) 0 % 128 * 0x4000 + get_or s (at + 3) 0 % 128 * 0x20_0000) (at + 4)) ≡ varint_of narrow (drop at s)
  ends_3 narrow big1 big2 small = either_width narrow (drop at s) λ k last. stopped (omega arith) (three big1 big2 (suc k) last) small

pub overflow_cast-b0 : goal.overflow_cast-b0
overflow_cast-b0 c = omega (arith, c.type_inv.s c.args.at)

pub overflow_cast-b1 : goal.overflow_cast-b1
overflow_cast-b1 c = omega (arith, c.type_inv.s (c.args.at + 1))

pub returns-then-b1-lt128 : goal.returns-then-b1-lt128
returns-then-b1-lt128 c = ends_1 c.args.s.now c.args.at c.requires.0 c.requires.1 c.args.narrow c.if-b1-lt128.true

pub overflow_cast-b2 : goal.overflow_cast-b2
overflow_cast-b2 c = omega (arith, c.type_inv.s (c.args.at + 2))

pub returns-then-b2-lt128 : goal.returns-then-b2-lt128
returns-then-b2-lt128 c = ends_2 c.args.s.now c.args.at c.requires.0 c.requires.1 c.args.narrow c.if-b1-lt128.false c.if-b2-lt128.true

pub overflow_cast-b3 : goal.overflow_cast-b3
overflow_cast-b3 c = omega (arith, c.type_inv.s (c.args.at + 3))

pub returns-then-b3-lt128 : goal.returns-then-b3-lt128
returns-then-b3-lt128 c = ends_3 c.args.s.now c.args.at c.requires.0 c.requires.1 c.args.narrow c.if-b1-lt128.false c.if-b2-lt128.false c.if-b3-lt128.true

pub fifth_of_five-requires : goal.fifth_of_five-requires
fifth_of_five-requires c = (c.requires.0, four c.args.s.now c.args.at c.requires.0 c.requires.1 c.if-b1-lt128.false c.if-b2-lt128.false c.if-b3-lt128.false 0 15)

pub returns-then-narrow : goal.returns-then-narrow
returns-then-narrow c = rw c.if-narrow.true c.fifth_of_five.ensures

pub from_fifth-requires : goal.from_fifth-requires
from_fifth-requires c = (c.requires.0, four c.args.s.now c.args.at c.requires.0 c.requires.1 c.if-b1-lt128.false c.if-b2-lt128.false c.if-b3-lt128.false 5 1)

pub returns : goal.returns
returns c = rw c.if-narrow.false c.from_fifth.ensures
