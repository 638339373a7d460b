-- `wire::varint::decode::decode` meets its contract: one and two bytes by the laws of `VarintSteps`, and the others by `long`.
-- Assumes nothing.
use Prim.Native.Nat.{suc, ◌+◌}
use native.Mathlib.Omega.{arith}
use lib.ListN.{drop}
use Rattle.wire.proofs.VarintSteps.{begin, ended, either_width, one_byte, first_byte, stopped}
use Rattle.wire.proofs.varint.decode.decode.Goals as goal

pub returns-then-s-at : goal.returns-then-s-at
returns-then-s-at c =
    let a = c.args in
    either_width a.narrow (drop a.at a.s.now) λ k last. ended (begin (suc (suc (suc (suc k)))) last a.s.now a.at) (omega arith)

pub overflow_cast-b0 : goal.overflow_cast-b0
overflow_cast-b0 c = omega (arith, c.type_inv.s c.args.at)

pub returns-then-b0-lt128 : goal.returns-then-b0-lt128
returns-then-b0-lt128 c =
    let a = c.args in
    either_width a.narrow (drop a.at a.s.now) λ k last. one_byte (suc (suc (suc k))) last a.s.now a.at (omega arith) c.if-b0-lt128.true

pub overflow_cast-b1 : goal.overflow_cast-b1
overflow_cast-b1 c = omega (arith, c.type_inv.s (c.args.at + 1))

pub returns-then-b1-lt128 : goal.returns-then-b1-lt128
returns-then-b1-lt128 c =
    let a = c.args in
    either_width a.narrow (drop a.at a.s.now) λ k last.
    stopped {s = a.s.now} {at = a.at} (omega arith) (first_byte (suc (suc (suc k))) last _ _ (omega arith) c.if-b0-lt128.false) c.if-b1-lt128.true
