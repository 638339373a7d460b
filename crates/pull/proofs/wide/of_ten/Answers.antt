-- `pull::wide::of_ten` meets its contract: each byte by its law of `VarintSteps`.
-- Assumes nothing.
use Prim.Native.Nat.{◌+◌}
use native.Mathlib.Omega.{arith}
use Rattle.wire.proofs.VarintSteps.{first_byte, stopped, turned}
use Rattle.pull.proofs.wide.of_ten.Goals as goal

pub overflow_cast-b0 : goal.overflow_cast-b0
overflow_cast-b0 c = omega (arith, c.type_inv.s c.args.at)

pub overflow_cast-b1 : goal.overflow_cast-b1
overflow_cast-b1 c = omega (arith, c.type_inv.s (c.args.at + 1))

pub returns-then-b1-lt128 : goal.returns-then-b1-lt128
returns-then-b1-lt128 c = stopped {s = c.args.s.now} {at = c.args.at} (omega arith) (first_byte 8 1 _ _ (omega arith) c.requires.1) c.if-b1-lt128.true

pub overflow_cast-b2 : goal.overflow_cast-b2
overflow_cast-b2 c = omega (arith, c.type_inv.s (c.args.at + 2))

pub returns-then-b2-lt128 : goal.returns-then-b2-lt128
returns-then-b2-lt128 c = stopped {s = c.args.s.now} {at = c.args.at} (omega arith) (turned (omega arith) (first_byte 8 1 _ _ (omega arith) c.requires.1) c.if-b1-lt128.false) c.if-b2-lt128.true

pub overflow_cast-b3 : goal.overflow_cast-b3
overflow_cast-b3 c = omega (arith, c.type_inv.s (c.args.at + 3))

pub returns-then-b3-lt128 : goal.returns-then-b3-lt128
returns-then-b3-lt128 c = stopped {s = c.args.s.now} {at = c.args.at} (omega arith) (turned (omega arith) (turned (omega arith) (first_byte 8 1 _ _ (omega arith) c.requires.1) c.if-b1-lt128.false) c.if-b2-lt128.false) c.if-b3-lt128.true

pub from_fifth-requires : goal.from_fifth-requires
from_fifth-requires c = (omega arith, turned (omega arith) (turned (omega arith) (turned (omega arith) (first_byte 8 1 _ _ (omega arith) c.requires.1) c.if-b1-lt128.false) c.if-b2-lt128.false) c.if-b3-lt128.false)
