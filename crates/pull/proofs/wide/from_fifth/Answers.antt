-- `pull::wide::from_fifth` meets its contract: each byte by its law of `VarintSteps`.
-- Assumes nothing.
use Prim.Native.Nat.{◌+◌}
use native.Mathlib.Omega.{arith}
use borrow.Author.Rules.{rules}
use Rattle.wire.proofs.VarintSteps.{stopped, turned}
use Rattle.pull.proofs.wide.from_fifth.Goals as goal

pub overflow_cast-b4 : goal.overflow_cast-b4
overflow_cast-b4 c = omega (arith, c.type_inv.s (c.args.at + 4))

pub returns-then-b4-lt128 : goal.returns-then-b4-lt128
returns-then-b4-lt128 c = stopped (omega arith) c.requires.1 c.if-b4-lt128.true

pub overflow_cast-b5 : goal.overflow_cast-b5
overflow_cast-b5 c = omega (arith, c.type_inv.s (c.args.at + 5))

pub returns-then-b5-lt128 : goal.returns-then-b5-lt128
returns-then-b5-lt128 c = stopped (omega arith) (turned (omega arith) c.requires.1 c.if-b4-lt128.false) c.if-b5-lt128.true

pub overflow_cast-b6 : goal.overflow_cast-b6
overflow_cast-b6 c = omega (arith, c.type_inv.s (c.args.at + 6))

pub returns-then-b6-lt128 : goal.returns-then-b6-lt128
returns-then-b6-lt128 c = stopped (omega arith) (turned (omega arith) (turned (omega arith) c.requires.1 c.if-b4-lt128.false) c.if-b5-lt128.false) c.if-b6-lt128.true

pub from_eighth-requires : goal.from_eighth-requires
from_eighth-requires c = (search rules, turned (omega arith) (turned (omega arith) (turned (omega arith) c.requires.1 c.if-b4-lt128.false) c.if-b5-lt128.false) c.if-b6-lt128.false)
