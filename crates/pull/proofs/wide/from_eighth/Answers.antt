-- `pull::wide::from_eighth` meets its contract: each byte by its law of `VarintSteps`.
-- Assumes nothing.
use native.Mathlib.Omega.{arith}
use Prim.Native.Nat.{◌+◌}
use Rattle.wire.proofs.VarintSteps.{stopped, turned, took_last, refused_last}
use Rattle.pull.proofs.wide.from_eighth.Goals as goal

pub overflow_cast-b7 : goal.overflow_cast-b7
overflow_cast-b7 c = omega (arith, c.type_inv.s (c.args.at + 7))

pub returns-then-b7-lt128 : goal.returns-then-b7-lt128
returns-then-b7-lt128 c = stopped (omega arith) c.requires.1 c.if-b7-lt128.true

pub overflow_cast-b8 : goal.overflow_cast-b8
overflow_cast-b8 c = omega (arith, c.type_inv.s (c.args.at + 8))

pub returns-then-b8-lt128 : goal.returns-then-b8-lt128
returns-then-b8-lt128 c = stopped (omega arith) (turned (omega arith) c.requires.1 c.if-b7-lt128.false) c.if-b8-lt128.true

pub overflow_cast-b9 : goal.overflow_cast-b9
overflow_cast-b9 c = omega (arith, c.type_inv.s (c.args.at + 9))

pub returns-then-b9-gt-LAST_OF_64 : goal.returns-then-b9-gt-LAST_OF_64
returns-then-b9-gt-LAST_OF_64 c = refused_last (omega arith) (turned (omega arith) (turned (omega arith) c.requires.1 c.if-b7-lt128.false) c.if-b8-lt128.false) (omega arith)

pub returns : goal.returns
returns c = took_last (omega arith) (turned (omega arith) (turned (omega arith) c.requires.1 c.if-b7-lt128.false) c.if-b8-lt128.false) (omega arith)
