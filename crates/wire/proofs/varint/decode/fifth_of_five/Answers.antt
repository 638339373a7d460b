-- `wire::varint::decode::fifth_of_five` meets its contract: the byte is judged as the definition does.
-- Assumes nothing.
use Prim.Native.Nat.{◌+◌}
use native.Mathlib.Omega.{arith}
use Rattle.wire.proofs.VarintSteps.{took_last, refused_last}
use Rattle.wire.proofs.varint.decode.fifth_of_five.Goals as goal

pub overflow_cast-b4 : goal.overflow_cast-b4
overflow_cast-b4 c = omega (arith, c.type_inv.s (c.args.at + 4))

pub returns-then-b4-gt-LAST_OF_32 : goal.returns-then-b4-gt-LAST_OF_32
returns-then-b4-gt-LAST_OF_32 c = refused_last (omega arith) c.requires.1 (omega arith)

pub returns : goal.returns
returns c = took_last (omega arith) c.requires.1 (omega arith)
