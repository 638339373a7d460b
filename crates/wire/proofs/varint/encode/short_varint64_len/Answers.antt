-- `wire::varint::encode::short_varint64_len` meets its contract: each answer is the rung that the value stands on. Assumes nothing.
use native.Mathlib.Omega.{arith}
use mathlib.Core.Path.{sym}
use Rattle.spec.proofs.VarintLaws.{size_one_lem, size_between}
use Rattle.wire.proofs.varint.encode.short_varint64_len.Goals as goal

pub returns-then-value-lt-TWO_BYTES : goal.returns-then-value-lt-TWO_BYTES
returns-then-value-lt-TWO_BYTES c = sym (size_one_lem c.args.value (omega arith))

pub returns-then-value-lt-THREE_BYTES : goal.returns-then-value-lt-THREE_BYTES
returns-then-value-lt-THREE_BYTES c = sym (size_between 2 c.args.value (omega arith) (omega arith) (omega arith) (omega arith))

pub returns-else-value-lt-THREE_BYTES : goal.returns-else-value-lt-THREE_BYTES
returns-else-value-lt-THREE_BYTES c = sym (size_between 3 c.args.value (omega arith) (omega arith) (omega arith) (omega arith))
