-- `wire::varint::encode::put_varint64` meets its contract: one byte where there is room for one, and else what `put_long` does.
-- Assumes nothing.
use native.Mathlib.Omega.{arith}
use mathlib.Core.Path.{refl}
use Rattle.wire.proofs.VarintStores.{encode_ends}
use Rattle.wire.proofs.PutLaws.{no_room, in_place}
use Rattle.wire.proofs.varint.encode.put_varint64.Goals as goal

pub returns-then-at-out : goal.returns-then-at-out
returns-then-at-out c = rw (encode_ends c.args.value c.if-value-lt128.true) (in_place (omega arith) (omega arith) refl)

pub returns-then-value-lt128 : goal.returns-then-value-lt128
returns-then-value-lt128 c = rw (encode_ends c.args.value c.if-value-lt128.true) (no_room (omega arith))
