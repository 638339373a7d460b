-- `wire::varint::encode::encode_varint64` meets its contract: ten bytes hold every varint of its values.
-- Assumes nothing.
use Prim.Native.Nat.{◌≤◌}
use native.Mathlib.Omega.{arith}
use mathlib.Core.Path.{◌∙◌}
use lib.ListN.{length}
use Rattle.spec.specs.Varint.{encode}
use Rattle.wire.proofs.VarintStores.{bytes_within}
use Rattle.wire.proofs.PutLaws.{at_front}
use Rattle.wire.proofs.varint.encode.encode_varint64.Goals as goal
use Rattle.wire.proofs.varint.encode.encode_varint64.Goals.{After-store-arg-1}

room : (c : After-store-arg-1) → length (encode c.args.value) ≤ length c.args.buf.now
room c = omega (arith, bytes_within 10 c.args.value (omega arith) (omega arith))

pub store-requires : goal.store-requires
store-requires c = omega (arith, room (goal.at.store-requires c).After-store-arg-1)

pub returns : goal.returns
returns c =
    let a = c.args in
    (omega arith, c.store.ensures.1 ∙ at_front (encode a.value) a.buf.now (room (goal.at.returns c).After-store-arg-1))
