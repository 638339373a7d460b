-- `wire::varint::encode::put_long` meets its contract: ten bytes are room enough, and where fewer are left the size decides.
-- Assumes nothing.
use Prim.Native.Nat.{◌+◌, ◌≤◌}
use native.Mathlib.Omega.{arith}
use lib.ListN.{length}
use Rattle.spec.specs.Varint.{encode}
use Rattle.spec.proofs.VarintLaws.{length_encode}
use Rattle.wire.proofs.VarintStores.{bytes_within}
use Rattle.wire.proofs.PutLaws.{no_room, in_place}
use Rattle.wire.proofs.varint.encode.put_long.Goals as goal
use Rattle.wire.proofs.varint.encode.put_long.Goals.{Joined-left-lt-LONGEST, then-left-lt-LONGEST+else-left-encoded_varint64_len, else-left-lt-LONGEST}

pub returns-then-out-at : goal.returns-then-out-at
returns-then-out-at c = no_room (omega arith)

pub returns-then-left-encoded_varint64_len : goal.returns-then-left-encoded_varint64_len
returns-then-left-encoded_varint64_len c = no_room (omega (arith, length_encode c.args.value))

-- there is room, whichever way it was found
room : (c : Joined-left-lt-LONGEST) → c.args.at + length (encode c.args.value) ≤ length c.args.out.now
room c =
    elim c.if-left-lt-LONGEST.branch [
      | then-left-lt-LONGEST+else-left-encoded_varint64_len w ↦ omega (arith, length_encode c.args.value)
      | else-left-lt-LONGEST w ↦ omega (arith, bytes_within 10 c.args.value (omega arith) (omega arith))
    ]

pub store-requires : goal.store-requires
store-requires c = room (goal.at.store-requires c).Joined-left-lt-LONGEST

pub returns : goal.returns
returns c = in_place (room (goal.at.returns c).Joined-left-lt-LONGEST) c.store.ensures.0 c.store.ensures.1
