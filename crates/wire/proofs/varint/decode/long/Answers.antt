-- `wire::varint::decode::long` meets its contract: whichever function reads has the width that the flag says.
-- Assumes nothing.
use Rattle.wire.proofs.varint.decode.long.Goals as goal

pub returns-then-narrow : goal.returns-then-narrow
returns-then-narrow c = rw c.if-narrow.true c.by_bytes.ensures

pub returns : goal.returns
returns c = rw c.if-narrow.false c.by_bytes-2.ensures
