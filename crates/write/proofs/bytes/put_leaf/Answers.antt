-- `write::bytes::put_leaf` meets its contract: a varint by its numbers, and else any record. Assumes nothing.
use mathlib.Core.Path.{sym}
use Rattle.write.proofs.HereLaws.{leads, kind_small, byte_at, number_is}
use Rattle.write.proofs.StoreLaws.{stored_as, room_as}
use Rattle.write.proofs.bytes.put_leaf.Goals as goal

pub bounds-table-kind : goal.bounds-table-kind
bounds-table-kind c = kind_small c.requires.1

pub put_number-requires : goal.put_number-requires
put_number-requires c =
    let h = c.requires.1 in
    (h.inside, (leads h c.requires.0).number, byte_at h c.requires.0, room_as (sym (number_is h c.requires.0 c.if-w-lt-FIXED64.true)) c.requires.2)

pub returns-then-w-lt-FIXED64 : goal.returns-then-w-lt-FIXED64
returns-then-w-lt-FIXED64 c = stored_as (number_is c.requires.1 c.requires.0 c.if-w-lt-FIXED64.true) c.put_number.ensures
