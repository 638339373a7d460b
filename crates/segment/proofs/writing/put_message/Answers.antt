-- `segment::writing::put_message` meets its contract. Assumes nothing.
use native.Mathlib.Omega.{arith}
use Rattle.segment.proofs.PutLaws.{says, next_end, message_put}
use Rattle.segment.proofs.writing.put_message.Goals as goal

pub unwrap-next-requires : goal.unwrap-next-requires
unwrap-next-requires c = rw (says c.args.message.now c.requires c.put_varint64.ensures)

pub overflow_add-result : goal.overflow_add-result
overflow_add-result c = omega (arith, c.requires, next_end c.args.message.now c.requires c.put_varint64.ensures c.unwrap-next.ensures)

pub returns : goal.returns
returns c =
    let e = c.unwrap-next.ensures in
    (next_end c.args.message.now c.requires c.put_varint64.ensures e, message_put c.args.message.now c.requires c.put_varint64.ensures e c.put_bytes.ensures.1)
