-- `write::bytes::put_head` meets its contract: the length of what is in it, and the tag in front. Assumes nothing.
use Prim.Native.Nat.{◌+◌, ◌*◌, ◌-◌, ◌≤◌}
use native.Mathlib.Omega.{arith}
use lib.ListN.{length, get_or, length-append}
use Rattle.spec.specs.Names.{kind_column, number_column}
use Rattle.spec.specs.Varint.{encode}
use Rattle.write.proofs.StoreLaws.{stored_then}
use Rattle.write.proofs.bytes.put_head.Goals as goal
use Rattle.write.proofs.bytes.put_head.Goals.{Start}

-- how many bytes the tag and the length take
parts : (c : Start) →
    let a = c.args in
    let tag = encode (get_or a.list.now (a.b + number_column) 0 * 8 + get_or a.table.now (get_or a.list.now (a.b + kind_column) 0) 0) in
    length tag + length (encode (a.mark - a.p)) ≤ a.p
parts c =
    let a = c.args in
    omega (arith, c.requires.2.few, length-append (encode (get_or a.list.now (a.b + number_column) 0 * 8 + get_or a.table.now (get_or a.list.now (a.b + kind_column) 0) 0)) (encode (a.mark - a.p)))

pub put_varint-q-requires : goal.put_varint-q-requires
put_varint-q-requires c = record { few = omega (arith, parts (goal.at.put_varint-q-requires c).Start); inside = c.requires.2.inside }

pub put_varint-requires : goal.put_varint-requires
put_varint-requires c =
    let s = c.put_varint-q.ensures in
    record { few = omega (arith, parts (goal.at.put_varint-requires c).Start, s.starts); inside = omega (arith, c.requires.2.inside, s.starts, s.long) }

pub returns : goal.returns
returns c = stored_then c.put_varint-q.ensures c.put_varint.ensures

pub shape_of-out : goal.shape_of-out
shape_of-out c = (returns c).long
