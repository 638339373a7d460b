-- `write::bytes::put_record` meets its contract: the table has the record's wire type, and the tag goes in front. Assumes nothing.
use Prim.Native.Nat.{◌+◌, ◌/◌, ◌≤◌}
use mathlib.Core.Path.{ap}
use mathlib.Core.Bool.{true}
use native.Mathlib.Omega.{arith}
use lib.ListN.{length, length-append}
use Rattle.spec.specs.Names.{number_column}
use Rattle.spec.specs.Record.{stride}
use Rattle.spec.specs.Writing.{tag_of}
use Rattle.write.specs.Backward.{at, lead_of}
use Rattle.write.proofs.StoreLaws.{stored_then, stored_as}
use Rattle.write.proofs.HereLaws.{read, fit, kind_small, type_at, byte_at, tag_at}
use Rattle.write.proofs.bytes.put_record.Goals as goal
use Rattle.write.proofs.bytes.put_record.Goals.{Start}

pub bounds-table-kind : goal.bounds-table-kind
bounds-table-kind c = kind_small c.requires.1

-- how many bytes go before p
parts : (c : Start) → let a = c.args in let own = at a.list.now (a.b / stride) in let body = lead_of a.list.now a.payload.now a.b 0 in
    length (tag_of true own) + length body ≤ a.p
parts c = omega (arith, c.requires.2.few, length-append (tag_of true (at c.args.list.now (c.args.b / stride))) (lead_of c.args.list.now c.args.payload.now c.args.b 0))

pub put_body-q-requires : goal.put_body-q-requires
put_body-q-requires c = (c.requires.1, type_at c.requires.1 c.requires.0, record { few = omega (arith, parts (goal.at.put_body-q-requires c).Start); inside = c.requires.2.inside })

pub overflow_mul-tag : goal.overflow_mul-tag
overflow_mul-tag c = omega (arith, read c.requires.1 number_column, (fit c.requires.1).small)

pub overflow_cast-tag : goal.overflow_cast-tag
overflow_cast-tag c = omega (arith, byte_at c.requires.1 c.requires.0)

pub overflow_add-tag : goal.overflow_add-tag
overflow_add-tag c = omega (arith, read c.requires.1 number_column, (fit c.requires.1).small, byte_at c.requires.1 c.requires.0)

pub put_varint-requires : goal.put_varint-requires
put_varint-requires c =
    let s = c.put_body-q.ensures in
    record {
      few = omega (arith, parts (goal.at.put_varint-requires c).Start, ap length (tag_at c.requires.1 c.requires.0), s.starts);
      inside = omega (arith, c.requires.2.inside, s.starts, s.long);
    }

pub returns : goal.returns
returns c =
    stored_then c.put_body-q.ensures
    (stored_as (tag_at c.requires.1 c.requires.0) c.put_varint.ensures)

pub shape_of-out : goal.shape_of-out
shape_of-out c = (returns c).long
