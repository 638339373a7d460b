-- `write::bytes::put_number` meets its contract: the value, and the tag in front. Assumes nothing.
use Prim.Native.Nat.{◌+◌, ◌*◌, ◌≤◌}
use mathlib.Core.Path.{ap}
use native.Mathlib.Omega.{arith}
use lib.ListN.{length, get_or, length-append}
use Rattle.spec.specs.Names.{kind_column, number_column, value_column}
use Rattle.spec.specs.Varint.{encode}
use Rattle.sizes.specs.SizeParts.{coded}
use Rattle.write.proofs.StoreLaws.{stored_then, stored_as}
use Rattle.write.proofs.bytes.put_number.Goals as goal
use Rattle.write.proofs.bytes.put_number.Goals.{Start}

-- how many bytes go before p
parts : (c : Start) →
    let a = c.args in
    length (encode (get_or a.list.now (a.b + number_column) 0 * 8 + a.w)) + length (encode (coded (get_or a.list.now (a.b + kind_column) 0) (get_or a.list.now (a.b + value_column) 0))) ≤ a.p
parts c =
    let a = c.args in
    omega (arith, c.requires.3.few, length-append (encode (get_or a.list.now (a.b + number_column) 0 * 8 + a.w)) (encode (coded (get_or a.list.now (a.b + kind_column) 0) (get_or a.list.now (a.b + value_column) 0))))

pub put_value-r-requires : goal.put_value-r-requires
put_value-r-requires c = record { few = omega (arith, parts (goal.at.put_value-r-requires c).Start, ap (λ n. length (encode n)) c.coded_of.ensures); inside = c.requires.3.inside }

pub put_varint-pos-requires : goal.put_varint-pos-requires
put_varint-pos-requires c =
    let s = c.put_value-r.ensures in
    record {
      few = omega (arith, parts (goal.at.put_varint-pos-requires c).Start, ap (λ n. length (encode n)) c.coded_of.ensures, s.starts);
      inside = omega (arith, c.requires.3.inside, s.starts, s.long);
    }

pub returns : goal.returns
returns c = stored_then (stored_as (ap encode c.coded_of.ensures) c.put_value-r.ensures) c.put_varint-pos.ensures
