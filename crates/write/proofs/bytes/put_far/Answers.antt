-- `write::bytes::put_far` meets its contract: two times four bytes in front of what is left of the number. Assumes nothing.
use Prim.Native.Nat.{ℕ, ◌+◌, ◌/◌, ◌^◌, ◌≤◌, ◌<◌}
use mathlib.Core.Path.{◌≡◌, sym, ap, ◌∙◌}
use mathlib.Core.List.{List, ◌++◌}
use native.Mathlib.Omega.{arith}
use lib.ListN.{length}
use Rattle.spec.specs.Varint.{encode}
use Rattle.write.specs.Backward.{four, nine_bytes, four_groups}
use Rattle.write.proofs.EncodeLaws.{encode_four}
use Rattle.write.proofs.StoreLaws.{stored_then, stored_as}
use Rattle.write.proofs.bytes.put_far.Goals as goal
use Rattle.write.proofs.bytes.put_far.Goals.{Start}

whole : (v : ℕ) → nine_bytes ≤ v → v < 2 ^ 64 → encode v ≡ four v ++ (four (v / four_groups) ++ encode (v / four_groups / four_groups))
whole v h l = encode_four v (omega arith) l ∙ ap (λ (x : List ℕ). four v ++ x) (encode_four (v / four_groups) (omega arith) (omega arith))

-- how many bytes go before p
parts : (c : Start) → 8 + length (encode (c.args.v / four_groups / four_groups)) ≤ c.args.p
parts c = omega (arith, c.requires.1.few, ap length (whole c.args.v c.requires.0 (omega arith)))

pub put_varint-q-requires : goal.put_varint-q-requires
put_varint-q-requires c = record { few = omega (arith, parts (goal.at.put_varint-q-requires c).Start); inside = c.requires.1.inside }

pub put_four-r-requires : goal.put_four-r-requires
put_four-r-requires c =
    let s = c.put_varint-q.ensures in
    (omega (arith, parts (goal.at.put_four-r-requires c).Start, s.starts), omega (arith, c.requires.1.inside, s.starts, s.long))

pub put_four-requires : goal.put_four-requires
put_four-requires c =
    let s = c.put_varint-q.ensures in
    let t = c.put_four-r.ensures in
    (omega (arith, parts (goal.at.put_four-requires c).Start, s.starts, t.starts), omega (arith, c.requires.1.inside, s.starts, s.long, t.starts, t.long))

pub returns : goal.returns
returns c =
    stored_as (sym (whole c.args.v c.requires.0 (omega arith)))
    (stored_then (stored_then c.put_varint-q.ensures c.put_four-r.ensures) c.put_four.ensures)
