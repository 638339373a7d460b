-- `skip::field::quick_bytes` meets its contract. Assumes nothing.
use native.Mathlib.Omega.{arith}
use native.Mathlib.Nat.{add_assoc}
use lib.ListN.{length-drop}
use Rattle.spec.specs.Varint.{varint32}
use Rattle.skip.proofs.PastLaws.{ends_behind, content_ends, one_byte}
use Rattle.skip.proofs.field.quick_bytes.Goals as goal

pub returns : goal.returns
returns c =
    let a = c.args in
    let n = c.from-n.ensures in
    let e = one_byte 3 15 a.at a.s.now (omega arith) (omega (arith, n)) in
    rw (n, add_assoc) (ends_behind _ _ (content_ends varint32 _ e (rw length-drop (omega (arith, n)))))
