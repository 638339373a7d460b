-- `skip::field::tag_at` meets its contract: a tag of one byte, or what `long_tag` says. Assumes nothing.
use Prim.Native.Nat.{◌+◌, ◌-◌}
use mathlib.Core.Path.{◌≡◌, sym, ap, ◌∙◌}
use native.Mathlib.Omega.{arith}
use lib.ListN.{get_or, drop_of_length-le}
use Rattle.spec.specs.Varint.{varint32}
use Rattle.spec.proofs.SkipLaws.{good_tag_lem, bad_wire, bad_number}
use Rattle.skip.proofs.PastLaws.{one_byte, tag_refused, tag_good, tag_bad}
use Rattle.skip.proofs.VarintTurn.{no_byte}
use Rattle.skip.proofs.field.tag_at.Goals as goal

pub returns-then-s-at : goal.returns-then-s-at
returns-then-s-at c = sym (tag_refused _ (ap varint32 (drop_of_length-le _ c.if-s-at.true) ∙ no_byte 4 15))

pub returns-then-b-gt-FIXED32 : goal.returns-then-b-gt-FIXED32
returns-then-b-gt-FIXED32 c =
    let a = c.args in
    let b = c.from-b.ensures in
    sym (tag_bad _ (one_byte 3 15 a.at a.s.now (omega arith) (omega (arith, b))) (bad_wire (get_or a.s.now a.at 0) (omega (arith, b))))

pub returns-then-b-lt8 : goal.returns-then-b-lt8
returns-then-b-lt8 c =
    let a = c.args in
    let b = c.from-b.ensures in
    sym (tag_bad _ (one_byte 3 15 a.at a.s.now (omega arith) (omega (arith, b))) (bad_number (get_or a.s.now a.at 0) (omega (arith, b))))

pub returns : goal.returns
returns c =
    let a = c.args in
    let b = c.from-b.ensures in
    let q : a.at + 1 - a.at ≡ 1 = omega arith in
    rw (q, b)
    (sym (tag_good _ (one_byte 3 15 a.at a.s.now (omega arith) (omega (arith, b))) (good_tag_lem (get_or a.s.now a.at 0) (omega (arith, b)) (omega (arith, b)))))
