-- `write::measure::plain_size` meets its contract: the wire type of a kind says how the size of its value is found. Assumes nothing.
use Prim.Native.Nat.{ℕ}
use mathlib.Core.Path.{◌≡◌, refl, sym, ap, ◌∙◌}
use mathlib.Core.Logic.{◌≢◌}
use mathlib.Core.Bool.{true, false≢true}
use native.Mathlib.Omega.{arith}
use lib.Dec.{eqb}
use Rattle.spec.specs.Names.{delimited_wire, fixed32_wire, fixed64_wire, varint_wire}
use Rattle.std.specs.Prelude.{if◌then◌else◌}
use Rattle.spec.specs.Varint.{size}
use Rattle.spec.specs.Kind.{int32, uint32, uint64, bool, sint32, sint64, fixed32, sfixed32, fixed64, Shape, one, other, shape, wire, is_scalar}
use Rattle.spec.specs.Sizes.{scalar_size, prefixed_size, value_size}
use Rattle.spec.proofs.KindLaws.{wire_one, wire_of, wire_shape}
use Rattle.sizes.specs.SizeParts.{coded}
use Rattle.sizes.proofs.ValueSizes.{value_by_wire}
use Rattle.write.proofs.measure.plain_size.Goals as goal

by_wire_lem : (k v w n : ℕ) → w ≡ wire k → w ≡ n → value_size (shape k) v ≡ (if eqb n varint_wire then size (coded k v) else if eqb n fixed64_wire then 8 else if eqb n delimited_wire then prefixed_size v else if eqb n fixed32_wire then 4 else 0)
by_wire_lem k v w n e p = value_by_wire k v n (sym p ∙ e)

-- a number that is no varint and not of eight bytes is of four
four : (x : Shape) (v : ℕ) → is_scalar x ≡ true → wire_of x ≢ varint_wire → wire_of x ≢ fixed64_wire → 4 ≡ value_size x v
unfolding is_scalar wire_of wire_one value_size scalar_size
four (one int32) v s p q = absurd (p refl)
four (one uint32) v s p q = absurd (p refl)
four (one uint64) v s p q = absurd (p refl)
four (one bool) v s p q = absurd (p refl)
four (one sint32) v s p q = absurd (p refl)
four (one sint64) v s p q = absurd (p refl)
four (one fixed32) v s p q = refl
four (one sfixed32) v s p q = refl
four (one fixed64) v s p q = absurd (q refl)
four (other x) v s p q = absurd (false≢true s)

pub returns-in-0 : goal.returns-in-0
returns-in-0 c =
    let a = c.args in
    c.compute_raw_varint64_size.ensures ∙ ap size c.coded_of.ensures ∙ sym (by_wire_lem a.kind a.value a.w varint_wire c.requires.0 (omega arith))

pub returns-in-1 : goal.returns-in-1
returns-in-1 c = let a = c.args in sym (by_wire_lem a.kind a.value a.w fixed64_wire c.requires.0 (omega arith))

pub returns-in_default : goal.returns-in_default
returns-in_default c =
    let a = c.args in
    let h = c.requires in
    let w : a.w ≡ wire_of (shape a.kind) = h.0 ∙ wire_shape a.kind in
    four (shape a.kind) a.value h.1 (λ e. omega arith) (λ e. omega arith)
