-- Any two answers that a promise of this crate allows are equal: each promise says the answer in numbers, and two answers with the same numbers are equal.
-- Where a promise gives the answer itself there is nothing to prove. Assumes nothing.
use Prim.Native.Nat.{ℕ}
use mathlib.Core.Path.{◌≡◌, refl, sym, ap, ap₂, ◌∙◌}
use native.Mathlib.Omega.{arith}
use lib.Dec.{leb}
use Rattle.spec.specs.Names.{delimited_wire, end_group_wire, fixed64_wire, start_group_wire, varint_wire}
use Rattle.std.specs.Prelude.{if◌then◌else◌, Option, Some, None, Result, Ok, Err}
use Rattle.spec.specs.Base.{Read, Took}
use Rattle.spec.specs.declared.refusals.Refusal.{Refusal}
use Rattle.spec.proofs.ToldLaws.{same_refusal}
use Rattle.wire.specs.FormatTold.{wire_number, wire_told, tag_value, tag_told, size_told}
use Rattle.wire.specs.declared.wire_format.WireType.{WireType}
use Rattle.wire.specs.declared.wire_format.WireType.TheVariants.{Varint, Fixed64, LengthDelimited, StartGroup, EndGroup, Fixed32}
use Rattle.wire.specs.declared.wire_format.Tag.{Tag}
use Rattle.wire.proofs.FormatLaws.{small}

-- the wire type of each number
named : ℕ → WireType
named n =
    if leb n varint_wire then Varint else if leb n fixed64_wire then Fixed64 else if leb n delimited_wire then LengthDelimited else
    if leb n start_group_wire then StartGroup else if leb n end_group_wire then EndGroup else Fixed32

named_number : (w : WireType) → named (wire_number w) ≡ w
unfolding named
named_number Varint = refl
named_number Fixed64 = refl
named_number LengthDelimited = refl
named_number StartGroup = refl
named_number EndGroup = refl
named_number Fixed32 = refl

wire_once : (v w : WireType) → wire_number v ≡ wire_number w → v ≡ w
wire_once v w e = sym (named_number v) ∙ ap named e ∙ named_number w

wire_told_once : (a b : Option WireType) → wire_told a ≡ wire_told b → a ≡ b
wire_told_once (Some v) (Some w) e = ap Some (wire_once v w e)
wire_told_once (Some v) None e = absurd (omega (arith, small v))
wire_told_once None (Some w) e = absurd (omega (arith, small w))
wire_told_once None None e = refl

tag_once : (t u : Tag) → tag_value t ≡ tag_value u → t ≡ u
tag_once t u e =
    let numbers : t.field_number ≡ u.field_number = omega (arith, small t.wire_type, small u.wire_type) in
    let types : wire_number t.wire_type ≡ wire_number u.wire_type = omega arith in
    ap₂ (λ (n : ℕ) (w : WireType). record { field_number = n; wire_type = w }) numbers (wire_once t.wire_type u.wire_type types)

tag_told_once : (a b : Result Tag Refusal) → tag_told a ≡ tag_told b → a ≡ b
tag_told_once (Ok t) (Ok u) e = ap Ok (tag_once t u (cc))
tag_told_once (Ok t) (Err r) e = let z : ◌≡◌ {A = ℕ} 0 1 = cc in absurd (omega arith)
tag_told_once (Err q) (Ok u) e = let z : ◌≡◌ {A = ℕ} 0 1 = cc in absurd (omega arith)
tag_told_once (Err q) (Err r) e = ap Err (same_refusal (cc))

size_told_once : (a b : Result ℕ Refusal) → size_told a ≡ size_told b → a ≡ b
size_told_once (Ok m) (Ok n) e = ap Ok (cc)
size_told_once (Ok m) (Err r) e = let z : ◌≡◌ {A = ℕ} 0 1 = cc in absurd (omega arith)
size_told_once (Err q) (Ok n) e = let z : ◌≡◌ {A = ℕ} 0 1 = cc in absurd (omega arith)
size_told_once (Err q) (Err r) e = ap Err (same_refusal (cc))

-- ---- the laws

-- `WireType::new`, `WireType::for_type`
pub one_wire : (x : ℕ) (a b : Option WireType) → wire_told a ≡ x → wire_told b ≡ x → a ≡ b
one_wire x a b p q = wire_told_once a b (p ∙ sym q)

-- `Tag::new`, `Tag::make`
pub one_tag : (x : Read) (a b : Result Tag Refusal) → tag_told a ≡ x → tag_told b ≡ x → a ≡ b
one_tag x a b p q = tag_told_once a b (p ∙ sym q)

-- `check_message_size`, `field_size`, `packed_size`, `unknown_fields_size` and all that answer a size or a refusal
pub one_size : (x : Read) (a b : Result ℕ Refusal) → size_told a ≡ x → size_told b ≡ x → a ≡ b
one_size x a b p q = size_told_once a b (p ∙ sym q)

-- `int32_size` and its like
pub one_number : (x : Read) (a b : ℕ) → Took a 0 ≡ x → Took b 0 ≡ x → a ≡ b
one_number x a b p q = cc
