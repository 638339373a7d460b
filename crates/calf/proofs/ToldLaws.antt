-- A varint's answer, in numbers, is what its definition says; and so for a place, and for what a kind asks. Assumes nothing.
use Prim.Native.Nat.{ℕ, ◌+◌}
use native.Mathlib.Omega.{arith}
use mathlib.Core.Path.{◌≡◌, refl, ap}
use mathlib.Core.List.{List, [], ◌∷◌}
use lib.ListN.{length, drop}
use lib.Dec.{leb}
use borrow.Author.Tests.{ne_eqb}
use mathlib.Core.Bool.{Bool, true, false}
use Rattle.std.specs.Prelude.{if◌then◌else◌, Option, Some, None, Result, Ok, Err, unwrap_or}
use Rattle.spec.specs.Names.{bool_kind, bytes_kind, double_kind, enum_kind, fixed32_kind, fixed64_kind, float_kind, group_kind, int32_kind, int64_kind, sfixed32_kind, sfixed64_kind, sint32_kind, sint64_kind, string_kind, uint32_kind, uint64_kind}
use Rattle.spec.specs.declared.refusals.Refusal.{Refusal}
use Rattle.spec.specs.Base.{Read, refusal}
use Rattle.spec.specs.Varint.{varint}
use Rattle.spec.specs.Pull.{raw_tag}
use Rattle.wire.specs.Answers.{as_read, Stored}
use Rattle.wire.specs.declared.found.Found.{Found}
use Rattle.wire.proofs.FoundLaws.{varint_placed}
use Rattle.calf.specs.Told.{behind, refused, pair, asked_by}

pub refused_told : (at : ℕ) (f : Result Found Refusal) {r : Read} → as_read at f ≡ r → refused f ≡ refusal r
unfolding refusal
refused_told at (Ok f) e = rw (← e) refl
refused_told at (Err k) e = rw (← e) refl

pub pair_told : (k last : ℕ) (s : List ℕ) (at : ℕ) (f : Result Found Refusal) → as_read at f ≡ varint k last (drop at s) → pair f ≡ behind at (varint k last (drop at s))
unfolding behind
pair_told k last s at (Ok f) e =
    let h = varint_placed k last s at e refl in
    rw (← e) (ap (λ (x : ℕ). f.value ∷ x ∷ []) (omega (arith, h.past)))
pair_told k last s at (Err j) e = rw (← e) refl

place_told : (b : Bool) (n : ℕ) {answer : Option ℕ} → answer ≡ (if b then Some n else None) → unwrap_or answer 0 ≡ (if b then n else 0)
place_told true n e = ap (λ (o : Option ℕ). unwrap_or o 0) e
place_told false n e = ap (λ (o : Option ℕ). unwrap_or o 0) e

-- the place after what was stored, or 0 where it has no room
pub place_stored : {before bytes after : List ℕ} {at : ℕ} {answer : Option ℕ} → Stored before at bytes after answer
    → unwrap_or answer 0 ≡ (if leb (at + length bytes) (length before) then at + length bytes else 0)
place_stored {before} {bytes} {at = at} s = place_told (leb (at + length bytes) (length before)) (at + length bytes) s.says

-- a number that is no kind with a value asks for the tag
pub asked_rest : (kind tag : ℕ) → (kind ≡ double_kind → ⊥) → (kind ≡ float_kind → ⊥) → (kind ≡ int64_kind → ⊥) → (kind ≡ uint64_kind → ⊥) → (kind ≡ int32_kind → ⊥) → (kind ≡ fixed64_kind → ⊥) → (kind ≡ fixed32_kind → ⊥) → (kind ≡ bool_kind → ⊥) → (kind ≡ string_kind → ⊥) → (kind ≡ group_kind → ⊥) → (kind ≡ bytes_kind → ⊥) → (kind ≡ uint32_kind → ⊥) → (kind ≡ enum_kind → ⊥) → (kind ≡ sfixed32_kind → ⊥) → (kind ≡ sfixed64_kind → ⊥) → (kind ≡ sint32_kind → ⊥) → (kind ≡ sint64_kind → ⊥)
    → asked_by kind tag ≡ raw_tag
unfolding asked_by
asked_rest kind tag no-double no-float no-int64 no-uint64 no-int32 no-fixed64 no-fixed32 no_bool no_string no_group no_bytes no-uint32 no-enum no-sfixed32 no-sfixed64 no-sint32 no-sint64 =
    rw (ne_eqb kind double_kind no-double, ne_eqb kind float_kind no-float, ne_eqb kind int64_kind no-int64, ne_eqb kind uint64_kind no-uint64, ne_eqb kind int32_kind no-int32, ne_eqb kind fixed64_kind no-fixed64, ne_eqb kind fixed32_kind no-fixed32, ne_eqb kind bool_kind no_bool, ne_eqb kind string_kind no_string, ne_eqb kind group_kind no_group, ne_eqb kind bytes_kind no_bytes, ne_eqb kind uint32_kind no-uint32, ne_eqb kind enum_kind no-enum, ne_eqb kind sfixed32_kind no-sfixed32, ne_eqb kind sfixed64_kind no-sfixed64, ne_eqb kind sint32_kind no-sint32, ne_eqb kind sint64_kind no-sint64) refl
