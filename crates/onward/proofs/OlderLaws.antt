-- What an older schema says of a field: the same as the newer one, or nothing; and then the field's raw value is written as its value was.
-- Assumes nothing.
use Prim.Native.Nat.{ℕ, ◌+◌, ◌%◌, ◌^◌, ◌≤◌}
use native.Mathlib.Omega.{arith}
use mathlib.Core.Path.{◌≡◌, refl, sym, ap, ap₂, ◌∙◌, subst}
use mathlib.Core.Bool.{Bool, true, false, ◌&&◌, ◌||◌}
use mathlib.Core.List.{List, ◌∷◌}
use mathlib.Core.Option.{none, some}
use lib.ListN.{length}
use lib.Dec.{ltb, eqb}
use borrow.Author.Tests.{ltb-true, leb-true, le-leb, eq-eqb, lt-ltb}
use Rattle.spec.specs.Names.{delimited_wire}
use Rattle.std.specs.Prelude.{if◌then◌else◌}
use Rattle.spec.specs.Base.{between}
use Rattle.spec.specs.Varint.{zigzag, little}
use Rattle.spec.specs.Kind.{Scalar, int32, uint32, uint64, bool, sint32, sint64, fixed32, sfixed32, fixed64, one, other, bytes, wires, wire, shapes, shape, encoded, fits}
use Rattle.spec.specs.Schema.{Schema, rises, bad_entry, bad_schema, no_entry, lookup, unknown_kind}
use Rattle.onward.specs.Onward.{Fewer, end, keep, leave_out, Older, raw_of}
use Rattle.spec.proofs.KindLaws.{signed_of, signed_below, zigzag_below, zigzag_below64, wire_one, wire_of, wire_shape}
use Rattle.spec.proofs.Laws.{both_true}
use Rattle.spec.proofs.SchemaLaws.{lookup_later, is_or_not, Before, type_before, number_before, before_after, before_not, entry_passed, first_entry_lem, valid_entries}
use Rattle.spec.specs.declared.Entry.{Entry}

-- ---- entries

-- what stands before all of them is in none of them
not_there : {es fs : List Entry} → Fewer es fs → (types o n i : ℕ) → bad_entry types o n i fs ≡ none → (t m : ℕ)
    → ((x y : ℕ) → Before o n x y → Before t m x y) → lookup es t m ≡ no_entry
unfolding lookup
not_there end types o n i h t m b = refl
not_there (keep {e} {es} {fs} f) types o n i h t m b =
    let g = first_entry_lem types o n i e fs h in
    lookup_later t m e es (before_not (b e.owner e.number g.0))
    ∙ not_there f types e.owner e.number (i + 1) g.1 t m (λ x y c. before_after (b e.owner e.number g.0) c)
not_there (leave_out {e} {es} {fs} f) types o n i h t m b =
    let g = first_entry_lem types o n i e fs h in
    not_there f types e.owner e.number (i + 1) g.1 t m (λ x y c. before_after (b e.owner e.number g.0) c)

-- the older list has the newer one's entry, or none
pub data Has (old new : Entry) : Type 0 where
  same : old ≡ new → Has old new
  missing : old ≡ no_entry → Has old new

has : {es fs : List Entry} → Fewer es fs → (types o n i : ℕ) → bad_entry types o n i fs ≡ none → (t m : ℕ) → Has (lookup es t m) (lookup fs t m)
unfolding lookup
has end types o n i h t m = same refl
has (keep {e} {es} {fs} f) types o n i h t m =
    go (eqb e.owner t && eqb e.number m) (has f types e.owner e.number (i + 1) (first_entry_lem types o n i e fs h).1 t m)
  where
    go : (b : Bool) {x y : Entry} → Has x y → Has (if b then e else x) (if b then e else y)
    go true k = same refl
    go false k = k
has (leave_out {e} {es} {fs} f) types o n i h t m =
    is_or_not t m e fs
    (λ is.
    missing (not_there f types e.owner e.number (i + 1) later t m
    (λ x y c. subst (λ (o : ℕ). Before o m x y) is.0 (subst (λ (n : ℕ). Before e.owner n x y) is.1 c))))
    (λ is-not. subst (Has (lookup es t m)) (sym (lookup_later t m e fs is-not)) (has f types e.owner e.number (i + 1) later t m))
  where
    later : bad_entry types e.owner e.number (i + 1) fs ≡ none
    later = (first_entry_lem types o n i e fs h).1

pub older_has : (old new : Schema) → Older old new → bad_schema new ≡ none → (t m : ℕ) → Has (lookup old.entries t m) (lookup new.entries t m)
older_has old new o h t m = has o.fewer_entries new.types 0 0 0 (valid_entries new h).2 t m

-- ---- an older schema of a valid one, with the same count of types, is valid

before_rises : (o n : ℕ) (e : Entry) → Before o n e.owner e.number → rises o n e ≡ true
before_rises o n e (type_before h) = ap (λ (b : Bool). b || eqb o e.owner && ltb n e.number) (lt-ltb o e.owner h)
before_rises o n e (number_before p h) = go (ltb o e.owner) (both_true (eq-eqb o e.owner p) (lt-ltb n e.number h))
  where
    go : (a : Bool) {b : Bool} → b ≡ true → (a || b) ≡ true
    go true e = refl
    go false e = e

fewer_good : {es fs : List Entry} → Fewer es fs → (types o n i : ℕ) → bad_entry types o n i fs ≡ none → (t m j : ℕ)
    → ((x y : ℕ) → Before o n x y → Before t m x y) → bad_entry types t m j es ≡ none
unfolding bad_entry
fewer_good end types o n i h t m j b = refl
fewer_good (keep {e} {es} {fs} f) types o n i h t m j b =
    let g = first_entry_lem types o n i e fs h in
    entry_passed types t m j e es (both_true (before_rises t m e (b e.owner e.number g.0)) g.2)
    ∙ fewer_good f types e.owner e.number (i + 1) g.1 e.owner e.number (j + 1) (λ x y c. c)
fewer_good (leave_out {e} {es} {fs} f) types o n i h t m j b =
    let g = first_entry_lem types o n i e fs h in
    fewer_good f types e.owner e.number (i + 1) g.1 t m j (λ x y c. before_after (b e.owner e.number g.0) c)

fewer_length : {es fs : List Entry} → Fewer es fs → length es ≤ length fs
fewer_length end = omega arith
fewer_length (keep {e} {es} {fs} f) = let h : length es ≤ length fs = fewer_length f in omega arith
fewer_length (leave_out {e} {es} {fs} f) = let h : length es ≤ length fs = fewer_length f in omega arith

pub older_valid : (old new : Schema) → Older old new → old.types ≡ new.types → bad_schema new ≡ none → bad_schema old ≡ none
unfolding bad_schema
older_valid old new o same-types h =
    let v = valid_entries new h in
    let short : length old.entries ≤ 256 = omega (arith, leb-true (length new.entries) 256 v.1, fewer_length o.fewer_entries) in
    ap (λ (c : Bool). if c then bad_entry old.types 0 0 0 old.entries else some 0)
    (both_true (ap (between 1 32) same-types ∙ v.0) (le-leb (length old.entries) 256 short))
    ∙ ap (λ (n : ℕ). bad_entry n 0 0 0 old.entries) same-types ∙ fewer_good o.fewer_entries new.types 0 0 0 v.2 0 0 0 (λ x y c. c)

-- ---- a field with no entry

-- the scalar that an unknown value of this wire type is
unfoldable pub bare : Scalar → Scalar
bare int32 = uint64
bare uint32 = uint64
bare uint64 = uint64
bare bool = uint64
bare sint32 = uint64
bare sint64 = uint64
bare fixed32 = fixed32
bare sfixed32 = fixed32
bare fixed64 = fixed64

bare_one : (c : Scalar) → (shape (unknown_kind (wire_one c)) ≡ one (bare c)) × (wire (unknown_kind (wire_one c)) ≡ wire_one c)
unfolding shape shapes wire wires unknown_kind wire_one bare
bare_one int32 = (refl, refl)
bare_one uint32 = (refl, refl)
bare_one uint64 = (refl, refl)
bare_one bool = (refl, refl)
bare_one sint32 = (refl, refl)
bare_one sint64 = (refl, refl)
bare_one fixed32 = (refl, refl)
bare_one sfixed32 = (refl, refl)
bare_one fixed64 = (refl, refl)

pub bare_shape : (k : ℕ) (c : Scalar) → shape k ≡ one c → shape (unknown_kind (wire k)) ≡ one (bare c)
unfolding wire_of
bare_shape k c sh = ap (λ (w : ℕ). shape (unknown_kind w)) (wire_shape k ∙ ap wire_of sh) ∙ (bare_one c).0

pub bare_wire : (k : ℕ) (c : Scalar) → shape k ≡ one c → wire (unknown_kind (wire k)) ≡ wire k
unfolding wire_of
bare_wire k c sh =
    let e : wire k ≡ wire_one c = wire_shape k ∙ ap wire_of sh in
    ap (λ (w : ℕ). wire (unknown_kind w)) e ∙ (bare_one c).1 ∙ sym e

-- its value fits, and is written as the value was
pub raw_fits : (c : Scalar) (v : ℕ) → fits c v ≡ true → fits (bare c) (raw_of c v) ≡ true
unfolding fits bare raw_of
raw_fits int32 v h = lt-ltb v (2 ^ 64) (signed_below (signed_of v h))
raw_fits uint32 v h = lt-ltb v (2 ^ 64) (omega (arith, ltb-true v (2 ^ 32) h))
raw_fits uint64 v h = h
raw_fits bool v h = lt-ltb v (2 ^ 64) (omega (arith, ltb-true v 2 h))
raw_fits sint32 v h = lt-ltb (zigzag v) (2 ^ 64) (omega (arith, zigzag_below (signed_of v h)))
raw_fits sint64 v h = lt-ltb (zigzag v) (2 ^ 64) (zigzag_below64 v (ltb-true v (2 ^ 64) h))
raw_fits fixed32 v h = h
raw_fits sfixed32 v h = lt-ltb (v % 2 ^ 32) (2 ^ 32) (omega arith)
raw_fits fixed64 v h = h

four_bytes : (v : ℕ) → little 4 (v % 2 ^ 32) ≡ little 4 v
unfolding little
four_bytes v =
    ap₂ (◌∷◌) (omega arith) (ap₂ (◌∷◌) (omega arith) (ap₂ (◌∷◌) (omega arith) (ap₂ (◌∷◌) (omega arith) refl)))

pub raw_encoded : (c : Scalar) (v : ℕ) → encoded (bare c) (raw_of c v) ≡ encoded c v
unfolding encoded bare raw_of
raw_encoded int32 v = refl
raw_encoded uint32 v = refl
raw_encoded uint64 v = refl
raw_encoded bool v = refl
raw_encoded sint32 v = refl
raw_encoded sint64 v = refl
raw_encoded fixed32 v = refl
raw_encoded sfixed32 v = four_bytes v
raw_encoded fixed64 v = refl

-- a field of wire type 2 with no entry
pub shape_unknown : (w : ℕ) → w ≡ delimited_wire → shape (unknown_kind w) ≡ other bytes
unfolding shape shapes unknown_kind
shape_unknown w e = ap (λ (x : ℕ). shape (unknown_kind x)) e

pub wire_unknown : (w : ℕ) → w ≡ delimited_wire → wire (unknown_kind w) ≡ w
unfolding wire wires unknown_kind
wire_unknown w e = ap (λ (x : ℕ). wire (unknown_kind x)) e ∙ sym e
