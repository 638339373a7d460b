-- What is lent on of a copy is the schema's numbers; of more entries than a schema may have it is one number, which is bad at 0 as they are. So every call that judges its
-- schema first answers the same. Assumes nothing.
use Prim.Native.Nat.{ℕ, ◌*◌, ◌≤◌, ◌<◌}
use native.Mathlib.Omega.{arith}
use mathlib.Core.Path.{◌≡◌, refl, sym, ap, ap₂, ◌∙◌}
use mathlib.Core.Bool.{Bool, true, false, ◌&&◌, false≢true}
use mathlib.Core.Option.{some}
use mathlib.Core.List.{List}
use lib.ListN.{length, take, drop, length-take}
use lib.Seq.{take-append_seam}
use lib.Dec.{leb}
use borrow.Author.Tests.{lt-ltb, le-ltb, lt-leb}
use Rattle.spec.specs.Names.{most_entries, most_types}
use Rattle.std.specs.Prelude.{if◌then◌else◌}
use Rattle.spec.specs.Base.{between, filled, limit}
use Rattle.spec.specs.Schema.{Schema, bad_entry, bad_schema, schema_of, copied, entry_stride}
use Rattle.spec.specs.Reading.{reading_as, reading_by, called, refused_or}
use Rattle.spec.specs.Record.{Record}
use Rattle.spec.specs.Writing.{Verdict, written, list_check, schema_first, judged, sized, writing, sizing}
use Rattle.spec.specs.declared.Entry.{Entry}
use Rattle.spec.specs.declared.Mode.{Mode}
use Rattle.spec.proofs.SchemaLaws.{length_copied, schema_back, rest_bad}
use Rattle.spec.proofs.VarintLaws.{lower_or_not}
use Rattle.entries.specs.Copied.{most_numbers, copied_to, lent}
use Rattle.entries.proofs.CopyLaws.{few_all, copied_none, copied_to_lem}

-- two schemas under which every call answers the same: they are one, or both are bad at 0
pub data Alike (a b : Schema) : Type 0 where
  one : a ≡ b → Alike a b
  bad : bad_schema a ≡ some 0 → bad_schema b ≡ some 0 → Alike a b

pub many_bad : (types : ℕ) (es : List Entry) → most_entries < length es → bad_schema (record { types = types; entries = es }) ≡ some 0
unfolding bad_schema
many_bad types es h = go (between 1 most_types types) (leb (length es) most_entries) (lt-leb (length es) most_entries h)
  where
    go : (a b : Bool) → b ≡ false → (if a && b then bad_entry types 0 0 0 es else some 0) ≡ some 0
    go true true e = absurd (false≢true (sym e))
    go true false e = refl
    go false b e = refl

lent_few : (es : List Entry) (a : List ℕ) → length es ≤ most_entries → lent es a ≡ copied es
unfolding lent
lent_few es a h = rw (le-ltb most_entries (length es) h)

lent_many : (es : List Entry) (a : List ℕ) → most_entries < length es → lent es a ≡ take 1 a
unfolding lent
lent_many es a h = rw (lt-ltb most_entries (length es) h)

-- the numbers at the front of a copy
pub front_few : (es : List Entry) (a z : List ℕ) (n : ℕ) → n ≡ length es → n ≤ most_entries → length a ≡ most_numbers → z ≡ copied_to es a → take (n * entry_stride) z ≡ lent es a
front_few es a z n is h la e =
    let few : length es ≤ most_entries = omega (arith, is, h) in
    let long : n * entry_stride ≡ length (copied es) = omega (arith, is, length_copied es) in
    let whole : z ≡ filled (copied es) a = e ∙ copied_to_lem es a la ∙ ap (λ (l : List Entry). filled (copied l) a) (few_all es few) in
    ap₂ take long whole ∙ take-append_seam (copied es) (drop (length (copied es)) a) ∙ sym (lent_few es a few)

pub front_many : (es : List Entry) (a z : List ℕ) (n : ℕ) → n ≡ length es → most_entries < n → z ≡ copied_to es a → take 1 z ≡ lent es a
front_many es a z n is h e =
    let many : most_entries < length es = omega (arith, is, h) in
    ap (take 1) (e ∙ copied_none es a many) ∙ sym (lent_many es a many)

pub lent_alike : (types : ℕ) (es : List Entry) (a : List ℕ) → 0 < length a → Alike (schema_of types (lent es a)) (record { types = types; entries = es })
lent_alike types es a la = lower_or_not most_entries (length es)
    (λ c.
    let short : length (lent es a) ≡ 1 = ap length (lent_many es a c) ∙ length-take 1 a ∙ omega (arith, la) in
    bad (rest_bad types (lent es a) (λ h. omega (arith, h, short))) (many_bad types es c))
    (λ c. one (ap (schema_of types) (lent_few es a c) ∙ schema_back types es))

pub alike_reading : {a b : Schema} → Alike a b → (mode : Mode) (n : ℕ) (s : List ℕ) → reading_as mode a n s ≡ reading_as mode b n s
unfolding reading_as reading_by called refused_or
alike_reading (one e) mode n s = ap (λ (x : Schema). reading_as mode x n s) e
alike_reading (bad p q) mode n s = rw (p, q)

pub alike_check : {a b : Schema} → Alike a b → (payload : List ℕ) (rs : List Record) → list_check a payload rs ≡ list_check b payload rs
unfolding list_check schema_first
alike_check (one e) payload rs = ap (λ (x : Schema). list_check x payload rs) e
alike_check (bad p q) payload rs = rw (p, q)

pub alike_writing : {a b : Schema} → Alike a b → (room : ℕ) (payload : List ℕ) (rs : List Record) → writing a room payload rs ≡ writing b room payload rs
unfolding writing
alike_writing same room payload rs = ap (λ (v : Verdict). judged v (sized room (written payload rs))) (alike_check same payload rs)

pub alike_sizing : {a b : Schema} → Alike a b → (payload : List ℕ) (rs : List Record) → sizing a payload rs ≡ sizing b payload rs
unfolding sizing
alike_sizing same payload rs = alike_writing same limit payload rs
