-- The search among the numbers of a valid schema finds the entry of an owner and a number. Assumes nothing.
use Prim.Native.Nat.{ℕ, ◌+◌, ◌*◌, ◌/◌, ◌%◌, ◌^◌, ◌<◌}
use native.Mathlib.Omega.{arith}
use mathlib.Core.Path.{◌≡◌, refl, sym, ap, ◌∙◌, subst}
use mathlib.Core.Bool.{Bool}
use mathlib.Core.List.{List}
use mathlib.Core.Option.{Option, none, some}
use lib.ListN.{length, get_or}
use lib.Dec.{eqb}
use borrow.Author.Tests.{lt-ltb, le-ltb, eqb-true, eqb-false}
use Rattle.spec.specs.Names.{entry_number_column}
use Rattle.std.specs.Prelude.{if◌then◌else◌}
use Rattle.spec.specs.Schema.{Schema, bad_schema, good_entry, place_of, schema_of, entry_stride}
use Rattle.spec.proofs.Laws.{by_test}
use Rattle.spec.proofs.SchemaLaws.{Before, type_before, number_before, at, entry_at, length_entries, rest_bad, place_found, valid_good}
use Rattle.spec.specs.declared.Entry.{Entry}
use Rattle.schema.specs.Layout.{owner_unit}
use Rattle.schema.specs.Search.{within, owner_number, find_in}
use Rattle.schema.specs.Told.{entry, five_at}
use Rattle.schema.proofs.SearchLaws.{Keyed, placed_or, search_place}
use Rattle.schema.proofs.ValidLaws.{entries_in, schema_in, whole, plain, is_entry, good_five, first_five}

-- owner and number as one number
keyed : (o n : ℕ) (e : Entry) → n < 2 ^ 32 → e.number < 2 ^ 32 → Keyed o n (o * owner_unit + n) e (e.owner * owner_unit + e.number)
keyed o n e l m = record { same = λ is. omega arith; only = λ p. (omega arith, omega arith); under = below; over = above }
  where
    below : Before e.owner e.number o n → e.owner * owner_unit + e.number < o * owner_unit + n
    below (type_before h) = omega arith
    below (number_before p h) = omega arith

    above : Before o n e.owner e.number → o * owner_unit + n < e.owner * owner_unit + e.number
    above (type_before h) = omega arith
    above (number_before p h) = omega arith

module _ (types : ℕ) (ns : List ℕ) (valid : bad_schema (schema_of types ns) ≡ none) where
  whole_entries : length ns % entry_stride ≡ 0
  whole_entries =
      by_test (eqb (length ns % entry_stride) 0)
      (λ p. eqb-true (length ns % entry_stride) 0 p)
      (λ p. let z : ◌≡◌ {A = ℕ} 0 1 = cc (rest_bad types ns (eqb-false (length ns % entry_stride) 0 p)) in absurd (omega arith))

  is_whole : schema_of types ns ≡ schema_in types ns
  is_whole = whole types ns whole_entries

  valid_whole : bad_schema (schema_in types ns) ≡ none
  valid_whole = ap bad_schema (sym is_whole) ∙ valid

  module _ (o n : ℕ) (l : n < 2 ^ 32) where
    row : (i : ℕ) → i < length (entries_in ns) → Keyed o n (o * owner_unit + n) (at (schema_in types ns) i) (owner_number ns i)
    row i u =
        let k : i < length ns / entry_stride = omega (arith, length_entries (length ns / entry_stride) ns) in
        let five : at (schema_in types ns) i ≡ entry (five_at ns (entry_stride * i)) = entry_at (length ns / entry_stride) ns i k ∙ sym (first_five ns (entry_stride * i)) in
        let good = good_five types (five_at ns (entry_stride * i)) (ap (good_entry types) (sym five) ∙ valid_good (schema_in types ns) valid_whole i u) in
        let is = five ∙ is_entry (five_at ns (entry_stride * i)) good.0 in
        let m = good.1.number_to in
        let p : entry_stride * i ≡ i * entry_stride = omega arith in
        subst (λ (j : ℕ). Keyed o n (o * owner_unit + n) (at (schema_in types ns) i) (get_or ns j 0 * owner_unit + get_or ns (j + entry_number_column) 0)) p
        (subst (λ (e : Entry). Keyed o n (o * owner_unit + n) e (get_or ns (entry_stride * i) 0 * owner_unit + get_or ns (entry_stride * i + entry_number_column) 0)) (sym is) (keyed o n (plain (five_at ns (entry_stride * i))) l (omega arith)))

    pub find_place : find_in ns o n ≡ place_of 0 (schema_of types ns).entries o n
    unfolding find_in
    find_place =
        let c = length_entries (length ns / entry_stride) ns in
        let count : ℕ = length ns / entry_stride in
        let found = search_place (schema_in types ns) valid_whole (owner_number ns) count o n (o * owner_unit + n) (omega arith) row (λ i a b. absurd (omega arith)) in
        ap (within count) found ∙ go (place_of 0 (entries_in ns) o n) refl ∙ ap (λ (s : Schema). place_of 0 s.entries o n) (sym is_whole)
      where
        go : (p : Option ℕ) → place_of 0 (entries_in ns) o n ≡ p → within (length ns / entry_stride) (placed_or (length ns / entry_stride) p) ≡ p
        go none e = ap (λ (b : Bool). if b then some (length ns / entry_stride) else none) (le-ltb (length ns / entry_stride) (length ns / entry_stride) (omega arith))
        go (some i) e =
            let u = (place_found (entries_in ns) o n i e).0 in
            ap (λ (b : Bool). if b then some i else none) (lt-ltb i (length ns / entry_stride) (omega (arith, length_entries (length ns / entry_stride) ns)))
