-- Laws of the check, entry by entry: which counts are right, when an entry is the next one, and where the check stands before each.
-- Assumes nothing.
use Prim.Native.Nat.{ℕ, zero, suc, ◌+◌, ◌-◌, ◌*◌, ◌/◌, ◌%◌, ◌^◌, ◌≤◌, ◌<◌}
use native.Mathlib.Omega.{arith}
use mathlib.Core.Path.{◌≡◌, refl, sym, ap, ap₂, ◌∙◌}
use mathlib.Core.Bool.{Bool, true, false, ◌&&◌, ◌||◌, false≢true, and-true, and-false}
use mathlib.Core.List.{List, [], ◌∷◌}
use mathlib.Core.Option.{none, some}
use lib.ListN.{length, drop, get_or}
use Rattle.std.specs.Simd.{first_chunks}
use Rattle.std.proofs.lemmas.List.{get_or-take}
use lib.Seq.{get_or-drop, drop-drop}
use lib.Dec.{leb, ltb, eqb}
use borrow.Author.Tests.{ltb-true, ltb-false, lt-ltb, le-ltb, le-leb, lt-leb, leb-true, eqb-true, eqb-false, eq-eqb}
use Rattle.spec.specs.Names.{largest_number, child_column, entry_kind_column, entry_number_column, most_entries, most_types, owner_column, repeated_column}
use Rattle.std.specs.Prelude.{if◌then◌else◌}
use Rattle.spec.specs.Base.{between}
use Rattle.spec.specs.Schema.{Schema, rises, good_entry, bad_entry, bad_schema, no_entry, entry_of, entries_of, schema_of, entry_stride}
use Rattle.spec.proofs.Laws.{both, by_test}
use Rattle.spec.proofs.VarintLaws.{lower_or_not}
use Rattle.spec.proofs.SchemaLaws.{first_entry, entries_step, length_entries, entry_at, repeated_bad, rest_bad, Good, good_entry_lem}
use Rattle.spec.specs.declared.Entry.{Entry}
use Rattle.schema.specs.Layout.{most_numbers, owner_unit}
use Rattle.schema.specs.declared.Five.{Five}
use Rattle.schema.specs.Tables.{counted, rank, next_key}
use Rattle.schema.specs.Told.{entry, five_at}

-- ---- the counts

-- the entries of numbers that are whole ones
abbrev pub entries_in : List ℕ → List Entry
entries_in ns = entries_of (length ns / entry_stride) ns

abbrev pub schema_in : ℕ → List ℕ → Schema
schema_in types ns = record { types = types; entries = entries_in ns }

pub counts_bounds : (types count : ℕ) → counted types count ≡ true → (types ≤ most_types) × (count ≤ most_numbers)
counts_bounds types count h =
    let a = both (between 1 most_types types && leb count most_numbers) (eqb (count % entry_stride) 0) h in
    let b = both (between 1 most_types types) (leb count most_numbers) a.0 in
    (leb-true types most_types (both (leb 1 types) (leb types most_types) b.0).1, leb-true count most_numbers b.1)

-- so many numbers are so many entries
as_many_entries : (n : ℕ) → n % entry_stride ≡ 0 → leb (n / entry_stride) most_entries ≡ leb n most_numbers
as_many_entries n h = lower_or_not most_numbers n (λ c. lt-leb (n / entry_stride) most_entries (omega arith) ∙ sym (lt-leb n most_numbers c)) (λ c. le-leb (n / entry_stride) most_entries (omega arith) ∙ sym (le-leb n most_numbers c))

module _ (types : ℕ) (ns : List ℕ) where
  pub whole : length ns % entry_stride ≡ 0 → schema_of types ns ≡ schema_in types ns
  unfolding schema_of
  whole h = ap (λ (b : Bool). if b then schema_in types ns else record { types = 0; entries = [] }) (eq-eqb (length ns % entry_stride) 0 h)

  entry_count : length ns % entry_stride ≡ 0 → leb (length (entries_in ns)) most_entries ≡ leb (length ns) most_numbers
  entry_count h = ap (λ (n : ℕ). leb n most_entries) (length_entries (length ns / entry_stride) ns) ∙ as_many_entries (length ns) h

  by_counts : length ns % entry_stride ≡ 0 → bad_schema (schema_of types ns) ≡ (if between 1 most_types types && leb (length ns) most_numbers then bad_entry types 0 0 0 (entries_in ns) else some 0)
  unfolding bad_schema
  by_counts h =
      ap bad_schema (whole h)
      ∙ ap (λ (b : Bool). if between 1 most_types types && b then bad_entry types 0 0 0 (entries_in ns) else some 0) (entry_count h)

  -- right counts leave it to the entries, and a wrong one is bad at 0
  pub counts_right : counted types (length ns) ≡ true
      → (schema_of types ns ≡ schema_in types ns) × (bad_schema (schema_of types ns) ≡ bad_entry types 0 0 0 (entries_in ns)) × (length ns % entry_stride ≡ 0)
  counts_right h =
      let b = both (between 1 most_types types && leb (length ns) most_numbers) (eqb (length ns % entry_stride) 0) h in
      let w = eqb-true (length ns % entry_stride) 0 b.1 in
      (whole w, by_counts w ∙ ap (λ (x : Bool). if x then bad_entry types 0 0 0 (entries_in ns) else some 0) b.0, w)

  pub counts_wrong : counted types (length ns) ≡ false → bad_schema (schema_of types ns) ≡ some 0
  counts_wrong h =
      by_test (eqb (length ns % entry_stride) 0)
      (λ p. by_counts (eqb-true (length ns % entry_stride) 0 p) ∙ ap (λ (x : Bool). if x then bad_entry types 0 0 0 (entries_in ns) else some 0) (go (between 1 most_types types && leb (length ns) most_numbers) (eqb (length ns % entry_stride) 0) p h))
      (λ p. rest_bad types ns (eqb-false (length ns % entry_stride) 0 p))
    where
      go : (a b : Bool) → b ≡ true → (a && b) ≡ false → a ≡ false
      go true b p q = sym p ∙ q
      go false b p q = refl

-- ---- a good entry

-- five numbers whose `repeated` is 0 or 1 are an entry
abbrev pub plain : Five → Entry
plain f = record { owner = f.owner; number = f.number; kind = f.kind; repeated = eqb f.repeated 1; child = f.child }

pub is_entry : (f : Five) → f.repeated < 2 → entry f ≡ plain f
unfolding entry_of
is_entry f h = ap (λ (b : Bool). if b then plain f else no_entry) (lt-ltb f.repeated 2 h)

module _ (types : ℕ) (f : Five) where
  -- what good numbers are
  pub good_five : good_entry types (entry f) ≡ true → (f.repeated < 2) × Good types (plain f)
  good_five g =
      lower_or_not f.repeated 2
      (λ h. (h, good_entry_lem types (plain f) (ap (good_entry types) (sym (is_entry f h)) ∙ g)))
      (λ h. absurd (false≢true (sym (repeated_bad types f.owner f.number f.kind f.repeated f.child h) ∙ g)))

-- ---- an entry is the next one

-- of good numbers, one entry stands after another exactly when its rank is above
rises_rank : (o n last : ℕ) (e : Entry) → last ≡ o * owner_unit + n * 8 → n < 2 ^ 29 → e.number < 2 ^ 29 → rises o n e ≡ ltb last (rank e)
rises_rank o n last e p l m = go (ltb o e.owner) (eqb o e.owner) (ltb n e.number) refl refl refl
  where
    go : (a b c : Bool) → ltb o e.owner ≡ a → eqb o e.owner ≡ b → ltb n e.number ≡ c → (a || b && c) ≡ ltb last (rank e)
    go true b c q r s = let h = ltb-true o e.owner q in sym (lt-ltb last (rank e) (omega arith))
    go false true true q r s =
        let h = eqb-true o e.owner r in
        let g = ltb-true n e.number s in
        sym (lt-ltb last (rank e) (omega arith))
    go false true false q r s =
        let h = eqb-true o e.owner r in
        let g = ltb-false n e.number s in
        sym (le-ltb last (rank e) (omega arith))
    go false false c q r s =
        let h = ltb-false o e.owner q in
        lower_or_not e.owner o
        (λ g. sym (le-ltb last (rank e) (omega arith)))
        (λ g. absurd (eqb-false o e.owner r (omega arith)))

-- the owner and the number that a rank is of
abbrev pub owner_of : ℕ → ℕ
owner_of last = last / owner_unit

abbrev pub number_of : ℕ → ℕ
number_of last = last % owner_unit / 8

module _ (types last : ℕ) (e : Entry) where
  -- the two tests of an entry
  abbrev pub passes : Bool
  passes = good_entry types e && ltb last (rank e)

  pub key_passed : passes ≡ true → next_key types last e ≡ rank e
  unfolding next_key
  key_passed p = ap (λ (b : Bool). if b then rank e else 0) p

  pub key_refused : passes ≡ false → next_key types last e ≡ 0
  unfolding next_key
  key_refused p = ap (λ (b : Bool). if b then rank e else 0) p

module _ (types last : ℕ) (e : Entry) (low : last % 8 ≡ 0) where
  tested : (rises (owner_of last) (number_of last) e && good_entry types e) ≡ passes types last e
  tested =
      by_test (good_entry types e)
      (λ p. let l : e.number < 2 ^ 29 = omega (arith, (good_entry_lem types e p).number_to) in
      let r : rises (owner_of last) (number_of last) e ≡ ltb last (rank e) = rises_rank (owner_of last) (number_of last) last e (omega arith) (omega arith) l in
      ap₂ (◌&&◌) r p ∙ and-true (ltb last (rank e)) ∙ ap (λ (b : Bool). b && ltb last (rank e)) (sym p))
      (λ p. ap (λ (b : Bool). rises (owner_of last) (number_of last) e && b) p ∙ and-false (rises (owner_of last) (number_of last) e) ∙ ap (λ (b : Bool). b && ltb last (rank e)) (sym p))

  bad_tested : (i : ℕ) (es : List Entry) → bad_entry types (owner_of last) (number_of last) i (e ∷ es) ≡ (if passes types last e then bad_entry types e.owner e.number (i + 1) es else some i)
  unfolding bad_entry
  bad_tested i es = ap (λ (b : Bool). if b then bad_entry types e.owner e.number (i + 1) es else some i) tested

  -- no next key: this entry is the first bad one
  pub next_bad : (i : ℕ) (es : List Entry) → next_key types last e ≡ 0 → bad_entry types (owner_of last) (number_of last) i (e ∷ es) ≡ some i
  next_bad i es z =
      by_test (passes types last e)
      (λ p. let g = good_entry_lem types e (both (good_entry types e) (ltb last (rank e)) p).0 in
      let k = key_passed types last e p in
      absurd (omega (arith, g.number_from)))
      (λ p. bad_tested i es ∙ ap (λ (b : Bool). if b then bad_entry types e.owner e.number (i + 1) es else some i) p)

  -- a next key: the entry is good, and the key is its rank
  pub next_good : (next_key types last e ≡ 0 → ⊥) → (good_entry types e ≡ true) × (next_key types last e ≡ rank e)
  next_good z = by_test (passes types last e) (λ p. ((both (good_entry types e) (ltb last (rank e)) p).0, key_passed types last e p)) (λ p. absurd (z (key_refused types last e p)))

  pub next_later : (i : ℕ) (es : List Entry) → (next_key types last e ≡ 0 → ⊥)
      → bad_entry types (owner_of last) (number_of last) i (e ∷ es) ≡ bad_entry types (owner_of (next_key types last e)) (number_of (next_key types last e)) (i + 1) es
  next_later i es z =
      by_test (passes types last e)
      (λ p. let g = good_entry_lem types e (both (good_entry types e) (ltb last (rank e)) p).0 in
      let l : e.number ≤ largest_number = g.number_to in
      let k = key_passed types last e p in
      let o : e.owner ≡ owner_of (next_key types last e) = omega arith in
      let n : e.number ≡ number_of (next_key types last e) = omega arith in
      bad_tested i es ∙ ap (λ (b : Bool). if b then bad_entry types e.owner e.number (i + 1) es else some i) p
      ∙ ap₂ (λ (a b : ℕ). bad_entry types a b (i + 1) es) o n)
      (λ p. absurd (z (key_refused types last e p)))

-- ---- where the check stands

-- before entry e: the rank of the one before it is `last`, and the rest decides
pub record Here (types : ℕ) (ns : List ℕ) (e last : ℕ) : Type 0 where
  pub counts : counted types (length ns) ≡ true
  pub low : last % 8 ≡ 0
  pub rest : bad_schema (schema_of types ns) ≡ bad_entry types (owner_of last) (number_of last) e (entries_of (length ns / entry_stride - e) (drop (entry_stride * e) ns))

pub here_first : (types : ℕ) (ns : List ℕ) → counted types (length ns) ≡ true → Here types ns 0 0
here_first types ns h =
    let k : length ns / entry_stride ≡ length ns / entry_stride - 0 = omega arith in
    record {
      counts = h;
      low = omega arith;
      rest = (counts_right types ns h).1 ∙ ap (λ (n : ℕ). bad_entry types 0 0 0 (entries_of n ns)) k;
    }

-- the numbers from i on are the first entry of what is left
pub first_five : (ns : List ℕ) (i : ℕ) → entry (five_at ns i) ≡ first_entry (drop i ns)
first_five ns i =
    let z : i ≡ i + 0 = omega arith in
    simp get_or-drop (ap (λ (n : ℕ). entry_of (get_or ns n 0) (get_or ns (i + entry_number_column) 0) (get_or ns (i + entry_kind_column) 0) (get_or ns (i + repeated_column) 0) (get_or ns (i + child_column) 0)) z)

-- the numbers by entries: a chunk has the numbers of its entry
chunk_has : (k e : ℕ) (ns : List ℕ) (j : ℕ) → e < k → j < entry_stride → get_or (get_or (first_chunks entry_stride k ns) e []) j 0 ≡ get_or ns (entry_stride * e + j) 0
chunk_has zero e ns j l m = absurd (omega arith)
chunk_has (suc k) zero ns j l m =
    let n : j ≡ entry_stride * zero + j = omega arith in
    get_or-take entry_stride ns j 0 m ∙ ap (λ (i : ℕ). get_or ns i 0) n
chunk_has (suc k) (suc e) ns j l m =
    let n : entry_stride + (entry_stride * e + j) ≡ entry_stride * suc e + j = omega arith in
    chunk_has k e (drop entry_stride ns) j (omega arith) m ∙ get_or-drop entry_stride ns (entry_stride * e + j) 0 ∙ ap (λ (i : ℕ). get_or ns i 0) n

pub chunk_five : (ns : List ℕ) {chunks : List (List ℕ)} {e : ℕ} → chunks ≡ first_chunks entry_stride (length ns / entry_stride) ns → e < length ns / entry_stride
    → five_at (get_or chunks e []) 0 ≡ five_at ns (entry_stride * e)
chunk_five ns {chunks} {e} is l =
    let z : entry_stride * e + 0 ≡ entry_stride * e = omega arith in
    let has = λ (j : ℕ) (m : j < entry_stride). ap (λ (cs : List (List ℕ)). get_or (get_or cs e []) j 0) is ∙ chunk_has (length ns / entry_stride) e ns j l m in
    let owner = has owner_column (omega arith) ∙ ap (λ (i : ℕ). get_or ns i 0) z in
    let number = has entry_number_column (omega arith) in
    let kind = has entry_kind_column (omega arith) in
    let repeated = has repeated_column (omega arith) in
    let child = has child_column (omega arith) in
    cc

module _ {types : ℕ} {ns : List ℕ} {e last : ℕ} (h : Here types ns e last) where
  whole_entries : length ns % entry_stride ≡ 0
  whole_entries = (counts_right types ns h.counts).2

  pub here_end : length ns / entry_stride ≤ e → bad_schema (schema_of types ns) ≡ none
  unfolding entries_of bad_entry
  here_end l =
      let z : length ns / entry_stride - e ≡ 0 = omega arith in
      h.rest ∙ ap (λ (n : ℕ). bad_entry types (owner_of last) (number_of last) e (entries_of n (drop (entry_stride * e) ns))) z

  module _ (l : e < length ns / entry_stride) {f : Five} (at : f ≡ five_at ns (entry_stride * e)) where
    first : entry f ≡ first_entry (drop (entry_stride * e) ns)
    first = ap entry at ∙ first_five ns (entry_stride * e)

    -- entry e by its place among all
    pub here_entry : get_or (entries_in ns) e no_entry ≡ entry f
    here_entry = entry_at (length ns / entry_stride) ns e l ∙ sym first

    -- and those after it
    others : List Entry
    others = entries_of (length ns / entry_stride - (e + 1)) (drop (entry_stride * (e + 1)) ns)

    here_cons : entries_of (length ns / entry_stride - e) (drop (entry_stride * e) ns) ≡ entry f ∷ others
    unfolding others
    here_cons =
        let k : length ns / entry_stride - e ≡ suc (length ns / entry_stride - (e + 1)) = omega arith in
        let d : entry_stride * e + entry_stride ≡ entry_stride * (e + 1) = omega arith in
        ap (λ (n : ℕ). entries_of n (drop (entry_stride * e) ns)) k
        ∙ entries_step (length ns / entry_stride - (e + 1)) (drop (entry_stride * e) ns)
        ∙ ap₂ (λ (x : Entry) (xs : List ℕ). x ∷ entries_of (length ns / entry_stride - (e + 1)) xs)
        (sym first)
        (drop-drop entry_stride (entry_stride * e) ns ∙ ap (λ (n : ℕ). drop n ns) d)

    here_rest : bad_schema (schema_of types ns) ≡ bad_entry types (owner_of last) (number_of last) e (entry f ∷ others)
    here_rest = h.rest ∙ ap (bad_entry types (owner_of last) (number_of last) e) here_cons

    pub here_bad : next_key types last (entry f) ≡ 0 → bad_schema (schema_of types ns) ≡ some e
    here_bad z = here_rest ∙ next_bad types last (entry f) h.low e others z

    module _ {key : ℕ} (is : (key ≡ next_key types last (entry f)) × (0 < key)) where
      there : next_key types last (entry f) ≡ 0 → ⊥
      there z = omega arith

      pub here_good : (good_entry types (entry f) ≡ true) × (key ≡ rank (entry f))
      here_good = let g = next_good types last (entry f) h.low there in (g.0, is.0 ∙ g.1)

      pub here_next : Here types ns (e + 1) key
      unfolding others
      here_next =
          let k = here_good.1 in
          record {
            counts = h.counts;
            low = omega arith;
            rest =
                here_rest ∙ next_later types last (entry f) h.low e others there
                ∙ ap (λ (n : ℕ). bad_entry types (owner_of n) (number_of n) (e + 1) others) (sym is.0);
          }
