-- Laws of schemas: entries and their numbers, there and back; the place of an entry and what is looked up; and what a valid schema is, by the
-- places of its entries, which is what a search by halves needs.
-- Assumes nothing.
use Prim.Native.Nat.{ℕ, zero, suc, ◌+◌, ◌-◌, ◌*◌, ◌/◌, ◌%◌, ◌^◌, ◌≤◌, ◌<◌}
use native.Mathlib.Omega.{arith}
use mathlib.Core.Path.{◌≡◌, refl, sym, ap, ap₂, ◌∙◌, subst}
use mathlib.Core.Bool.{Bool, true, false, not, ◌&&◌, ◌||◌, false≢true}
use mathlib.Core.List.{List, [], ◌∷◌}
use mathlib.Core.Option.{Option, none, some}
use lib.ListN.{length, drop, get_or}
use lib.Seq.{drop-drop}
use lib.Dec.{leb, ltb, eqb}
use borrow.Author.Tests.{leb-true, le-ltb, ltb-true, eqb-true, eq-eqb, ne_eqb, eqb-false, not-true}
use Rattle.spec.specs.Names.{group_kind, largest_number, message_kind, most_entries, most_types, sint64_kind, child_column, double_kind, entry_kind_column, entry_number_column, owner_column, repeated_column}
use Rattle.std.specs.Prelude.{if◌then◌else◌}
use Rattle.spec.specs.Base.{between}
use Rattle.spec.specs.Schema.{Schema, rises, good_entry, bad_entry, bad_schema, no_entry, lookup, place_of, entry_of, entries_of, schema_of, bit, copied, entry_stride}
use Rattle.spec.proofs.Laws.{both, both_true, by_test}
use Rattle.spec.proofs.VarintLaws.{lower_or_not}
use Rattle.spec.specs.declared.Entry.{Entry}

-- ---- entries and their numbers

-- the entry at the front of some numbers
abbrev pub first_entry : List ℕ → Entry
first_entry ns = entry_of (get_or ns owner_column 0) (get_or ns entry_number_column 0) (get_or ns entry_kind_column 0) (get_or ns repeated_column 0) (get_or ns child_column 0)

pub entry_back : (e : Entry) → entry_of e.owner e.number e.kind (bit e.repeated) e.child ≡ e
unfolding entry_of
entry_back e = go e.repeated
  where
    go : (b : Bool) → entry_of e.owner e.number e.kind (bit b) e.child ≡ record { owner = e.owner; number = e.number; kind = e.kind; repeated = b; child = e.child }
    go true = refl
    go false = refl

pub length_copied : (es : List Entry) → length (copied es) ≡ entry_stride * length es
unfolding copied
length_copied [] = refl
length_copied (e ∷ es) = omega (arith, length_copied es)

pub entries_back : (es : List Entry) → entries_of (length es) (copied es) ≡ es
unfolding entries_of copied
entries_back [] = refl
entries_back (e ∷ es) = ap₂ (◌∷◌) (entry_back e) (entries_back es)

pub schema_back : (types : ℕ) (es : List Entry) → schema_of types (copied es) ≡ record { types = types; entries = es }
unfolding schema_of
schema_back types es =
    let l = length_copied es in
    ap₂ (λ (b : Bool) (k : ℕ). if b then record { types = types; entries = entries_of k (copied es) } else record { types = 0; entries = [] })
    (eq-eqb (length (copied es) % entry_stride) 0 (omega arith)) (omega arith)
    ∙ ap (λ (x : List Entry). record { types = types; entries = x }) (entries_back es)

-- one entry of the numbers after the other
pub entries_step : (k : ℕ) (ns : List ℕ) → entries_of (suc k) ns ≡ first_entry ns ∷ entries_of k (drop entry_stride ns)
unfolding entries_of
entries_step k ns = refl

pub length_entries : (k : ℕ) (ns : List ℕ) → length (entries_of k ns) ≡ k
unfolding entries_of
length_entries zero ns = refl
length_entries (suc k) ns = ap suc (length_entries k (drop entry_stride ns))

-- the entry at a place, and those from it on
further : (i : ℕ) (ns : List ℕ) → drop (entry_stride * i) (drop entry_stride ns) ≡ drop (entry_stride * suc i) ns
further i ns = let e : entry_stride + entry_stride * i ≡ entry_stride * suc i = omega arith in drop-drop (entry_stride * i) entry_stride ns ∙ ap (λ (n : ℕ). drop n ns) e

pub entry_at : (k : ℕ) (ns : List ℕ) (i : ℕ) → i < k → get_or (entries_of k ns) i no_entry ≡ first_entry (drop (entry_stride * i) ns)
unfolding entries_of
entry_at zero ns i h = absurd (omega arith)
entry_at (suc k) ns zero h = refl
entry_at (suc k) ns (suc i) h =
    entry_at k (drop entry_stride ns) i (omega arith) ∙ ap first_entry (further i ns)

pub entries_from : (k : ℕ) (ns : List ℕ) (i : ℕ) → i ≤ k → drop i (entries_of k ns) ≡ entries_of (k - i) (drop (entry_stride * i) ns)
unfolding entries_of
entries_from k ns zero h = let e : k ≡ k - 0 = omega arith in ap (λ (n : ℕ). entries_of n ns) e
entries_from zero ns (suc i) h = absurd (omega arith)
entries_from (suc k) ns (suc i) h =
    let e : k - i ≡ suc k - suc i = omega arith in
    entries_from k (drop entry_stride ns) i (omega arith) ∙ ap₂ entries_of e (further i ns)

-- what is no entry is bad, and so are numbers whose `repeated` is 2 or more
pub no_entry_bad : (types : ℕ) → good_entry types no_entry ≡ false
unfolding good_entry
no_entry_bad types = go (ltb 0 types)
  where
    go : (b : Bool) → (b && false && false && true && true) ≡ false
    go true = refl
    go false = refl

pub repeated_bad : (types o n k r c : ℕ) → 2 ≤ r → good_entry types (entry_of o n k r c) ≡ false
unfolding entry_of
repeated_bad types o n k r c h =
    ap (λ (b : Bool). good_entry types (if b then record { owner = o; number = n; kind = k; repeated = eqb r 1; child = c } else no_entry)) (le-ltb r 2 h)
    ∙ no_entry_bad types

-- a remainder after the whole entries is bad at 0
pub rest_bad : (types : ℕ) (ns : List ℕ) → (length ns % entry_stride ≡ 0 → ⊥) → bad_schema (schema_of types ns) ≡ some 0
unfolding schema_of bad_schema
rest_bad types ns h =
    ap (λ (b : Bool). bad_schema (if b then record { types = types; entries = entries_of (length ns / entry_stride) ns } else record { types = 0; entries = [] }))
    (ne_eqb (length ns % entry_stride) 0 h)

-- ---- the place of an entry, and what is looked up

-- the entry of this owner and number
abbrev pub Is : ℕ → ℕ → Entry → Type 0
Is o n e = (e.owner ≡ o) × (e.number ≡ n)

is_true : {o n : ℕ} (e : Entry) → Is o n e → (eqb e.owner o && eqb e.number n) ≡ true
is_true {o} {n} e h = both_true (eq-eqb e.owner o h.0) (eq-eqb e.number n h.1)

true_is : (o n : ℕ) (e : Entry) → (eqb e.owner o && eqb e.number n) ≡ true → Is o n e
true_is o n e h =
    let b = both (eqb e.owner o) (eqb e.number n) h in
    (eqb-true e.owner o b.0, eqb-true e.number n b.1)

is_false : (o n : ℕ) (e : Entry) → (Is o n e → ⊥) → (eqb e.owner o && eqb e.number n) ≡ false
is_false o n e h = by_test (eqb e.owner o && eqb e.number n) (λ p. absurd (h (true_is o n e p))) (λ p. p)

-- a list whose first entry is it, or is not
module _ (o n : ℕ) (e : Entry) (es : List Entry) where
  pub lookup_here : Is o n e → lookup (e ∷ es) o n ≡ e
  unfolding lookup
  lookup_here h = ap (λ (b : Bool). if b then e else lookup es o n) (is_true e h)

  pub lookup_later : (Is o n e → ⊥) → lookup (e ∷ es) o n ≡ lookup es o n
  unfolding lookup
  lookup_later h = ap (λ (b : Bool). if b then e else lookup es o n) (is_false o n e h)

  place_here : (from : ℕ) → Is o n e → place_of from (e ∷ es) o n ≡ some from
  unfolding place_of
  place_here from h = ap (λ (b : Bool). if b then some from else place_of (from + 1) es o n) (is_true e h)

  place_later : (from : ℕ) → (Is o n e → ⊥) → place_of from (e ∷ es) o n ≡ place_of (from + 1) es o n
  unfolding place_of
  place_later from h = ap (λ (b : Bool). if b then some from else place_of (from + 1) es o n) (is_false o n e h)

  pub is_or_not {ℓ} : {A : Type ℓ} → (Is o n e → A) → ((Is o n e → ⊥) → A) → A
  is_or_not f g = by_test (eqb e.owner o && eqb e.number n) (λ p. f (true_is o n e p)) (λ p. g (λ h. false≢true (sym p ∙ is_true e h)))

-- A place, counted from `from`: the entry there is the one that is looked up, and has this owner and number. With no place there is none.
pub data Placed (from : ℕ) (es : List Entry) (o n : ℕ) : Option ℕ → Type 0 where
  placed : {j : ℕ} (i : ℕ) → j ≡ from + i → i < length es → lookup es o n ≡ get_or es i no_entry → Is o n (get_or es i no_entry) → Placed from es o n (some j)
  absent : lookup es o n ≡ no_entry → Placed from es o n none

place_of_lem : (from : ℕ) (es : List Entry) (o n : ℕ) → Placed from es o n (place_of from es o n)
unfolding place_of lookup
place_of_lem from [] o n = absent refl
place_of_lem from (e ∷ es) o n =
    is_or_not o n e es
    (λ h. subst (Placed from (e ∷ es) o n) (sym (place_here o n e es from h)) (placed {j = from} 0 (omega arith) (omega arith) (lookup_here o n e es h) h))
    (λ h. subst (Placed from (e ∷ es) o n) (sym (place_later o n e es from h)) (go h (place_of_lem (from + 1) es o n)))
  where
    go : (Is o n e → ⊥) → {p : Option ℕ} → Placed (from + 1) es o n p → Placed from (e ∷ es) o n p
    go h (placed {j} i q l f is) = placed {j = j} (suc i) (omega arith) (omega arith) (lookup_later o n e es h ∙ f) is
    go h (absent f) = absent (lookup_later o n e es h ∙ f)

pub place_found : (es : List Entry) (o n i : ℕ) → place_of 0 es o n ≡ some i
    → (i < length es) × (lookup es o n ≡ get_or es i no_entry) × Is o n (get_or es i no_entry)
place_found es o n i p = go (subst (Placed 0 es o n) p (place_of_lem 0 es o n))
  where
    go : Placed 0 es o n (some i) → (i < length es) × (lookup es o n ≡ get_or es i no_entry) × Is o n (get_or es i no_entry)
    go (placed j q l f is) =
        let e : j ≡ i = omega arith in
        subst (λ (k : ℕ). (k < length es) × (lookup es o n ≡ get_or es k no_entry) × Is o n (get_or es k no_entry)) e (l, f, is)

pub place_none : (es : List Entry) (o n : ℕ) → place_of 0 es o n ≡ none → lookup es o n ≡ no_entry
place_none es o n p = go (subst (Placed 0 es o n) p (place_of_lem 0 es o n))
  where
    go : Placed 0 es o n none → lookup es o n ≡ no_entry
    go (absent f) = f

-- and the other way: the first that is it is found, and none is where none is it
pub first_found : (es : List Entry) (o n i from : ℕ) → i < length es → Is o n (get_or es i no_entry) → ((j : ℕ) → j < i → Is o n (get_or es j no_entry) → ⊥)
    → (lookup es o n ≡ get_or es i no_entry) × (place_of from es o n ≡ some (from + i))
first_found [] o n i from l is no_other = absurd (omega arith)
first_found (e ∷ es) o n zero from l is no_other = (lookup_here o n e es is, place_here o n e es from is ∙ ap some (omega arith))
first_found (e ∷ es) o n (suc i) from l is no_other =
    let h = no_other 0 (omega arith) in
    let later = first_found es o n i (from + 1) (omega arith) is (λ j k. no_other (suc j) (omega arith)) in
    (lookup_later o n e es h ∙ later.0, place_later o n e es from h ∙ later.1 ∙ ap some (omega arith))

pub none_found : (es : List Entry) (o n from : ℕ) → ((j : ℕ) → j < length es → Is o n (get_or es j no_entry) → ⊥)
    → (lookup es o n ≡ no_entry) × (place_of from es o n ≡ none)
unfolding lookup place_of
none_found [] o n from no_one = (refl, refl)
none_found (e ∷ es) o n from no_one =
    let h = no_one 0 (omega arith) in
    let later = none_found es o n (from + 1) (λ j k. no_one (suc j) (omega arith)) in
    (lookup_later o n e es h ∙ later.0, place_later o n e es from h ∙ later.1)

-- ---- the order of entries

-- the field n of the type o stands before the field m of the type t
pub data Before (o n t m : ℕ) : Type 0 where
  type_before : o < t → Before o n t m
  number_before : o ≡ t → n < m → Before o n t m

pub before_after : {a b o n t m : ℕ} → Before a b o n → Before o n t m → Before a b t m
before_after (type_before h) (type_before j) = type_before (omega arith)
before_after (type_before h) (number_before e j) = type_before (omega arith)
before_after (number_before e h) (type_before j) = type_before (omega arith)
before_after (number_before e h) (number_before f j) = number_before (omega arith) (omega arith)

pub before_not : {o n t m : ℕ} → Before o n t m → (t ≡ o) × (m ≡ n) → ⊥
before_not (type_before h) e = omega arith
before_not (number_before p h) e = omega arith

-- as one number: the type's is the higher half
pub before_key : {o n t m : ℕ} → Before o n t m → n < 2 ^ 32 → o * 2 ^ 32 + n < t * 2 ^ 32 + m
before_key (type_before h) l = omega arith
before_key (number_before p h) l = omega arith

pub key_before : (o n t m : ℕ) → m < 2 ^ 32 → o * 2 ^ 32 + n < t * 2 ^ 32 + m → Before o n t m
key_before o n t m l h = lower_or_not o t (λ c. type_before c) (λ c. number_before (omega arith) (omega arith))

pub rises_before : (o n : ℕ) (e : Entry) → rises o n e ≡ true → Before o n e.owner e.number
rises_before o n e h = go (ltb o e.owner) (eqb o e.owner) (ltb n e.number) refl refl refl h
  where
    go : (a b c : Bool) → ltb o e.owner ≡ a → eqb o e.owner ≡ b → ltb n e.number ≡ c → (a || b && c) ≡ true → Before o n e.owner e.number
    go true b c p q r h = type_before (ltb-true o e.owner p)
    go false true true p q r h = number_before (eqb-true o e.owner q) (ltb-true n e.number r)
    go false true false p q r h = absurd (false≢true h)
    go false false c p q r h = absurd (false≢true h)

-- ---- a valid schema

-- what a good entry is
pub record Good (types : ℕ) (e : Entry) : Type 0 where
  pub owned : e.owner < types
  pub number_from : 1 ≤ e.number
  pub number_to : e.number ≤ largest_number
  pub kind_from : 1 ≤ e.kind
  pub kind_to : e.kind ≤ sint64_kind
  pub no_group : e.kind ≡ group_kind → ⊥
  pub message_child : e.kind ≡ message_kind → e.child < types
  pub no_child : (e.kind ≡ message_kind → ⊥) → e.child ≡ 0

pub good_entry_lem : (types : ℕ) (e : Entry) → good_entry types e ≡ true → Good types e
unfolding good_entry
good_entry_lem types e h =
    let a = both (ltb e.owner types && between 1 largest_number e.number && between double_kind sint64_kind e.kind && not (eqb e.kind group_kind)) _ h in
    let b = both (ltb e.owner types && between 1 largest_number e.number && between double_kind sint64_kind e.kind) _ a.0 in
    let c = both (ltb e.owner types && between 1 largest_number e.number) _ b.0 in
    let d = both (ltb e.owner types) _ c.0 in
    let n = both (leb 1 e.number) (leb e.number largest_number) d.1 in
    let k = both (leb 1 e.kind) (leb e.kind sint64_kind) c.1 in
    let child : (x : Bool) → eqb e.kind message_kind ≡ x → (if x then ltb e.child types else eqb e.child 0) ≡ true =
    λ x p. ap (λ (y : Bool). if y then ltb e.child types else eqb e.child 0) (sym p) ∙ a.1 in
    record {
      owned = ltb-true e.owner types d.0;
      number_from = leb-true 1 e.number n.0;
      number_to = leb-true e.number largest_number n.1;
      kind_from = leb-true 1 e.kind k.0;
      kind_to = leb-true e.kind sint64_kind k.1;
      no_group = eqb-false e.kind group_kind (not-true (eqb e.kind group_kind) b.1);
      message_child = λ p. ltb-true e.child types (child true (eq-eqb e.kind message_kind p));
      no_child = λ p. eqb-true e.child 0 (child false (ne_eqb e.kind message_kind p));
    }

-- an entry is passed, or is the first bad one
module _ (types o n i : ℕ) (e : Entry) (es : List Entry) where
  pub entry_passed : (rises o n e && good_entry types e) ≡ true → bad_entry types o n i (e ∷ es) ≡ bad_entry types e.owner e.number (i + 1) es
  unfolding bad_entry
  entry_passed h = simp h

  pub entry_stops : (rises o n e && good_entry types e) ≡ false → bad_entry types o n i (e ∷ es) ≡ some i
  unfolding bad_entry
  entry_stops h = simp h

-- a valid list of entries: the first rises, and the rest is valid after it
pub first_entry_lem : (types o n i : ℕ) (e : Entry) (es : List Entry) → bad_entry types o n i (e ∷ es) ≡ none
    → Before o n e.owner e.number × (bad_entry types e.owner e.number (i + 1) es ≡ none) × (good_entry types e ≡ true)
first_entry_lem types o n i e es h =
    by_test (rises o n e && good_entry types e)
    (λ p.
    let b = both (rises o n e) (good_entry types e) p in
    (rises_before o n e b.0, sym (entry_passed types o n i e es p) ∙ h, b.1))
    (λ p. let x : some i ≡ none = sym (entry_stops types o n i e es p) ∙ h in let z : ◌≡◌ {A = ℕ} 0 1 = cc in absurd (omega arith))

-- one entry stands before the other
abbrev pub Rises : Entry → Entry → Type 0
Rises e f = Before e.owner e.number f.owner f.number

-- each entry is good, and comes after the owner and number that stand before all
entry_valid : (types o n i : ℕ) (es : List Entry) → bad_entry types o n i es ≡ none → (j : ℕ) → j < length es
    → Before o n (get_or es j no_entry).owner (get_or es j no_entry).number × (good_entry types (get_or es j no_entry) ≡ true)
entry_valid types o n i [] h j l = absurd (omega arith)
entry_valid types o n i (e ∷ es) h zero l = let g = first_entry_lem types o n i e es h in (g.0, g.2)
entry_valid types o n i (e ∷ es) h (suc j) l =
    let g = first_entry_lem types o n i e es h in
    let later = entry_valid types e.owner e.number (i + 1) es g.1 j (omega arith) in
    (before_after g.0 later.0, later.1)

entries_rise : (types o n i : ℕ) (es : List Entry) → bad_entry types o n i es ≡ none → (j k : ℕ) → j < k → k < length es → Rises (get_or es j no_entry) (get_or es k no_entry)
entries_rise types o n i [] h j k u l = absurd (omega arith)
entries_rise types o n i (e ∷ es) h j zero u l = absurd (omega arith)
entries_rise types o n i (e ∷ es) h zero (suc k) u l =
    (entry_valid types e.owner e.number (i + 1) es (first_entry_lem types o n i e es h).1 k (omega arith)).0
entries_rise types o n i (e ∷ es) h (suc j) (suc k) u l =
    entries_rise types e.owner e.number (i + 1) es (first_entry_lem types o n i e es h).1 j k (omega arith) (omega arith)

pub valid_entries : (sch : Schema) → bad_schema sch ≡ none
    → (between 1 32 sch.types ≡ true) × (leb (length sch.entries) 256 ≡ true) × (bad_entry sch.types 0 0 0 sch.entries ≡ none)
unfolding bad_schema
valid_entries sch h = go (between 1 32 sch.types) (leb (length sch.entries) 256) h
  where
    go : (a b : Bool) → (if a && b then bad_entry sch.types 0 0 0 sch.entries else some 0) ≡ none
        → (a ≡ true) × (b ≡ true) × (bad_entry sch.types 0 0 0 sch.entries ≡ none)
    go true true h = (refl, refl, h)
    go true false h = let z : ◌≡◌ {A = ℕ} 0 1 = cc in absurd (omega arith)
    go false b h = let z : ◌≡◌ {A = ℕ} 0 1 = cc in absurd (omega arith)

-- the entry at a place
abbrev pub at : Schema → ℕ → Entry
at sch i = get_or sch.entries i no_entry

module _ (sch : Schema) (valid : bad_schema sch ≡ none) where
  pub valid_types : (1 ≤ sch.types) × (sch.types ≤ most_types)
  valid_types =
      let b = both (leb 1 sch.types) (leb sch.types most_types) (valid_entries sch valid).0 in
      (leb-true 1 sch.types b.0, leb-true sch.types most_types b.1)

  pub valid_count : length sch.entries ≤ most_entries
  valid_count = leb-true (length sch.entries) most_entries (valid_entries sch valid).1

  pub valid_good : (i : ℕ) → i < length sch.entries → good_entry sch.types (at sch i) ≡ true
  valid_good i l = (entry_valid sch.types 0 0 0 sch.entries (valid_entries sch valid).2 i l).1

  pub valid_rises : (i j : ℕ) → i < j → j < length sch.entries → Rises (at sch i) (at sch j)
  valid_rises i j u l = entries_rise sch.types 0 0 0 sch.entries (valid_entries sch valid).2 i j u l

  -- an entry of this owner and number is the one that is found
  pub valid_found : (o n i : ℕ) → i < length sch.entries → Is o n (at sch i)
      → (lookup sch.entries o n ≡ at sch i) × (place_of 0 sch.entries o n ≡ some i)
  valid_found o n i l is =
      let f = first_found sch.entries o n i 0 l is (λ j u other. before_not (valid_rises j i u l) (omega arith)) in
      (f.0, f.1 ∙ ap some (omega arith))

  -- what comes after an entry comes after all below it, and what stands before one before all above it
  pub valid_below : (o n i : ℕ) → i < length sch.entries → Before (at sch i).owner (at sch i).number o n → (j : ℕ) → j ≤ i → Before (at sch j).owner (at sch j).number o n
  valid_below o n i l b j u =
      lower_or_not j i (λ c. before_after (valid_rises j i c l) b) (λ c. let e : i ≡ j = omega arith in subst (λ (k : ℕ). Before (at sch k).owner (at sch k).number o n) e b)

  pub valid_above : (o n i : ℕ) → Before o n (at sch i).owner (at sch i).number → (j : ℕ) → i ≤ j → j < length sch.entries → Before o n (at sch j).owner (at sch j).number
  valid_above o n i b j u l =
      lower_or_not i j (λ c. before_after b (valid_rises i j c l)) (λ c. let e : i ≡ j = omega arith in subst (λ (k : ℕ). Before o n (at sch k).owner (at sch k).number) e b)

  -- where the entries below a place stand before this owner and number, and those from the place on after them, none is found
  pub valid_none : (o n i : ℕ) → ((j : ℕ) → j < i → Before (at sch j).owner (at sch j).number o n)
      → ((j : ℕ) → i ≤ j → j < length sch.entries → Before o n (at sch j).owner (at sch j).number)
      → (lookup sch.entries o n ≡ no_entry) × (place_of 0 sch.entries o n ≡ none)
  valid_none o n i below above =
      none_found sch.entries o n 0 λ j l is.
      lower_or_not j i (λ c. before_not (below j c) (sym is.0, sym is.1)) (λ c. before_not (above j c l) is)

  -- what is looked up is of a kind of descriptor.proto, or none
  pub schema_kinds : (t m : ℕ) → (lookup sch.entries t m).kind ≤ sint64_kind
  schema_kinds t m = go (place_of_lem 0 sch.entries t m)
    where
      go : {p : Option ℕ} → Placed 0 sch.entries t m p → (lookup sch.entries t m).kind ≤ sint64_kind
      go (placed i q l f is) = subst (λ (e : Entry). e.kind ≤ sint64_kind) (sym f) (good_entry_lem sch.types (at sch i) (valid_good i l)).kind_to
      go (absent f) = subst (λ (e : Entry). e.kind ≤ sint64_kind) (sym f) (omega arith)
