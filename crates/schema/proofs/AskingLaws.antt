-- What any two tables say of a tag, case by case. Assumes nothing.
use Prim.Native.Nat.{ℕ, ◌+◌, ◌*◌, ◌/◌, ◌%◌, ◌≤◌, ◌<◌}
use mathlib.Core.Path.{◌≡◌, sym, ap, ◌∙◌}
use mathlib.Core.Bool.{Bool, true, ◌&&◌, false≢true}
use mathlib.Core.List.{List}
use lib.ListN.{get_or}
use lib.Dec.{ltb, eqb}
use borrow.Author.Tests.{lt-ltb, le-ltb, eq-eqb, ne_eqb, ltb-true, eqb-true}
use Rattle.spec.specs.Names.{delimited_wire, message_kind, most_types, packed_head}
use Rattle.std.specs.Prelude.{if◌then◌else◌}
use Rattle.spec.proofs.Laws.{both, both_true, by_test}
use Rattle.schema.specs.Layout.{guessed_tags, guesses, inners_at, key_count, kinds_at, may_pack, not_found, owner_unit}
use Rattle.schema.specs.Search.{seek}
use Rattle.schema.specs.Tables.{key_at, entry_for, unknown, typed, table_says}

-- the guess of a tag's entry, and when it is right: its type and number are the tag's, and its wire type may be another
abbrev pub guessed : List ℕ → (type t : ℕ) → ℕ
guessed info type t = get_or info (type * guesses + t / 8) 0

abbrev pub Near : (keys info : List ℕ) → (type t : ℕ) → Type 0
Near keys info type t = (t < guessed_tags) × (type < most_types) × (key_at keys (guessed info type t) ≡ (type * owner_unit + t) / 8)

-- and when its wire type is the tag's too
abbrev pub Right : (keys info : List ℕ) → (type t : ℕ) → Type 0
Right keys info type t = (t < guessed_tags) × (type < most_types) × (get_or keys (guessed info type t) 0 ≡ type * owner_unit + t)

-- what is noted of an entry
abbrev pub kind_at : List ℕ → ℕ → ℕ
kind_at info i = get_or info (kinds_at + i) 0

abbrev pub inner_at : List ℕ → ℕ → ℕ
inner_at info i = get_or info (inners_at + i) 0

module _ (keys info : List ℕ) where
  -- the entry of a tag: guessed, or found by search
  module _ (type t : ℕ) where
    abbrev test : Bool
    test = ltb t guessed_tags && ltb type most_types && eqb (key_at keys (guessed info type t)) ((type * owner_unit + t) / 8)

    abbrev found : ℕ
    found = seek key_count (key_at keys) not_found ((type * owner_unit + t) / 8) 0 key_count

    passes : Near keys info type t → test ≡ true
    passes r = both_true (both_true (lt-ltb t guessed_tags r.0) (lt-ltb type most_types r.1)) (eq-eqb (key_at keys (guessed info type t)) ((type * owner_unit + t) / 8) r.2)

    near : test ≡ true → Near keys info type t
    near p =
        let a = both (ltb t guessed_tags && ltb type most_types) (eqb (key_at keys (guessed info type t)) ((type * owner_unit + t) / 8)) p in
        let b = both (ltb t guessed_tags) (ltb type most_types) a.0 in
        (ltb-true t guessed_tags b.0, ltb-true type most_types b.1, eqb-true (key_at keys (guessed info type t)) ((type * owner_unit + t) / 8) a.1)

    pub near_or_not {ℓ} : {X : Type ℓ} → (Near keys info type t → X) → ((Near keys info type t → ⊥) → X) → X
    near_or_not f g = by_test test (λ p. f (near p)) (λ p. g (λ r. false≢true (sym p ∙ passes r)))

    pub entry_guessed : Near keys info type t → entry_for keys info type t ≡ guessed info type t
    unfolding entry_for
    entry_guessed r = ap (λ (b : Bool). if b then guessed info type t else found) (passes r)

    pub entry_searched : (Near keys info type t → ⊥) → entry_for keys info type t ≡ found
    unfolding entry_for
    entry_searched r = by_test test (λ p. absurd (r (near p))) (λ p. ap (λ (b : Bool). if b then guessed info type t else found) p)

    right_near : Right keys info type t → Near keys info type t
    right_near r = (r.0, r.1, ap (λ (k : ℕ). k / 8) r.2)

  -- what the entry says of it
  module _ (i key t : ℕ) where
    pub typed_same : get_or keys i 0 ≡ key → typed keys info i key t ≡ record { kind = kind_at info i; inner = if eqb (kind_at info i) message_kind then inner_at info i else 0 }
    unfolding typed
    typed_same e = simp (eq-eqb (get_or keys i 0) key e)

    module _ (other : get_or keys i 0 ≡ key → ⊥) where
      pub typed_packed : t % 8 ≡ delimited_wire → inner_at info i ≡ may_pack → typed keys info i key t ≡ record { kind = packed_head; inner = kind_at info i }
      unfolding typed
      typed_packed w p = simp (ne_eqb (get_or keys i 0) key other, eq-eqb (t % 8) delimited_wire w, eq-eqb (inner_at info i) may_pack p)

      pub typed_else : ((t % 8 ≡ delimited_wire) × (inner_at info i ≡ may_pack) → ⊥) → typed keys info i key t ≡ unknown t
      unfolding typed
      typed_else n =
          by_test (eqb (t % 8) delimited_wire && eqb (inner_at info i) may_pack)
          (λ p. let b = both (eqb (t % 8) delimited_wire) (eqb (inner_at info i) may_pack) p in absurd (n (eqb-true (t % 8) delimited_wire b.0, eqb-true (inner_at info i) may_pack b.1)))
          (λ p. simp (ne_eqb (get_or keys i 0) key other, p))

  -- what is said
  module _ (type t : ℕ) {i : ℕ} (is : i ≡ entry_for keys info type t) where
    says_by : table_says keys info type t ≡ (if ltb i key_count then typed keys info i (type * owner_unit + t) t else unknown t)
    unfolding table_says
    says_by = ap (λ (j : ℕ). if ltb j key_count then typed keys info j (type * owner_unit + t) t else unknown t) (sym is)

    pub says_typed : i < key_count → table_says keys info type t ≡ typed keys info i (type * owner_unit + t) t
    says_typed l = says_by ∙ ap (λ (b : Bool). if b then typed keys info i (type * owner_unit + t) t else unknown t) (lt-ltb i key_count l)

    pub says_unknown : key_count ≤ i → table_says keys info type t ≡ unknown t
    says_unknown l = says_by ∙ ap (λ (b : Bool). if b then typed keys info i (type * owner_unit + t) t else unknown t) (le-ltb i key_count l)

  -- where the guess is right, no search is needed: a reader may look for itself
  pub says_guessed : (type t : ℕ) → Right keys info type t → guessed info type t < key_count
      → table_says keys info type t ≡ record { kind = kind_at info (guessed info type t); inner = if eqb (kind_at info (guessed info type t)) message_kind then inner_at info (guessed info type t) else 0 }
  says_guessed type t r l = says_typed type t (sym (entry_guessed type t (right_near type t r))) l ∙ typed_same (guessed info type t) (type * owner_unit + t) t r.2
