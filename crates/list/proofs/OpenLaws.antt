-- Laws of the places that are open, and of the first record of a list in them. Assumes nothing.
use Prim.Native.Nat.{ℕ, zero, suc, ◌+◌, ◌-◌, ◌≤◌, ◌<◌}
use native.Mathlib.Omega.{arith}
use native.Mathlib.Numerals.{add-one}
use mathlib.Core.Path.{◌≡◌, refl, sym, ap, ap₂, ◌∙◌}
use mathlib.Core.Logic.{◌≢◌}
use mathlib.Core.Bool.{Bool}
use mathlib.Core.List.{List, [], ◌∷◌}
use lib.ListN.{length, drop, get_or, set}
use lib.Seq.{get_or-set_same, get_or-set_other}
use borrow.Author.Tests.{le-ltb}
use Rattle.spec.specs.Names.{invalid_list}
use Rattle.std.specs.Prelude.{if◌then◌else◌}
use Rattle.spec.specs.Schema.{Schema}
use Rattle.spec.specs.Record.{Record}
use Rattle.spec.specs.Writing.{Place, Fields, around, inside, record_fault, Fine, Faulty, or_else, list_fault}
use Rattle.spec.proofs.VarintLaws.{lower_or_not}
use Rattle.spec.proofs.ListLaws.{around_here, around_out}
use Rattle.list.specs.Checking.{fields_to}

-- ---- the types of the open messages

unfoldable pub outer : List ℕ → ℕ → List Place
outer types zero = []
outer types (suc d) = fields_to types d

pub fields_cons : (types : List ℕ) (d : ℕ) → fields_to types d ≡ Fields (get_or types d 0) ∷ outer types d
unfolding fields_to outer
fields_cons types zero = refl
fields_cons types (suc d) = refl

pub length_fields : (types : List ℕ) (d : ℕ) → length (fields_to types d) ≡ d + 1
unfolding fields_to
length_fields types zero = refl
length_fields types (suc d) = omega (arith, length_fields types d)

pub fields_set : (types : List ℕ) (k v d : ℕ) → d < k → fields_to (set types k v) d ≡ fields_to types d
unfolding fields_to
fields_set types k v zero h = ap (λ (t : ℕ). Fields t ∷ []) (get_or-set_other types k 0 v 0 (λ e. omega arith))
fields_set types k v (suc d) h =
    ap₂ (λ (t : ℕ) (out : List Place). Fields t ∷ out) (get_or-set_other types k (suc d) v 0 (λ e. omega arith)) (fields_set types k v d (omega arith))

-- a message in the innermost one
pub fields_more : (types : List ℕ) (d v : ℕ) → d + 1 < length types → fields_to (set types (d + 1) v) (d + 1) ≡ Fields v ∷ fields_to types d
unfolding fields_to
fields_more types d v h =
    ap (fields_to (set types (d + 1) v)) (add-one d)
    ∙ ap₂ (λ (t : ℕ) (out : List Place). Fields t ∷ out)
    (ap (λ (n : ℕ). get_or (set types (d + 1) v) n 0) (sym (add-one d)) ∙ get_or-set_same types (d + 1) v 0 h) (fields_set types (d + 1) v d (omega arith))

-- ---- the first record of a list

module _ (sch : Schema) (payload : List ℕ) where
  around_deep : (out : List Place) (d : ℕ) → length out ≤ d → around d out ≡ []
  around_deep out d h = ap (λ (b : Bool). if b then drop (length out - (d + 1)) out else []) (le-ltb d (length out) h)

  pub around_fields : (types : List ℕ) (d top : ℕ) → d ≤ top → around d (fields_to types top) ≡ fields_to types d
  unfolding fields_to
  around_fields types d zero h = let z : d ≡ 0 = omega arith in rw z (around_here sch payload (Fields (get_or types 0 0)) [] 0 refl)
  around_fields types d (suc top) h =
      lower_or_not top d
      (λ l. let s : d ≡ suc top = omega arith in rw s (around_here sch payload (Fields (get_or types (suc top) 0)) (fields_to types top) (suc top) (omega (arith, length_fields types top))))
      (λ l. around_out sch payload (Fields (get_or types (suc top) 0)) (fields_to types top) d (omega (arith, length_fields types top)) ∙ around_fields types d top l)

  -- an inner place does not matter to a record that does not stand in it
  around_other : (p : Place) (out : List Place) (d : ℕ) → d ≢ length out → around d (p ∷ out) ≡ around d out
  around_other p out d n =
      lower_or_not d (length out)
      (λ l. around_out sch payload p out d l)
      (λ l. around_deep (p ∷ out) d (omega arith) ∙ sym (around_deep out d l))

  module _ (i : ℕ) (opened here : List Place) (r : Record) (rs : List Record) (stands : around r.depth opened ≡ here) where
    first : list_fault sch payload i opened (r ∷ rs) ≡ or_else (record_fault sch payload here r rs) i (list_fault sch payload (i + 1) (inside sch here r) rs)
    unfolding list_fault
    first = ap (λ (h : List Place). or_else (record_fault sch payload h r rs) i (list_fault sch payload (i + 1) (inside sch h r) rs)) stands

    pub first_good : record_fault sch payload here r rs ≡ 0 → list_fault sch payload i opened (r ∷ rs) ≡ list_fault sch payload (i + 1) (inside sch here r) rs
    first_good e = first ∙ ap (λ (k : ℕ). or_else k i (list_fault sch payload (i + 1) (inside sch here r) rs)) e

    pub first_bad : {k : ℕ} → k ≢ 0 → record_fault sch payload here r rs ≡ k → list_fault sch payload i opened (r ∷ rs) ≡ Faulty k i
    first_bad {k} n e = first ∙ ap (λ (k : ℕ). or_else k i (list_fault sch payload (i + 1) (inside sch here r) rs)) e ∙ go k n
      where
        go : (k : ℕ) → k ≢ 0 → or_else k i (list_fault sch payload (i + 1) (inside sch here r) rs) ≡ Faulty k i
        go zero n = absurd (n refl)
        go (suc k) n = refl

  -- it stands too deep
  pub first_deep : (i : ℕ) (opened : List Place) (r : Record) (rs : List Record) → length opened ≤ r.depth → list_fault sch payload i opened (r ∷ rs) ≡ Faulty invalid_list i
  unfolding record_fault
  first_deep i opened r rs h = first_bad i opened [] r rs (around_deep opened r.depth h) (λ e. omega arith) refl

  -- it stands in one of the open messages
  pub first_out : (i : ℕ) (types : List ℕ) (d top : ℕ) (r : Record) (rs : List Record) → r.depth ≡ d → d ≤ top
      → list_fault sch payload i (fields_to types top) (r ∷ rs) ≡ list_fault sch payload i (fields_to types d) (r ∷ rs)
  unfolding list_fault
  first_out i types d top r rs e h =
      ap (λ (here : List Place). or_else (record_fault sch payload here r rs) i (list_fault sch payload (i + 1) (inside sch here r) rs))
      (ap (λ (n : ℕ). around n (fields_to types top)) e ∙ around_fields types d top h ∙ sym (ap (λ (n : ℕ). around n (fields_to types d)) e ∙ around_fields types d d (omega arith)))

  pub popped : (i : ℕ) (p : Place) (out : List Place) (r : Record) (rs : List Record) → r.depth ≢ length out
      → list_fault sch payload i (p ∷ out) (r ∷ rs) ≡ list_fault sch payload i out (r ∷ rs)
  unfolding list_fault
  popped i p out r rs n =
      ap (λ (here : List Place). or_else (record_fault sch payload here r rs) i (list_fault sch payload (i + 1) (inside sch here r) rs)) (around_other p out r.depth n)

  pub none_left : (i : ℕ) (opened : List Place) → list_fault sch payload i opened [] ≡ Fine
  unfolding list_fault
  none_left i opened = refl
