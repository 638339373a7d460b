-- Laws of the search by halves: k does not matter where it is enough; what is found, and when nothing is; and that in a valid schema it is the
-- entry of an owner and a number.
-- Assumes nothing.
use Prim.Native.Nat.{ℕ, zero, suc, ◌+◌, ◌-◌, ◌/◌, ◌≤◌, ◌<◌}
use native.Mathlib.Omega.{arith}
use mathlib.Core.Path.{◌≡◌, refl, sym, ap, ◌∙◌, subst}
use mathlib.Core.Bool.{Bool, not}
use mathlib.Core.Option.{Option, none, some}
use lib.ListN.{length}
use lib.Dec.{ltb, eqb}
use borrow.Author.Tests.{lt-ltb, le-ltb, eq-eqb, ne_eqb}
use Rattle.std.specs.Prelude.{if◌then◌else◌}
use Rattle.spec.specs.Schema.{Schema, bad_schema, place_of}
use Rattle.spec.proofs.VarintLaws.{lower_or_not}
use Rattle.spec.proofs.SchemaLaws.{Is, Before, type_before, number_before, at, place_found, valid_rises, valid_found}
use Rattle.spec.specs.declared.Entry.{Entry}
use Rattle.schema.specs.Search.{within, seek}

abbrev pub middle : ℕ → ℕ → ℕ
middle lo hi = (lo + hi) / 2

module _ (row : ℕ → ℕ) (lost key : ℕ) where
  -- what is left of the search, with k to count down
  abbrev Left : ℕ → ℕ → ℕ → ℕ
  Left k lo hi = seek k row lost key lo hi

  -- one step, whose k is for the next ones
  abbrev Next : ℕ → ℕ → ℕ → ℕ
  Next k lo hi =
      if eqb (row (middle lo hi)) key then middle lo hi else
      if ltb (row (middle lo hi)) key then Left k (middle lo hi + 1) hi else Left k lo (middle lo hi)

  step_end : (k lo hi : ℕ) → hi ≤ lo → Left k lo hi ≡ lost
  unfolding seek
  step_end zero lo hi h = refl
  step_end (suc k) lo hi h = ap (λ (b : Bool). if not b then lost else Next k lo hi) (le-ltb lo hi h)

  step : (k lo hi : ℕ) → lo < hi → Left (suc k) lo hi ≡ Next k lo hi
  unfolding seek
  step k lo hi h = ap (λ (b : Bool). if not b then lost else Next k lo hi) (lt-ltb lo hi h)

  step_here : (k lo hi : ℕ) → lo < hi → row (middle lo hi) ≡ key → Left (suc k) lo hi ≡ middle lo hi
  step_here k lo hi h e = step k lo hi h ∙ simp (eq-eqb (row (middle lo hi)) key e)

  step_above : (k lo hi : ℕ) → lo < hi → row (middle lo hi) < key → Left (suc k) lo hi ≡ Left k (middle lo hi + 1) hi
  step_above k lo hi h l = step k lo hi h ∙ simp (ne_eqb (row (middle lo hi)) key (λ e. omega arith), lt-ltb (row (middle lo hi)) key l)

  step_below : (k lo hi : ℕ) → lo < hi → key < row (middle lo hi) → Left (suc k) lo hi ≡ Left k lo (middle lo hi)
  step_below k lo hi h l = step k lo hi h ∙ simp (ne_eqb (row (middle lo hi)) key (λ e. omega arith), le-ltb (row (middle lo hi)) key (omega arith))

  -- where the middle stands to the key
  by_order {ℓ} : {X : Type ℓ} (x : ℕ) → (x ≡ key → X) → (x < key → X) → (key < x → X) → X
  by_order x here above below = lower_or_not x key above (λ c. lower_or_not key x below (λ d. here (omega arith)))

  -- enough is enough
  pub search_enough : (j k lo hi : ℕ) → hi - lo ≤ j → hi - lo ≤ k → Left j lo hi ≡ Left k lo hi
  search_enough zero k lo hi p q = step_end zero lo hi (omega arith) ∙ sym (step_end k lo hi (omega arith))
  search_enough (suc j) zero lo hi p q = step_end (suc j) lo hi (omega arith) ∙ sym (step_end zero lo hi (omega arith))
  search_enough (suc j) (suc k) lo hi p q =
      lower_or_not lo hi
      (λ h. by_order (row (middle lo hi))
      (λ e. step_here j lo hi h e ∙ sym (step_here k lo hi h e))
      (λ l. step_above j lo hi h l ∙ search_enough j k (middle lo hi + 1) hi (omega arith) (omega arith) ∙ sym (step_above k lo hi h l))
      (λ l. step_below j lo hi h l ∙ search_enough j k lo (middle lo hi) (omega arith) (omega arith) ∙ sym (step_below k lo hi h l)))
      (λ h. step_end (suc j) lo hi h ∙ sym (step_end (suc k) lo hi h))

  -- nothing is found where the key is nowhere
  pub search_misses : (k lo hi : ℕ) → ((j : ℕ) → lo ≤ j → j < hi → row j ≡ key → ⊥) → Left k lo hi ≡ lost
  unfolding seek
  search_misses zero lo hi away = refl
  search_misses (suc k) lo hi away =
      lower_or_not lo hi
      (λ h. by_order (row (middle lo hi))
      (λ e. absurd (away (middle lo hi) (omega arith) (omega arith) e))
      (λ l. step_above k lo hi h l ∙ search_misses k (middle lo hi + 1) hi (λ j a b. away j (omega arith) b))
      (λ l. step_below k lo hi h l ∙ search_misses k lo (middle lo hi) (λ j a b. away j a (omega arith))))
      (λ h. step_end (suc k) lo hi h)

  -- and the key is found where what stands before it is below and what stands after it is above
  pub search_finds : (k lo hi i : ℕ) → hi - lo ≤ k → lo ≤ i → i < hi → row i ≡ key → ((j : ℕ) → j < i → row j < key) → ((j : ℕ) → i < j → j < hi → key < row j)
      → Left k lo hi ≡ i
  search_finds zero lo hi i p a b e under over = absurd (omega arith)
  search_finds (suc k) lo hi i p a b e under over =
      let h : lo < hi = omega arith in
      let mid : ℕ = middle lo hi in
      lower_or_not mid i
      (λ c. step_above k lo hi h (under mid c) ∙ search_finds k (mid + 1) hi i (omega arith) (omega arith) b e under over)
      (λ c. lower_or_not i mid
      (λ d. step_below k lo hi h (over mid d (omega arith)) ∙ search_finds k lo mid i (omega arith) a d e under (λ j u v. over j u (omega arith)))
      (λ d. let same : i ≡ mid = omega arith in step_here k lo hi h (subst (λ (m : ℕ). row m ≡ key) same e) ∙ sym same))

  -- with no k: the steps that a loop takes
  pub halves_end : (lo hi : ℕ) → hi ≤ lo → Left (hi - lo) lo hi ≡ lost
  halves_end lo hi h = step_end (hi - lo) lo hi h

  module _ (lo hi : ℕ) (h : lo < hi) where
    one_more : Left (hi - lo) lo hi ≡ Left (suc (hi - lo)) lo hi
    one_more = search_enough (hi - lo) (suc (hi - lo)) lo hi (omega arith) (omega arith)

    -- the middle as a loop has it, and what stands there
    module _ {mid here : ℕ} (m : mid ≡ middle lo hi) (is : here ≡ row mid) where
      here_is : row (middle lo hi) ≡ here
      here_is = sym (is ∙ ap row m)

      pub halves_here : here ≡ key → Left (hi - lo) lo hi ≡ mid
      halves_here e = one_more ∙ step_here (hi - lo) lo hi h (here_is ∙ e) ∙ sym m

      pub halves_above : here < key → Left (hi - lo) lo hi ≡ Left (hi - (mid + 1)) (mid + 1) hi
      halves_above l =
          let e = here_is in
          one_more ∙ step_above (hi - lo) lo hi h (omega arith)
          ∙ search_enough (hi - lo) (hi - (middle lo hi + 1)) (middle lo hi + 1) hi (omega arith) (omega arith)
          ∙ ap (λ (j : ℕ). Left (hi - (j + 1)) (j + 1) hi) (sym m)

      pub halves_below : key < here → Left (hi - lo) lo hi ≡ Left (mid - lo) lo mid
      halves_below l =
          let e = here_is in
          one_more ∙ step_below (hi - lo) lo hi h (omega arith)
          ∙ search_enough (hi - lo) (middle lo hi - lo) lo (middle lo hi) (omega arith) (omega arith)
          ∙ ap (λ (j : ℕ). Left (j - lo) lo j) (sym m)

-- a place below the count, and none
pub within_some : (count i : ℕ) → i < count → within count i ≡ some i
within_some count i l = ap (λ (b : Bool). if b then some i else none) (lt-ltb i count l)

pub within_none : (count i : ℕ) → count ≤ i → within count i ≡ none
within_none count i l = ap (λ (b : Bool). if b then some i else none) (le-ltb i count l)

-- ---- in a valid schema

-- the number of an entry stands to the key as the entry to the owner o and the number n
pub record Keyed (o n key : ℕ) (e : Entry) (x : ℕ) : Type 0 where
  pub same : Is o n e → x ≡ key
  pub only : x ≡ key → Is o n e
  pub under : Before e.owner e.number o n → x < key
  pub over : Before o n e.owner e.number → key < x

-- a place, or what stands for none
abbrev pub placed_or : ℕ → Option ℕ → ℕ
placed_or lost none = lost
placed_or lost (some i) = i

before_it : {a b o n : ℕ} (e : Entry) → Before a b e.owner e.number → Is o n e → Before a b o n
before_it e (type_before h) is = type_before (omega arith)
before_it e (number_before p h) is = number_before (omega arith) (omega arith)

behind_it : {a b o n : ℕ} (e : Entry) → Before e.owner e.number a b → Is o n e → Before o n a b
behind_it e (type_before h) is = type_before (omega arith)
behind_it e (number_before p h) is = number_before (omega arith) (omega arith)

module _ (sch : Schema) (valid : bad_schema sch ≡ none) (row : ℕ → ℕ) (count o n key : ℕ) (enough : length sch.entries ≤ count)
    (keyed : (i : ℕ) → i < length sch.entries → Keyed o n key (at sch i) (row i))
    (behind : (i : ℕ) → length sch.entries ≤ i → i < count → key < row i) where
  found : (i : ℕ) → place_of 0 sch.entries o n ≡ some i → seek count row count key 0 count ≡ i
  found i e =
      let f = place_found sch.entries o n i e in
      search_finds row count key count 0 count i (omega arith) (omega arith) (omega arith) ((keyed i f.0).same f.2)
      (λ j u. (keyed j (omega arith)).under (before_it (at sch i) (valid_rises sch valid j i u f.0) f.2))
      (λ j u v. lower_or_not j (length sch.entries)
      (λ l. (keyed j l).over (behind_it (at sch i) (valid_rises sch valid i j u l) f.2))
      (λ l. behind j l v))

  missed : place_of 0 sch.entries o n ≡ none → seek count row count key 0 count ≡ count
  missed e =
      search_misses row count key count 0 count λ j u v is.
      lower_or_not j (length sch.entries)
      (λ l. let z : ◌≡◌ {A = ℕ} 0 1 = cc (valid_found sch valid o n j l ((keyed j l).only is)).1 in omega arith)
      (λ l. omega (arith, behind j l v))

  pub search_place : seek count row count key 0 count ≡ placed_or count (place_of 0 sch.entries o n)
  search_place = go (place_of 0 sch.entries o n) refl
    where
      go : (p : Option ℕ) → place_of 0 sch.entries o n ≡ p → seek count row count key 0 count ≡ placed_or count p
      go none e = missed e
      go (some i) e = found i e
