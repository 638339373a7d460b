-- What stands in the tables in the end: the key, the kind and the inner number of each entry in a cell of its own.
-- Assumes nothing.
use Prim.Native.Nat.{ℕ, zero, suc, ◌+◌, ◌*◌, ◌≤◌, ◌<◌}
use native.Mathlib.Omega.{arith}
use mathlib.Core.Path.{◌≡◌, refl, ap, ◌∙◌}
use mathlib.Core.List.{List, [], ◌∷◌}
use lib.ListN.{length, get_or, set, length-set}
use lib.Seq.{get_or-set_same, get_or-set_other}
use lib.Dec.{ltb}
use borrow.Author.Tests.{ltb-true}
use Rattle.spec.specs.Names.{most_entries, most_types}
use Rattle.spec.specs.Schema.{no_entry}
use Rattle.spec.proofs.Laws.{either_way, chosen}
use Rattle.spec.specs.declared.Entry.{Entry}
use Rattle.schema.specs.Layout.{guesses, info_length, inners_at, key_count, kinds_at}
use Rattle.schema.specs.Tables.{key_of, inner_of, storing, put_key, put_info, keys_with, info_with}

-- Each entry stores its value in a cell of its own, so that it stands there in the end. A cell that no entry has stays as it was.
module _ (put : ℕ → Entry → List ℕ → List ℕ) (cell : ℕ → ℕ) (value : Entry → ℕ) (room : ℕ) (Fit : Entry → Type 0)
    (keeps : (i : ℕ) (e : Entry) (xs : List ℕ) → length (put i e xs) ≡ length xs)
    (lands : (i : ℕ) (e : Entry) (xs : List ℕ) → i < key_count → room ≤ length xs → Fit e → get_or (put i e xs) (cell i) 0 ≡ value e)
    (spares : (i j : ℕ) (e : Entry) (xs : List ℕ) → i < key_count → j < key_count → (j ≡ i → ⊥) → Fit e → get_or (put i e xs) (cell j) 0 ≡ get_or xs (cell j) 0) where
  abbrev All : List Entry → Type 0
  All es = (k : ℕ) → k < length es → Fit (get_or es k no_entry)

  stored_else : (i j : ℕ) (es : List Entry) (xs : List ℕ) → i + length es ≤ most_entries → j < key_count → All es → ((k : ℕ) → k < length es → j ≡ i + k → ⊥)
      → get_or (storing put i es xs) (cell j) 0 ≡ get_or xs (cell j) 0
  unfolding storing
  stored_else i j [] xs h l fit away = refl
  stored_else i j (e ∷ es) xs h l fit away =
      stored_else (i + 1) j es (put i e xs) (omega arith) l (λ k u. fit (suc k) (omega arith)) (λ k u p. away (suc k) (omega arith) (omega arith))
      ∙ spares i j e xs (omega arith) l (λ p. away 0 (omega arith) (omega arith)) (fit 0 (omega arith))

  stored_at : (i k : ℕ) (es : List Entry) (xs : List ℕ) → i + length es ≤ most_entries → room ≤ length xs → All es → k < length es
      → get_or (storing put i es xs) (cell (i + k)) 0 ≡ value (get_or es k no_entry)
  unfolding storing
  stored_at i k [] xs h r fit l = absurd (omega arith)
  stored_at i zero (e ∷ es) xs h r fit l =
      let z : i + 0 ≡ i = omega arith in
      ap (λ (n : ℕ). get_or (storing put (i + 1) es (put i e xs)) (cell n) 0) z
      ∙ stored_else (i + 1) i es (put i e xs) (omega arith) (omega arith) (λ m u. fit (suc m) (omega arith)) (λ m u p. omega arith)
      ∙ lands i e xs (omega arith) r (fit 0 (omega arith))
  stored_at i (suc k) (e ∷ es) xs h r fit l =
      let z : i + suc k ≡ i + 1 + k = omega arith in
      let n = keeps i e xs in
      ap (λ (m : ℕ). get_or (storing put (i + 1) es (put i e xs)) (cell m) 0) z
      ∙ stored_at (i + 1) k es (put i e xs) (omega arith) (omega arith) (λ m u. fit (suc m) (omega arith)) (omega arith)

  pub stored : (k : ℕ) (es : List Entry) (xs : List ℕ) → length es ≤ most_entries → room ≤ length xs → All es → k < length es
      → get_or (storing put 0 es xs) (cell k) 0 ≡ value (get_or es k no_entry)
  stored k es xs h r fit l =
      let z : k ≡ 0 + k = omega arith in
      ap (λ (n : ℕ). get_or (storing put 0 es xs) (cell n) 0) z ∙ stored_at 0 k es xs (omega arith) r fit l

length_storing : (put : ℕ → Entry → List ℕ → List ℕ) → ((i : ℕ) (e : Entry) (xs : List ℕ) → length (put i e xs) ≡ length xs)
    → (i : ℕ) (es : List Entry) (xs : List ℕ) → length (storing put i es xs) ≡ length xs
unfolding storing
length_storing put keeps i [] xs = refl
length_storing put keeps i (e ∷ es) xs = length_storing put keeps (i + 1) es (put i e xs) ∙ keeps i e xs

-- the keys
key_keeps : (i : ℕ) (e : Entry) (xs : List ℕ) → length (put_key i e xs) ≡ length xs
key_keeps i e xs = length-set xs i (key_of e)

pub length_keys : (es : List Entry) (xs : List ℕ) → length (keys_with 0 es xs) ≡ length xs
length_keys es xs = length_storing put_key key_keeps 0 es xs

module _ (es : List Entry) (xs : List ℕ) (few : length es ≤ most_entries) (wide : key_count ≤ length xs) where
  pub keys_at : (k : ℕ) → k < length es → get_or (keys_with 0 es xs) k 0 ≡ key_of (get_or es k no_entry)
  keys_at k l =
      stored put_key (λ i. i) key_of key_count (λ e. Unit) key_keeps
      (λ i e ys u v w. get_or-set_same ys i (key_of e) 0 (omega arith))
      (λ i j e ys u v w x. get_or-set_other ys i j (key_of e) 0 w)
      k es xs few wide (λ m u. tt) l

  pub keys_else : (k : ℕ) → length es ≤ k → k < key_count → get_or (keys_with 0 es xs) k 0 ≡ get_or xs k 0
  keys_else k l u =
      stored_else put_key (λ i. i) key_of key_count (λ e. Unit) key_keeps
      (λ i e ys u v w. get_or-set_same ys i (key_of e) 0 (omega arith))
      (λ i j e ys u v w x. get_or-set_other ys i j (key_of e) 0 w)
      0 k es xs (omega arith) u (λ m v. tt) (λ m v p. omega arith)

-- the kinds, and what stands beside them: a guess lies below both
module _ (i : ℕ) (e : Entry) (xs : List ℕ) where
  abbrev kinds : List ℕ
  kinds = set (set xs (kinds_at + i) e.kind) (inners_at + i) (inner_of e)

  info_keeps : length (put_info i e xs) ≡ length xs
  info_keeps =
      either_way (λ (ys : List ℕ). length ys ≡ length xs) (ltb e.number guesses)
      (simp length-set)
      (simp length-set)

  -- what is read after the guesses
  unguessed : e.owner < most_types → (c : ℕ) → kinds_at ≤ c → get_or (put_info i e xs) c 0 ≡ get_or kinds c 0
  unguessed o c h =
      chosen (λ (ys : List ℕ). get_or ys c 0 ≡ get_or kinds c 0) (ltb e.number guesses)
      (λ p. let l = ltb-true e.number guesses p in get_or-set_other kinds (e.owner * guesses + e.number) c i 0 (λ q. omega arith))
      (λ p. refl)

module _ (es : List Entry) (xs : List ℕ) (few : length es ≤ most_entries) (wide : info_length ≤ length xs)
    (owned : (k : ℕ) → k < length es → (get_or es k no_entry).owner < most_types) where
  pub kinds_at_lem : (k : ℕ) → k < length es → get_or (info_with 0 es xs) (kinds_at + k) 0 ≡ (get_or es k no_entry).kind
  kinds_at_lem k l =
      stored put_info (λ i. kinds_at + i) (λ e. e.kind) info_length (λ e. e.owner < most_types) info_keeps
      (λ i e ys u v w. unguessed i e ys w (kinds_at + i) (omega arith)
      ∙ get_or-set_other (set ys (kinds_at + i) e.kind) (inners_at + i) (kinds_at + i) (inner_of e) 0 (λ q. omega arith)
      ∙ get_or-set_same ys (kinds_at + i) e.kind 0 (omega arith))
      (λ i j e ys u v w x. unguessed i e ys x (kinds_at + j) (omega arith)
      ∙ get_or-set_other (set ys (kinds_at + i) e.kind) (inners_at + i) (kinds_at + j) (inner_of e) 0 (λ q. omega arith)
      ∙ get_or-set_other ys (kinds_at + i) (kinds_at + j) e.kind 0 (λ q. w (omega arith)))
      k es xs few wide owned l

  pub inners_at_lem : (k : ℕ) → k < length es → get_or (info_with 0 es xs) (inners_at + k) 0 ≡ inner_of (get_or es k no_entry)
  inners_at_lem k l =
      stored put_info (λ i. inners_at + i) inner_of info_length (λ e. e.owner < most_types) info_keeps
      (λ i e ys u v w. unguessed i e ys w (inners_at + i) (omega arith)
      ∙ get_or-set_same (set ys (kinds_at + i) e.kind) (inners_at + i) (inner_of e) 0 (simp length-set (omega arith)))
      (λ i j e ys u v w x. unguessed i e ys x (inners_at + j) (omega arith)
      ∙ get_or-set_other (set ys (kinds_at + i) e.kind) (inners_at + i) (inners_at + j) (inner_of e) 0 (λ q. w (omega arith))
      ∙ get_or-set_other ys (kinds_at + i) (inners_at + j) e.kind 0 (λ q. omega arith))
      k es xs few wide owned l
