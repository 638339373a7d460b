-- Laws of UTF-8: the longest valid prefix lies in the bytes, and is a character and the longest valid prefix of the rest; it is valid,
-- and no valid prefix is longer.
-- Assumes nothing.
use Prim.Native.Nat.{ℕ, zero, suc, ◌+◌, ◌≤◌, ◌<◌}
use native.Mathlib.Omega.{arith}
use mathlib.Core.Path.{◌≡◌, refl, sym, ap, ◌∙◌}
use mathlib.Core.Bool.{Bool, true, false, ◌&&◌, false≢true}
use mathlib.Core.List.{List, [], ◌∷◌, ◌++◌, append_assoc}
use lib.ListN.{length, take, drop, get_or, length-append, length-drop, take-append-drop}
use lib.Seq.{length-take-le, take-add, drop_at}
use lib.Dec.{eqb}
use borrow.Author.Tests.{eqb-true, eqb-false, ne_eqb, eq-eqb, le-leb}
use Rattle.std.specs.Prelude.{if◌then◌else◌}
use Rattle.spec.specs.Base.{between}
use Rattle.spec.specs.Utf8.{Lead, Follow, NoLead, lead, followers, behind, char, chars, valid_prefix, utf8}
use Rattle.spec.proofs.Laws.{both, chosen, by_test}

followers_le : (n lo hi : ℕ) (s : List ℕ) → followers n lo hi s ≡ true → n ≤ length s
unfolding followers
followers_le zero lo hi s e = omega arith
followers_le (suc n) lo hi [] e = absurd (false≢true e)
followers_le (suc n) lo hi (b ∷ s) e =
    let h : n ≤ length s = followers_le n 0x80 0xbf s (both (between lo hi b) (followers n 0x80 0xbf s) e).1 in omega arith

behind_le : (l : Lead) (s : List ℕ) → behind l s ≤ suc (length s)
unfolding behind
behind_le (Follow n lo hi) s =
    chosen (λ (k : ℕ). k ≤ suc (length s)) (followers n lo hi s) (λ e. omega (arith, followers_le n lo hi s e)) (λ e. omega arith)
behind_le NoLead s = omega arith

pub char_le : (s : List ℕ) → char s ≤ length s
unfolding char
char_le [] = omega arith
char_le (b ∷ s) = behind_le (lead b) s

pub chars_le : (k : ℕ) (s : List ℕ) → chars k s ≤ length s
unfolding chars
chars_le zero s = omega arith
chars_le (suc k) s =
    chosen (λ (n : ℕ). n ≤ length s) (eqb (char s) 0) (λ e. omega arith)
    (λ e. omega (arith, char_le s, chars_le k (drop (char s) s), length-drop (char s) s))

pub valid_le : (s : List ℕ) → valid_prefix s ≤ length s
unfolding valid_prefix
valid_le s = chars_le (length s) s

-- a choice whose two answers agree where they are taken
choice_cong : {A : Type 0} (b : Bool) (x : A) {y z : A} → (b ≡ false → y ≡ z) → (if b then x else y) ≡ (if b then x else z)
choice_cong true x e = refl
choice_cong false x e = e refl

pub chars_enough : (f g : ℕ) (s : List ℕ) → length s ≤ f → length s ≤ g → chars f s ≡ chars g s
unfolding chars char
chars_enough zero zero s hf hg = refl
chars_enough zero (suc g) [] hf hg = refl
chars_enough (suc f) zero [] hf hg = refl
chars_enough zero (suc g) (b ∷ s) hf hg = absurd (omega arith)
chars_enough (suc f) zero (b ∷ s) hf hg = absurd (omega arith)
chars_enough (suc f) (suc g) s hf hg =
    choice_cong (eqb (char s) 0) 0 λ e.
    let p : 1 ≤ char s = positive (char s) (eqb-false (char s) 0 e) in
    ap (λ (n : ℕ). char s + n) (chars_enough f g (drop (char s) s) (omega (arith, length-drop (char s) s)) (omega (arith, length-drop (char s) s)))
  where
    positive : (n : ℕ) → (n ≡ 0 → ⊥) → 1 ≤ n
    positive zero h = absurd (h refl)
    positive (suc n) h = omega arith

-- ---- the equations with no count, for a loop that goes over a slice character by character

-- where the bytes end, the loop has passed what was to be passed
pub prefix_nil : valid_prefix [] ≡ 0
unfolding valid_prefix chars
prefix_nil = refl

-- where no character stands, the valid prefix ends
pub prefix_stop : (s : List ℕ) → char s ≡ 0 → valid_prefix s ≡ 0
unfolding valid_prefix chars
prefix_stop [] e = refl
prefix_stop (b ∷ s) e = simp e

-- an iteration of the loop: a character is passed
pub prefix_step : (s : List ℕ) → 0 < char s → valid_prefix s ≡ char s + valid_prefix (drop (char s) s)
unfolding valid_prefix chars
prefix_step [] h = absurd (omega (arith, char_le []))
prefix_step (b ∷ s) h =
    rw (ne_eqb (char (b ∷ s)) 0 (λ e. omega arith))
    (ap (λ (n : ℕ). char (b ∷ s) + n)
    (chars_enough (length s) (length (drop (char (b ∷ s)) (b ∷ s))) (drop (char (b ∷ s)) (b ∷ s)) (omega (arith, length-drop (char (b ∷ s)) (b ∷ s))) (omega arith)))

-- a byte of ASCII is a character, so that a loop may take it without testing what follows
pub char_ascii : (b : ℕ) (s : List ℕ) → b < 128 → char (b ∷ s) ≡ 1
unfolding char lead behind followers
char_ascii b s h = simp (le-leb b 0x7f (omega arith))

-- a run of ASCII is passed at once, for a loop that tests several bytes in an iteration
pub prefix_ascii : (n : ℕ) (s : List ℕ) → n ≤ length s → ((k : ℕ) → k < n → get_or s k 0 < 128) → valid_prefix s ≡ n + valid_prefix (drop n s)
prefix_ascii zero s h low = omega arith
prefix_ascii (suc n) [] h low = absurd (omega arith)
prefix_ascii (suc n) (b ∷ s) h low =
    let one : char (b ∷ s) ≡ 1 = char_ascii b s (low 0 (omega arith)) in
    let step : valid_prefix (b ∷ s) ≡ 1 + valid_prefix s = rw one at (prefix_step (b ∷ s) (omega arith)) in
    omega (arith, prefix_ascii n s (omega arith) (λ k l. low (suc k) (omega arith)))

-- ---- the name is right: the longest valid prefix is valid, and it is the longest

-- what holds where no character stands, and before a character where it holds after it, holds of all bytes
by_chars {ℓ} : (P : List ℕ → Type ℓ) → ((s : List ℕ) → char s ≡ 0 → P s)
    → ((n : ℕ) (s : List ℕ) → char s ≡ suc n → P (drop (suc n) s) → P s) → (s : List ℕ) → P s
unfolding char
by_chars P stop step s = go (length s) s (omega arith)
  where
    split : (k : ℕ) → ((u : List ℕ) → length u ≤ k → P u) → (u : List ℕ) → length u ≤ suc k → (n : ℕ) → char u ≡ n → P u
    split k ih u h zero e = stop u e
    split k ih u h (suc n) e = step n u e (ih (drop (suc n) u) (omega (arith, length-drop (suc n) u)))

    go : (k : ℕ) (u : List ℕ) → length u ≤ k → P u
    go zero [] h = stop [] refl
    go zero (b ∷ u) h = absurd (omega arith)
    go (suc k) u h = split k (λ w l. go k w l) u h (char u) refl

followers_front : (n lo hi : ℕ) (s t : List ℕ) → n ≤ length s → followers n lo hi (take n s ++ t) ≡ followers n lo hi s
unfolding followers
followers_front zero lo hi s t h = refl
followers_front (suc n) lo hi [] t h = absurd (omega arith)
followers_front (suc n) lo hi (b ∷ s) t h = ap (◌&&◌ (between lo hi b)) (followers_front n 0x80 0xbf s t (omega arith))

behind_front : (l : Lead) (n : ℕ) (s t : List ℕ) → behind l s ≡ suc n → behind l (take n s ++ t) ≡ suc n
unfolding behind
behind_front NoLead n s t e = absurd (omega arith)
behind_front (Follow m lo hi) n s t e = go (followers m lo hi s) refl e
  where
    go : (b : Bool) → followers m lo hi s ≡ b → (if b then m + 1 else 0) ≡ suc n → (if followers m lo hi (take n s ++ t) then m + 1 else 0) ≡ suc n
    go false f e = absurd (omega arith)
    go true f e =
        let k : n ≡ m = omega arith in
        let g : followers m lo hi (take n s ++ t) ≡ true = rw k (followers_front m lo hi s t (followers_le m lo hi s f) ∙ f) in
        rw g e

-- a character is known from its own bytes, whatever comes after them
char_front : (n : ℕ) (s t : List ℕ) → char s ≡ suc n → char (take (suc n) s ++ t) ≡ suc n
unfolding char
char_front n [] t e = absurd (omega arith)
char_front n (b ∷ s) t e = behind_front (lead b) n s t e

prefix_front : (n : ℕ) (s t : List ℕ) → char s ≡ suc n → valid_prefix (take (suc n) s ++ t) ≡ suc n + valid_prefix t
prefix_front n s t e =
    let c : char (take (suc n) s ++ t) ≡ suc n = char_front n s t e in
    rw (c, drop_at (take (suc n) s) t (suc n) (length-take-le (suc n) s (omega (arith, char_le s)))) at (prefix_step (take (suc n) s ++ t) (omega arith))

-- what holds of no bytes, and before a character where it holds after it, holds of valid bytes
pub by_valid {ℓ} : (P : List ℕ → Type ℓ) → P [] → ((n : ℕ) (s : List ℕ) → char s ≡ suc n → P (drop (suc n) s) → P s)
    → (s : List ℕ) → utf8 s ≡ true → P s
by_valid P empty step =
    by_chars (λ (s : List ℕ). utf8 s ≡ true → P s)
    (λ s e u. none s (omega (arith, eqb-true (valid_prefix s) (length s) u, prefix_stop s e)))
    (λ n s e ih u.
    let t : List ℕ = drop (suc n) s in
    let st : valid_prefix s ≡ suc n + valid_prefix t = rw e at (prefix_step s (omega arith)) in
    step n s e (ih (eq-eqb (valid_prefix t) (length t) (omega (arith, eqb-true (valid_prefix s) (length s) u, length-drop (suc n) s)))))
  where
    none : (s : List ℕ) → length s ≡ 0 → P s
    none [] e = empty
    none (b ∷ s) e = absurd (omega arith)

-- valid bytes in front are passed whole, so that valid strings put together are valid
pub prefix_append : (s t : List ℕ) → utf8 s ≡ true → valid_prefix (s ++ t) ≡ length s + valid_prefix t
prefix_append s t =
    by_valid (λ (s : List ℕ). valid_prefix (s ++ t) ≡ length s + valid_prefix t) (omega arith)
    (λ n s e ih.
    let d : List ℕ = drop (suc n) s in
    let back : take (suc n) s ++ (d ++ t) ≡ s ++ t = sym (append_assoc (take (suc n) s) d t) ∙ ap (λ (x : List ℕ). x ++ t) (take-append-drop (suc n) s) in
    let whole : valid_prefix (s ++ t) ≡ suc n + valid_prefix (d ++ t) = rw back at (prefix_front n s (d ++ t) e) in
    omega (arith, length-drop (suc n) s, char_le s)) s

-- what `valid_prefix` counts is a valid prefix
pub prefix_valid : (s : List ℕ) → utf8 (take (valid_prefix s) s) ≡ true
prefix_valid =
    by_chars (λ (s : List ℕ). utf8 (take (valid_prefix s) s) ≡ true)
    (λ s e. rw (prefix_stop s e, prefix_nil))
    (λ n s e ih.
    let m : ℕ = valid_prefix (drop (suc n) s) in
    let st : valid_prefix s ≡ suc n + m = rw e at (prefix_step s (omega arith)) in
    let t : List ℕ = take m (drop (suc n) s) in
    let is : take (valid_prefix s) s ≡ take (suc n) s ++ t = ap (λ (k : ℕ). take k s) st ∙ take-add (suc n) m s in
    rw is (eq-eqb (valid_prefix (take (suc n) s ++ t)) (length (take (suc n) s ++ t))
    (omega (arith, prefix_front n s t e, eqb-true (valid_prefix t) (length t) ih, length-append (take (suc n) s) t, length-take-le (suc n) s (omega (arith, char_le s))))))

-- and every other valid prefix is within it, so that no other number has both properties
pub prefix_longest : (n : ℕ) (s : List ℕ) → n ≤ length s → utf8 (take n s) ≡ true → n ≤ valid_prefix s
prefix_longest n s h u =
    let p : valid_prefix s ≡ length (take n s) + valid_prefix (drop n s) = rw (take-append-drop n s) at (prefix_append (take n s) (drop n s) u) in
    omega (arith, length-take-le n s h)

-- bytes are valid where it is all of them
pub all_valid : (s : List ℕ) → length s ≤ valid_prefix s → utf8 s ≡ true
all_valid s h = eq-eqb (valid_prefix s) (length s) (omega (arith, valid_le s))

pub part_valid : (s : List ℕ) → valid_prefix s < length s → utf8 s ≡ false
part_valid s h = ne_eqb (valid_prefix s) (length s) (λ e. omega arith)

-- of bytes that are not valid it is a part, and no front of them that is longer is valid
module _ (s : List ℕ) (bad : utf8 s ≡ false) where
  pub prefix_short : valid_prefix s < length s
  prefix_short = omega (arith, valid_le s, eqb-false (valid_prefix s) (length s) bad)

  pub prefix_no_longer : (n : ℕ) → valid_prefix s < n → n ≤ length s → utf8 (take n s) ≡ false
  prefix_no_longer n h l = by_test (utf8 (take n s)) (λ t. absurd (omega (arith, prefix_longest n s l t))) (λ f. f)
