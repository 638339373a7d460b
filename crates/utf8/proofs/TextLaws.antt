-- Laws for the functions of `utf8`: the followers of a lead byte at a place of the bytes, what a run has passed, and where the valid bytes end.
-- Assumes nothing.
use Prim.Native.Nat.{ℕ, zero, suc, ◌+◌, ◌-◌, ◌≤◌, ◌<◌}
use native.Mathlib.Omega.{arith}
use native.Mathlib.Nat.{add-zero}
use native.Mathlib.Numerals.{add-one}
use mathlib.Core.Path.{◌≡◌, refl, sym, ap, ◌∙◌}
use mathlib.Core.Bool.{Bool, true, false, ◌&&◌, and-true, and-false, and-eq-true_iff, false≢true}
use mathlib.Core.List.{List, [], ◌∷◌}
use lib.ListN.{length, drop, take, get_or, length-drop}
use Rattle.std.proofs.lemmas.List.{get_or-drop}
use lib.Seq.{take_all, drop-cons, drop-drop}
use borrow.Author.Tests.{le-leb, lt-leb, ne_eqb}
use Rattle.spec.specs.Base.{between}
use Rattle.spec.specs.Utf8.{Follow, NoLead, lead, followers, behind, char, valid_prefix, utf8}
use Rattle.spec.proofs.Utf8Laws.{char_le, valid_le, prefix_stop, prefix_step, prefix_ascii}
use Rattle.utf8.specs.Text.{Low, Passed, Ends}

-- the bytes end before the followers
pub short : (n lo hi : ℕ) (s : List ℕ) → length s < n → followers n lo hi s ≡ false
unfolding followers
short zero lo hi s h = absurd (omega arith)
short (suc n) lo hi [] h = refl
short (suc n) lo hi (b ∷ s) h = simp (short n 0x80 0xbf s (omega arith)) (and-false (between lo hi b))

-- the slice from a place on
pub rest_is : (s : List ℕ) (j : ℕ) → take (length s - j) (drop j s) ≡ drop j s
rest_is s j = take_all (length s - j) (drop j s) (omega (arith, length-drop j s))

pub rest_long : (s : List ℕ) (j : ℕ) → length (take (length s - j) (drop j s)) ≡ length s - j
rest_long s j = ap length (rest_is s j) ∙ length-drop j s

pub rest_at : (s : List ℕ) (j k : ℕ) → get_or (take (length s - j) (drop j s)) k 0 ≡ get_or s (j + k) 0
rest_at s j k = ap (λ (l : List ℕ). get_or l k 0) (rest_is s j) ∙ get_or-drop j s k 0

pub rest_first : (s : List ℕ) (j : ℕ) → get_or (take (length s - j) (drop j s)) 0 0 ≡ get_or s j 0
rest_first s j = rest_at s j 0 ∙ rw add-zero refl

module _ (s : List ℕ) (at : ℕ) (h : at < length s) where
  front : drop at s ≡ get_or s at 0 ∷ drop (at + 1) s
  front = rw (add-one, drop-cons s at 0)

  module _ (lo hi : ℕ) where
    pub last : between lo hi (get_or s at 0) ≡ followers 1 lo hi (drop at s)
    unfolding followers
    last = rw front (sym (and-true _))

    pub bad : (n : ℕ) → between lo hi (get_or s at 0) ≡ false → followers (suc n) lo hi (drop at s) ≡ false
    unfolding followers
    bad n e = rw (front, e)

    pub good : (n : ℕ) → between lo hi (get_or s at 0) ≡ true → followers (suc n) lo hi (drop at s) ≡ followers n 0x80 0xbf (drop (at + 1) s)
    unfolding followers
    good n e = rw (front, e)

  char_at : char (drop at s) ≡ behind (lead (get_or s at 0)) (drop (at + 1) s)
  unfolding char
  char_at = rw front

  stands : {n lo hi : ℕ} → lead (get_or s at 0) ≡ Follow n lo hi → followers n lo hi (drop (at + 1) s) ≡ true → n + 1 ≡ char (drop at s)
  unfolding behind
  stands e f = rw (char_at, e, f)

-- the third follower, where the first two are right, and where one is not
module _ (s : List ℕ) (lo hi : ℕ) (h : 3 ≤ length s) where
  pub third : (between lo hi (get_or s 0 0) && between 0x80 0xbf (get_or s 1 0)) ≡ true → between 0x80 0xbf (get_or s 2 0) ≡ followers 3 lo hi s
  third e =
      let (a, b) = (and-eq-true_iff (between lo hi (get_or s 0 0)) (between 0x80 0xbf (get_or s 1 0))).0 e in
      last s 2 (omega arith) 0x80 0xbf ∙ sym (good s 0 (omega arith) lo hi 2 a ∙ good s 1 (omega arith) 0x80 0xbf 1 b)

  by_two : (a b : Bool) → between lo hi (get_or s 0 0) ≡ a → between 0x80 0xbf (get_or s 1 0) ≡ b → (a && b) ≡ false → followers 3 lo hi s ≡ false
  by_two true true p q e = absurd (false≢true (sym e))
  by_two true false p q e = good s 0 (omega arith) lo hi 2 p ∙ bad s 1 (omega arith) 0x80 0xbf 1 q
  by_two false b p q e = bad s 0 (omega arith) lo hi 2 p

  pub no_third : (between lo hi (get_or s 0 0) && between 0x80 0xbf (get_or s 1 0)) ≡ false → followers 3 lo hi s ≡ false
  no_third e = by_two _ _ refl refl e

-- the lead bytes of quick runs: of all their followers the bounds are 80 and bf
lead_pair : (b : ℕ) → 0xc2 ≤ b → b ≤ 0xdf → lead b ≡ Follow 1 0x80 0xbf
unfolding lead
lead_pair b l h = simp (lt-leb b 0x7f (omega arith), le-leb 0xc2 b l, le-leb b 0xdf h)

lead_triple : (b : ℕ) → 0xe1 ≤ b → b ≤ 0xec → lead b ≡ Follow 2 0x80 0xbf
unfolding lead
lead_triple b l h =
    simp (lt-leb b 0x7f (omega arith), le-leb 0xc2 b (omega arith), lt-leb b 0xdf (omega arith), ne_eqb b 0xe0 (λ x. omega arith), le-leb 0xe1 b l, le-leb b 0xec h)

-- a follower by its bounds
bounded : (b : ℕ) → 0x80 ≤ b → b ≤ 0xbf → between 0x80 0xbf b ≡ true
bounded b l h = simp (le-leb 0x80 b l, le-leb b 0xbf h)

module _ (s : List ℕ) (j : ℕ) (l : 0x80 ≤ get_or s (j + 1) 0) (h : get_or s (j + 1) 0 ≤ 0xbf) where
  char_pair : 0xc2 ≤ get_or s j 0 → get_or s j 0 ≤ 0xdf → j + 2 ≤ length s → 2 ≡ char (drop j s)
  char_pair a b room = stands s j (omega arith) (lead_pair _ a b) (sym (last s (j + 1) (omega arith) 0x80 0xbf) ∙ bounded _ l h)

  char_triple : 0xe1 ≤ get_or s j 0 → get_or s j 0 ≤ 0xec → 0x80 ≤ get_or s (j + 2) 0 → get_or s (j + 2) 0 ≤ 0xbf → j + 3 ≤ length s → 3 ≡ char (drop j s)
  char_triple a b c d room =
      let there : get_or s (j + 1 + 1) 0 ≡ get_or s (j + 2) 0 = ap (λ (i : ℕ). get_or s i 0) (omega arith) in
      stands s j (omega arith) (lead_triple _ a b)
      (good s (j + 1) (omega arith) 0x80 0xbf 1 (bounded _ l h) ∙ sym (last s (j + 1 + 1) (omega arith) 0x80 0xbf) ∙ rw there (bounded _ c d))

-- a run that has passed nothing
pub stay : {s : List ℕ} (i : ℕ) → i ≤ length s → Passed s i i
stay i h = record { rises = omega arith; within = h; same = refl }

module _ {s : List ℕ} {i j : ℕ} (p : Passed s i j) where
  pub onward : {r : ℕ} → Passed s j r → Passed s i r
  onward q = record { rises = omega arith; within = q.within; same = p.same ∙ q.same }

  past : (n : ℕ) → j + n ≤ length s → valid_prefix (drop j s) ≡ n + valid_prefix (drop n (drop j s)) → Passed s i (j + n)
  past n h e = record { rises = omega arith; within = h; same = omega (arith, ap valid_prefix (drop-drop n j s)) }

  -- a character more
  pub character : (n : ℕ) → n ≡ char (drop j s) → 0 < n → Passed s i (j + n)
  character n e h = past n (omega (arith, char_le (drop j s), length-drop j s)) (rw (← e) at (prefix_step (drop j s) (omega arith)))

  -- n bytes of ASCII more
  pub ascii : (n : ℕ) → j + n ≤ length s → Low n s j → Passed s i (j + n)
  ascii n h low = past n h (prefix_ascii n (drop j s) (omega (arith, length-drop j s)) (λ k l. rw get_or-drop (low k l)))

  pub ascii_byte : j < length s → get_or s j 0 < 128 → Passed s i (j + 1)
  ascii_byte h low = ascii 1 (omega arith) (λ k l. let e : j + k ≡ j = omega arith in rw e low)

  -- a character of two bytes more, and of three
  pub pair : 0xc2 ≤ get_or s j 0 → get_or s j 0 ≤ 0xdf → 0x80 ≤ get_or s (j + 1) 0 → get_or s (j + 1) 0 ≤ 0xbf → j + 2 ≤ length s → Passed s i (j + 2)
  pair a b l h room = character 2 (char_pair s j l h a b room) (omega arith)

  pub triple : 0xe1 ≤ get_or s j 0 → get_or s j 0 ≤ 0xec → 0x80 ≤ get_or s (j + 1) 0 → get_or s (j + 1) 0 ≤ 0xbf → 0x80 ≤ get_or s (j + 2) 0 → get_or s (j + 2) 0 ≤ 0xbf
      → j + 3 ≤ length s → Passed s i (j + 3)
  triple a b l h c d room = character 3 (char_triple s j l h a b c d room) (omega arith)

  -- what is valid from i on ends where it ends from j on; at j, if the bytes end there or no character stands there
  pub ends : {r : ℕ} → Ends s j r → Ends s i r
  ends e = e ∙ sym p.same

  pub whole : length s ≤ j → Ends s i j
  whole h = omega (arith, valid_le (drop j s), length-drop j s, p.same)

  pub stopped : 0 ≡ char (drop j s) → Ends s i j
  stopped e = omega (arith, prefix_stop (drop j s) (sym e), p.same)

  -- what is said of the byte at j: no character begins with it, or which followers it has
  pub no_lead : j < length s → lead (get_or s j 0) ≡ NoLead → Ends s i j
  unfolding behind
  no_lead h e = stopped (sym (rw (char_at s j h, e)))

  module _ {n lo hi : ℕ} (h : j < length s) (e : lead (get_or s j 0) ≡ Follow n lo hi) where
    pub broken : followers n lo hi (take (length s - (j + 1)) (drop (j + 1) s)) ≡ false → Ends s i j
    unfolding behind
    broken f = stopped (sym (rw (char_at s j h, e, ← rest_is s (j + 1), f)))

    pub judged : followers n lo hi (take (length s - (j + 1)) (drop (j + 1) s)) ≡ true → Passed s i (j + 1 + n)
    judged f =
        let place : j + (n + 1) ≡ j + 1 + n = omega arith in
        rw place at (character (n + 1) (stands s j h e (ap (followers n lo hi) (sym (rest_is s (j + 1))) ∙ f)) (omega arith))

-- at most eight bytes are left, and the last eight are ASCII
pub ascii_last : (s : List ℕ) (i : ℕ) → i ≤ length s → length s ≤ i + 8 → Low 8 s (length s - 8) → Passed s i (length s)
ascii_last s i h l low =
    let there : (k : ℕ) → length s - 8 + (i + k - (length s - 8)) ≡ i + k = λ k. omega arith in
    let rest : Low (length s - i) s i = λ k b. rw (there k) at (low (i + k - (length s - 8)) (omega arith)) in
    let end : i + (length s - i) ≡ length s = omega arith in
    rw end at (ascii {s = s} (stay i h) (length s - i) (omega arith) rest)

-- each promise allows one answer
pub one_prefix : (s : List ℕ) {x y : ℕ} → x ≡ valid_prefix s → y ≡ valid_prefix s → x ≡ y
one_prefix s p q = p ∙ sym q

pub one_verdict : (s : List ℕ) {x y : Bool} → x ≡ utf8 s → y ≡ utf8 s → x ≡ y
one_verdict s p q = p ∙ sym q
