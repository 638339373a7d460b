-- Several bytes tested at once: where the word that they make has no bit in common with 80..80, each is below 128. One law over the width.
-- Assumes nothing.
use Prim.Native.Nat.{ℕ, zero, suc, ◌+◌, ◌-◌, ◌*◌, ◌/◌, ◌%◌, ◌<◌}
use mathlib.Core.Path.{◌≡◌, refl, ap, sym, ◌∙◌}
use mathlib.Core.List.{List}
use native.Mathlib.Omega.{arith}
use native.Mathlib.Nat.{add-zero, zero-add, add_assoc, mod-eq_of_lt}
use Rattle.std.proofs.lemmas.List.{get_or-take, get_or-drop}
use lib.Bits.{bit_and, and_block, and_high}
use lib.ListN.{get_or, take, drop}
use Rattle.utf8.specs.Text.{Low}

-- the n bytes from i on as one number, the first lowest
unfoldable pub word : ℕ → List ℕ → ℕ → ℕ
word zero s i = 0
word (suc n) s i = word n s (i + 1) * 256 + get_or s i 0

-- the same bytes at two places make one word
word_moved : (n i j : ℕ) (s t : List ℕ) → ((k : ℕ) → k < n → get_or s (i + k) 0 ≡ get_or t (j + k) 0) → word n s i ≡ word n t j
unfolding word
word_moved zero i j s t h = refl
word_moved (suc n) i j s t h =
    let after : (k : ℕ) → k < n → get_or s (i + 1 + k) 0 ≡ get_or t (j + 1 + k) 0 = λ k l. rw (add_assoc, add_assoc) (h (1 + k) (omega arith)) in
    rw (word_moved n (i + 1) (j + 1) s t after, at_once (h 0 (omega arith))) refl
  where
    at_once : get_or s (i + 0) 0 ≡ get_or t (j + 0) 0 → get_or s i 0 ≡ get_or t j 0
    at_once e = rw (← add-zero i, ← add-zero j) e

-- the word of eight bytes that were taken from place i on
pub word_eight : (bytes s : List ℕ) (i : ℕ) → bytes ≡ take (i + 8 - i) (drop i s) →
    word 8 s i ≡ get_or bytes 0 0 + get_or bytes 1 0 * 256 + get_or bytes 2 0 * 65536 + get_or bytes 3 0 * 16777216 + get_or bytes 4 0 * 4294967296
    + get_or bytes 5 0 * 1099511627776 + get_or bytes 6 0 * 281474976710656 + get_or bytes 7 0 * 72057594037927936
unfolding word
word_eight bytes s i e =
    let there : (k : ℕ) → k < 8 → get_or s (i + k) 0 ≡ get_or bytes (0 + k) 0 = λ k h. rw zero-add (sym (rw e (get_or-take (i + 8 - i) (drop i s) k 0 (omega arith) ∙ get_or-drop i s k 0))) in
    word_moved 8 i 0 s bytes there ∙ omega arith

-- the highest bit of each of n bytes
unfoldable pub highs : ℕ → ℕ
highs zero = 0
highs (suc n) = highs n * 256 + 128

-- the lowest byte apart
split : (n : ℕ) (s : List ℕ) (i : ℕ) → ((j : ℕ) → get_or s j 0 < 256)
    → bit_and (word (suc n) s i) (highs (suc n)) ≡ bit_and (word n s (i + 1)) (highs n) * 256 + bit_and (get_or s i 0) 128
unfolding word highs
split n s i h = and_block 8 (word n s (i + 1)) (highs n) (get_or s i 0) 128 (h i) (omega arith)

-- a byte without its highest bit
high : (b : ℕ) → b < 256 → bit_and b 128 ≡ 0 → b < 128
high b h e =
    let bit : b / 128 % 2 * 128 ≡ 0 = sym (and_high b 1 7) ∙ e in
    let whole : b / 128 % 2 ≡ b / 128 = mod-eq_of_lt (omega arith) in
    omega arith

pub all_low : (n : ℕ) (s : List ℕ) (i : ℕ) → ((j : ℕ) → get_or s j 0 < 256) → bit_and (word n s i) (highs n) ≡ 0 → Low n s i
all_low zero s i h e k l = absurd (omega arith)
all_low (suc n) s i h e zero l = rw add-zero (high (get_or s i 0) (h i) (omega (arith, split n s i h)))
all_low (suc n) s i h e (suc k) l =
    let there : get_or s (i + 1 + k) 0 ≡ get_or s (i + suc k) 0 = ap (λ (j : ℕ). get_or s j 0) (omega arith) in
    rw there at (all_low n s (i + 1) h (omega (arith, split n s i h)) k (omega arith))
