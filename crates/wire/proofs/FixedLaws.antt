-- Fixed values: four bytes as one number, two halves as one value, and too few bytes.
-- Assumes nothing.
use Prim.Native.Nat.{ℕ, zero, suc, ◌+◌, ◌*◌, ◌/◌, ◌≤◌, ◌<◌}
use native.Mathlib.Numerals.{add-one}
use native.Mathlib.Omega.{arith}
use mathlib.Core.Path.{◌≡◌, refl, sym, ap, ap₂, ◌∙◌}
use mathlib.Core.List.{List, [], ◌∷◌, ◌++◌}
use lib.ListN.{length, get_or, drop, length-drop, set}
use lib.Seq.{drop-cons, sets}
use Rattle.spec.specs.Names.{ends_early}
use Rattle.spec.specs.Base.{Took, No, digit, found}
use Rattle.spec.specs.Varint.{fixed, little}
use Rattle.wire.specs.Answers.{as_read}
use Rattle.std.specs.Prelude.{Err}
use Rattle.spec.specs.declared.refusals.Refusal.TheVariants.{EndsEarly}

pub too_few : (n : ℕ) (s : List ℕ) → length s < n → fixed n s ≡ No ends_early
unfolding fixed digit
too_few zero s h = absurd (omega arith)
too_few (suc n) [] h = refl
too_few (suc n) (b ∷ s) h = ap (digit 256 b) (too_few n s (omega arith))

pub fixed_short : (n : ℕ) (s : List ℕ) (at : ℕ) → 0 < n → length s < at + n → as_read at (Err EndsEarly) ≡ fixed n (drop at s)
fixed_short n s at some h = sym (too_few n (drop at s) (omega (arith, length-drop at s)))

-- a byte at a position; j is the next
byte : (n : ℕ) (s : List ℕ) (at j : ℕ) → at < length s → j ≡ at + 1 → fixed (suc n) (drop at s) ≡ digit 256 (get_or s at 0) (fixed n (drop j s))
unfolding fixed
byte n s at j h e = rw (e, add-one, drop-cons s at 0 h)

pub four_bytes : (s : List ℕ) (at : ℕ) → at + 4 ≤ length s
    → fixed 4 (drop at s) ≡ Took (get_or s at 0 + 256 * (get_or s (at + 1) 0 + 256 * (get_or s (at + 2) 0 + 256 * get_or s (at + 3) 0))) 4
unfolding fixed digit
four_bytes s at h =
    rw (
      byte 3 s at (at + 1) (omega arith) refl,
      byte 2 s (at + 1) (at + 2) (omega arith) (omega arith),
      byte 1 s (at + 2) (at + 3) (omega arith) (omega arith),
      byte 0 s (at + 3) (at + 4) (omega arith) (omega arith),
    )
    (ap₂ Took (omega arith) refl)

-- the four after them
pub eight_bytes : (s : List ℕ) (at low high : ℕ) → at + 8 ≤ length s → fixed 4 (drop at s) ≡ Took low 4 → fixed 4 (drop (at + 4) s) ≡ Took high 4
    → fixed 8 (drop at s) ≡ Took (low + high * 0x1_0000_0000) 8
unfolding digit found
eight_bytes s at low high h p q =
    rw (
      byte 7 s at (at + 1) (omega arith) refl,
      byte 6 s (at + 1) (at + 2) (omega arith) (omega arith),
      byte 5 s (at + 2) (at + 3) (omega arith) (omega arith),
      byte 4 s (at + 3) (at + 4) (omega arith) (omega arith),
      q,
    )
    (ap₂ Took (omega (arith, ap found (sym p ∙ four_bytes s at (omega arith)))) refl)

-- ---- storing

pub sets_append : (xs ys l : List ℕ) (i : ℕ) → sets l i (xs ++ ys) ≡ sets (sets l i xs) (i + length xs) ys
sets_append [] ys l i = ap (λ (j : ℕ). sets l j ys) (omega arith)
sets_append (x ∷ xs) ys l i = sets_append xs ys (set l i x) (suc i) ∙ ap (λ (j : ℕ). sets (sets (set l i x) (suc i) xs) j ys) (omega arith)

-- the lower four bytes, and after them the upper four
pub put_eight : (v at : ℕ) (before : List ℕ) {half after : List ℕ} → half ≡ sets before at (little 4 v) → after ≡ sets half (at + 4) (little 4 (v / 0x1_0000_0000))
    → after ≡ sets before at (little 8 v)
unfolding little
put_eight v at before p q =
    let high : v / 256 / 256 / 256 / 256 ≡ v / 0x1_0000_0000 = omega arith in
    q ∙ ap (λ (l : List ℕ). sets l (at + 4) (little 4 (v / 0x1_0000_0000))) p
    ∙ sym (sets_append (little 4 v) (little 4 (v / 0x1_0000_0000)) before at)
    ∙ ap (λ (u : ℕ). sets before at (little 4 v ++ little 4 u)) (sym high)
