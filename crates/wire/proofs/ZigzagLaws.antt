-- Zigzag on the signed types, once over the width: what -1 - z is, and what stands for it.
-- Assumes nothing.
use Prim.Native.Nat.{ℕ, zero, suc, ◌+◌, ◌-◌, ◌*◌, ◌/◌, ◌%◌, ◌^◌, ◌<◌}
use native.Mathlib.Omega.{arith}
use mathlib.Core.Path.{◌≡◌, refl, ap, ◌∙◌}
use mathlib.Core.Bool.{true, false}
use lib.IntN.{ℤ, pos, negsuc, ◌-ℤ◌}
use lib.Signed.{lt_z}
use borrow.Author.Tests.{lt-ltb, le-ltb, ltb-true, eq-eqb, ne_eqb}
use mir.Syntax.{Width, w64}
use mir.Val.{hbits, SFits, of_z, to_z}
use mir.ValLaws.{to_z_pos, to_z-of_z}
use Rattle.spec.specs.Varint.{zigzag, unzigzag}

-- -1 - z
down : (n : ℕ) → negsuc 0 -ℤ pos n ≡ negsuc n
down zero = refl
down (suc n) = ap negsuc (omega arith)

up : (n : ℕ) → negsuc 0 -ℤ negsuc n ≡ pos n
up n = simp (le-ltb (suc n) 1 (omega arith)) (ap pos (omega arith))

-- ---- the number that n stands for, in the half of n

module _ (w : Width) (half : ℕ) (small : half < 2 ^ hbits w) where
  pub minus_fits : SFits w (negsuc 0 -ℤ to_z w half)
  minus_fits = rw (to_z_pos w half small, down half) (record { sfits = small })

  pub minus : to_z w (of_z w (negsuc 0 -ℤ to_z w half)) ≡ negsuc half
  minus = to_z-of_z w _ minus_fits ∙ rw (to_z_pos w half small) (down half)

pub unzigzag_even : (n : ℕ) → n % 2 ≡ 0 → unzigzag n ≡ n / 2
unfolding unzigzag
unzigzag_even n e = simp (eq-eqb (n % 2) 0 e)

pub unzigzag_odd : (n : ℕ) → (n % 2 ≡ 0 → ⊥) → unzigzag n ≡ 2 ^ 64 - 1 - n / 2
unfolding unzigzag
unzigzag_odd n e = simp (ne_eqb (n % 2) 0 e)

-- ---- what stands for z, by its sign

-- a number below 0, and -1 less it
pub record Minus (w : Width) (z : ℤ) : Type 0 where
  pub k : ℕ
  pub is : z ≡ negsuc k
  pub low : k < 2 ^ hbits w
  pub less : to_z w (of_z w (negsuc 0 -ℤ to_z w (of_z w z))) ≡ pos k

pub record Plus (w : Width) (z : ℤ) : Type 0 where
  pub k : ℕ
  pub is : z ≡ pos k
  pub low : k < 2 ^ hbits w
  pub itself : to_z w (of_z w z) ≡ pos k

module _ (w : Width) where
  pub less_fits : (z : ℤ) → SFits w z → SFits w (negsuc 0 -ℤ to_z w (of_z w z))
  less_fits (pos n) f = rw (to_z-of_z w (pos n) f, down n) (record { sfits = f.sfits })
  less_fits (negsuc n) f = rw (to_z-of_z w (negsuc n) f, up n) (record { sfits = f.sfits })

  pub below_zero : (z : ℤ) → SFits w z → lt_z (to_z w (of_z w z)) (pos 0) ≡ true → Minus w z
  below_zero (pos n) f t = absurd (omega (arith, ltb-true n 0 (rw (to_z-of_z w (pos n) f) at t)))
  below_zero (negsuc n) f t =
      record { k = n; is = refl; low = f.sfits; less = to_z-of_z w _ (less_fits (negsuc n) f) ∙ rw (to_z-of_z w (negsuc n) f) (up n) }

  pub from_zero : (z : ℤ) → SFits w z → lt_z (to_z w (of_z w z)) (pos 0) ≡ false → Plus w z
  from_zero (pos n) f t = record { k = n; is = refl; low = f.sfits; itself = to_z-of_z w (pos n) f }
  from_zero (negsuc n) f t =
      let q : true ≡ false = rw (to_z-of_z w (negsuc n) f) at t in
      let z : ◌≡◌ {A = ℕ} 0 1 = cc in
      absurd (omega arith)

pub zigzag_minus : (k : ℕ) → k < 2 ^ 63 → zigzag (of_z w64 (negsuc k)) ≡ k * 2 + 1
unfolding zigzag
zigzag_minus k h = simp (le-ltb (2 ^ 64 - suc k) (2 ^ 63) (omega arith)) (omega arith)

pub zigzag_plus : (k : ℕ) → k < 2 ^ 63 → zigzag k ≡ k * 2
unfolding zigzag
zigzag_plus k h = simp (lt-ltb k (2 ^ 63) h) (omega arith)
