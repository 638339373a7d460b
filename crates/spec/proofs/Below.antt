-- What a test shows at each number below a bound, computed once over all of them: the rule of a table, and of a formula with few arguments.
-- Assumes nothing.
use Prim.Native.Nat.{ℕ, zero, suc, ◌<◌}
use mathlib.Core.Path.{◌≡◌, subst}
use mathlib.Core.Bool.{Bool, true, false, ◌&&◌}
use native.Mathlib.Nat.{not-suc-le-zero}
use native.Mathlib.Decide.{dec_lt}
use native.Mathlib.Omega.{arith}
use lib.Dec.{T, eqb, eqb→eq}

pub and_left : (a b : Bool) → T (a && b) → T a
and_left true b t = tt
and_left false b t = t

pub and_right : (a b : Bool) → T (a && b) → T b
and_right true b t = t
and_right false b t = absurd t

-- a test holds at each number below n
abbrev pub every : (ℕ → Bool) → ℕ → Bool
every p zero = true
every p (suc n) = p n && every p n

pub holds_below : (p : ℕ → Bool) (n k : ℕ) → T (every p n) → k < n → T (p k)
holds_below p zero k t h = absurd (not-suc-le-zero h)
holds_below p (suc n) k t h =
    elim (dec_lt k n) [
      | yes l ↦ holds_below p n k (and_right (p n) (every p n) t) l
      | no l ↦ subst (λ (m : ℕ). T (p m)) (omega arith) (and_left (p n) (every p n) t)
    ]

-- f and g are equal at each number below n
abbrev pub agree : (f g : ℕ → ℕ) → ℕ → Bool
agree f g n = every (λ k. eqb (f k) (g k)) n

pub equal_below : (f g : ℕ → ℕ) (n k : ℕ) → T (agree f g n) → k < n → f k ≡ g k
equal_below f g n k t h = eqb→eq (f k) (g k) (holds_below (λ i. eqb (f i) (g i)) n k t h)
