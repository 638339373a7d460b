-- A sum that is left as soon as it is above the limit, and the sizes of values as such a sum. Assumes nothing.
use Prim.Native.Nat.{ℕ, ◌+◌, ◌*◌, ◌≤◌, ◌<◌}
use mathlib.Core.Path.{◌≡◌}
use mathlib.Core.List.{List, [], ◌∷◌, map}
use native.Mathlib.Numerals.{add-one}
use native.Mathlib.Omega.{arith}
use lib.ListN.{length, drop, get_or, drop_of_length-le}
use lib.Seq.{drop-cons}
use Rattle.spec.specs.Base.{limit}
use Rattle.spec.specs.Kind.{Shape}
use Rattle.spec.specs.Sizes.{value_size, values_size}

-- The sum so far; `left` is what is still to be added, and `whole` is the sum of all.
pub record Summed (left whole sum : ℕ) : Type 0 where
  pub small : sum ≤ limit
  pub total : sum + left ≡ whole

module _ {A : Type 0} (x : Shape) (f : A → ℕ) (vs : List A) where
  -- the sizes of the values from a place on
  abbrev pub from : ℕ → ℕ
  from i = values_size x (map f (drop i vs))

  pub from_step : (i : ℕ) (v : A) → i < length vs → v ≡ get_or vs i v → from i ≡ value_size x (f v) + from (i + 1)
  unfolding values_size
  from_step i v h e = rw (add-one i, drop-cons vs i v h, ← e)

  pub from_end : (i : ℕ) → length vs ≤ i → from i ≡ 0
  unfolding values_size
  from_end i h = rw (drop_of_length-le vs h)

-- values of w bytes each
pub all_same : {A : Type 0} (x : Shape) (f : A → ℕ) (w : ℕ) → ((a : A) → value_size x (f a) ≡ w) → (vs : List A) → values_size x (map f vs) ≡ length vs * w
unfolding values_size
all_same x f w e [] = omega arith
all_same x f w e (a ∷ vs) = omega (arith, e a, all_same x f w e vs)
