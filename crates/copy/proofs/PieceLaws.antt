-- Laws of bytes that are copied piece after piece: a piece that begins where one before it ends, or sooner. Assumes nothing.
use Prim.Native.Nat.{ℕ, ◌+◌, ◌-◌, ◌≤◌}
use native.Mathlib.Omega.{arith}
use mathlib.Core.Path.{◌≡◌, sym, ap, ◌∙◌}
use mathlib.Core.List.{List, ◌++◌}
use lib.ListN.{length, take, drop}
use lib.Seq.{length-take-le, take-add, take-take, take_all, take-append-le}
use Rattle.spec.specs.Base.{part}
use Rattle.wire.specs.Answers.{stored}

-- The bytes before i are copied, and those from m to j are stored: then those before j are copied.
module _ (from to next : List ℕ) (m i j : ℕ) (before : m ≤ i) (up : m ≤ j) (inside : j ≤ length from)
    (so_far : take i to ≡ take i from) (is : next ≡ stored m (part m j from) to) where
  front : take m to ++ part m j from ≡ take j from
  front =
      let end : m + (j - m) ≡ j = omega arith in
      ap (λ (x : List ℕ). x ++ part m j from) (sym (take-take m i to before) ∙ ap (take m) so_far ∙ take-take m i from before)
      ∙ sym (take-add m (j - m) from)
      ∙ ap (λ (n : ℕ). take n from) end

  whole : next ≡ take j from ++ drop (m + length (part m j from)) to
  whole =
      let rest : List ℕ = drop (m + length (part m j from)) to in
      is ∙ ap (λ (x : List ℕ). x ++ rest) front

  pub piece_on : take j next ≡ take j from
  piece_on =
      let rest : List ℕ = drop (m + length (part m j from)) to in
      ap (take j) whole
      ∙ take-append-le j (take j from) rest (omega (arith, length-take-le j from inside))
      ∙ take-take j j from (omega arith)

-- where all bytes are copied, nothing else stands there
pub all_copied : (from next : List ℕ) (j : ℕ) → length from ≡ length next → j ≡ length from → take j next ≡ take j from → next ≡ from
all_copied from next j long is e = sym (take_all j next (omega arith)) ∙ e ∙ take_all j from (omega arith)
