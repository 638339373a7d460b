-- The varint of a number of 64 bits, with no count: of two and of three bytes, and four bytes with the varint of what remains. Assumes nothing.
use Prim.Native.Nat.{ℕ, ◌+◌, ◌/◌, ◌%◌, ◌^◌, ◌≤◌, ◌<◌}
use mathlib.Core.Path.{◌≡◌, ap, ◌∙◌}
use mathlib.Core.List.{List, [], ◌∷◌, ◌++◌}
use native.Mathlib.Omega.{arith}
use Rattle.spec.specs.Varint.{encode}
-- given out with the laws below, since who cites one needs these too
pub use Rattle.wire.proofs.VarintStores.{encode_ends, encode_goes_on}
use Rattle.write.specs.Backward.{four, three_bytes, four_bytes, four_groups}

pub encode_two : (v : ℕ) → 128 ≤ v → v < three_bytes → encode v ≡ (128 + v % 128) ∷ (v / 128) ∷ []
encode_two v h l = encode_goes_on v h (omega arith) ∙ ap (◌∷◌ (128 + v % 128)) (encode_ends (v / 128) (omega arith))

pub encode_three : (v : ℕ) → three_bytes ≤ v → v < four_bytes → encode v ≡ (128 + v % 128) ∷ (128 + v / 128 % 128) ∷ (v / 128 / 128) ∷ []
encode_three v h l = encode_goes_on v (omega arith) (omega arith) ∙ ap (◌∷◌ (128 + v % 128)) (encode_two (v / 128) (omega arith) (omega arith))

pub encode_four : (v : ℕ) → four_groups ≤ v → v < 2 ^ 64 → encode v ≡ four v ++ encode (v / four_groups)
encode_four v h l =
    let v₁ : ℕ = v / 128 in
    let v₂ : ℕ = v₁ / 128 in
    let v₃ : ℕ = v₂ / 128 in
    let rest : v₃ / 128 ≡ v / four_groups = omega arith in
    encode_goes_on v (omega arith) l
    ∙ ap (λ (x : List ℕ). (128 + v % 128) ∷ x) (encode_goes_on v₁ (omega arith) (omega arith))
    ∙ ap (λ (x : List ℕ). (128 + v % 128) ∷ (128 + v₁ % 128) ∷ x) (encode_goes_on v₂ (omega arith) (omega arith))
    ∙ ap (λ (x : List ℕ). (128 + v % 128) ∷ (128 + v₁ % 128) ∷ (128 + v₂ % 128) ∷ x) (encode_goes_on v₃ (omega arith) (omega arith))
    ∙ ap (λ (n : ℕ). four v ++ encode n) rest
