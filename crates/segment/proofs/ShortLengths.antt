-- A length of one, two or three bytes, as the quick reader computes it: each byte after which another comes counts 128 too many, which is taken off again.
-- Assumes nothing.
use Prim.Native.Nat.{ℕ, ◌+◌, ◌-◌, ◌*◌, ◌%◌, ◌≤◌, ◌<◌}
use native.Mathlib.Omega.{arith}
use mathlib.Core.Path.{◌≡◌, ap, ◌∙◌}
use mathlib.Core.List.{List}
use lib.ListN.{length, drop, get_or}
use Rattle.spec.specs.Base.{Took}
use Rattle.spec.specs.Varint.{varint32}
use Rattle.wire.specs.Answers.{as_read, value_at}
use Rattle.wire.proofs.VarintSteps.{turned, stopped, one_byte, first_byte}

module _ (s : List ℕ) (at : ℕ) (inside : at + 2 < length s) where
  pub one : get_or s at 0 < 128 → as_read at (value_at (get_or s at 0) (at + 1)) ≡ varint32 (drop at s)
  one small = one_byte 3 15 s at (omega arith) small

  module _ (big : 128 ≤ get_or s at 0) (byte : get_or s at 0 < 256) where
    pub two : get_or s (at + 1) 0 < 128 → as_read at (value_at (get_or s at 0 + get_or s (at + 1) 0 * 128 - 128) (at + 2)) ≡ varint32 (drop at s)
    two small =
        let a : ℕ = get_or s at 0 in
        let b : ℕ = get_or s (at + 1) 0 in
        let value : a + b * 128 - 128 ≡ a % 128 + b % 128 * 128 = omega arith in
        ap (λ (v : ℕ). Took v (at + 2 - at)) value ∙ stopped (omega arith) (first_byte 3 15 s at (omega arith) big) small

    pub three : 128 ≤ get_or s (at + 1) 0 → get_or s (at + 1) 0 < 256 → get_or s (at + 2) 0 < 128
        → as_read at (value_at (get_or s at 0 + get_or s (at + 1) 0 * 128 - 128 + get_or s (at + 2) 0 * 0x4000 - 0x4000) (at + 3)) ≡ varint32 (drop at s)
    three more next small =
        let a : ℕ = get_or s at 0 in
        let b : ℕ = get_or s (at + 1) 0 in
        let c : ℕ = get_or s (at + 2) 0 in
        let value : a + b * 128 - 128 + c * 0x4000 - 0x4000 ≡ a % 128 + b % 128 * 128 + c % 128 * 0x4000 = omega arith in
        ap (λ (v : ℕ). Took v (at + 3 - at)) value ∙ stopped (omega arith) (turned (omega arith) (first_byte 3 15 s at (omega arith) big) more) small
