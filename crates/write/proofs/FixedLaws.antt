-- The library's bytes of a number, the lowest first, are the definition's. Assumes nothing.
use Prim.Native.Nat.{ℕ, ◌/◌, ◌%◌, ◌^◌}
use mathlib.Core.Path.{◌≡◌}
use native.Mathlib.Omega.{arith}
use Rattle.std.specs.Int.{w32, w64, to_le_bytes}
use Rattle.spec.specs.Varint.{little}

-- of a number's lowest four bytes
pub low_four : (v : ℕ) → to_le_bytes w32 (v % 2 ^ 32) ≡ little 4 v
unfolding little
low_four v =
    let a : v % 2 ^ 32 % 256 ≡ v % 256 = omega arith in
    let b : v % 2 ^ 32 / 256 % 256 ≡ v / 256 % 256 = omega arith in
    let c : v % 2 ^ 32 / 65536 % 256 ≡ v / 256 / 256 % 256 = omega arith in
    let d : v % 2 ^ 32 / 16777216 % 256 ≡ v / 256 / 256 / 256 % 256 = omega arith in
    cc

pub eight : (v : ℕ) → to_le_bytes w64 v ≡ little 8 v
unfolding little
eight v =
    let a : v / 65536 ≡ v / 256 / 256 = omega arith in
    let b : v / 16777216 ≡ v / 256 / 256 / 256 = omega arith in
    let c : v / 4294967296 ≡ v / 256 / 256 / 256 / 256 = omega arith in
    let d : v / 1099511627776 ≡ v / 256 / 256 / 256 / 256 / 256 = omega arith in
    let e : v / 281474976710656 ≡ v / 256 / 256 / 256 / 256 / 256 / 256 = omega arith in
    let f : v / 72057594037927936 ≡ v / 256 / 256 / 256 / 256 / 256 / 256 / 256 = omega arith in
    cc
