-- Reading a varint a byte at a time, at any width: what each byte makes of what was known, and the answer that it gives.
-- Assumes nothing.
use Prim.Native.Nat.{ℕ, suc, ◌+◌, ◌-◌, ◌*◌, ◌%◌, ◌^◌, ◌≤◌, ◌<◌}
use native.Mathlib.Nat.{add-mul, mul_assoc, mul_comm, pow-suc, pow-le-pow_right, zero-lt-suc, mul-le-mul_right}
use native.Mathlib.Numerals.{add-one}
use native.Mathlib.Omega.{arith}
use mathlib.Core.Path.{◌≡◌, refl, sym, ap, ap₂, ◌∙◌, subst}
use mathlib.Core.Bool.{Bool, true, false}
use mathlib.Core.List.{List}
use lib.ListN.{length, get_or, drop, drop_of_length-le}
use lib.Seq.{drop-cons}
use borrow.Author.Tests.{le-leb, lt-leb}
use Rattle.spec.specs.Base.{Read, Took, No, digit, meaning, longer}
use Rattle.spec.specs.Varint.{varint}
use Rattle.spec.proofs.VarintLaws.{varint_ends, varint_goes_on}
use Rattle.wire.specs.Reached.{Reached, varint_of}
use Rattle.std.specs.Prelude.{Err}
use Rattle.spec.specs.declared.refusals.Refusal.TheVariants.{EndsEarly, BadVarint}
use Rattle.wire.specs.Answers.{as_read, value_at}

-- a digit after n bytes, and what is read after it
passed : (n value d : ℕ) (r : Read)
    → longer n (meaning (λ v. value + v * 128 ^ n) (digit 128 d r)) ≡ longer (n + 1) (meaning (λ v. value + d * 128 ^ n + v * 128 ^ (n + 1)) r)
unfolding longer meaning digit
passed n value d (Took v m) =
    ap₂ Took
    (omega (arith, add-mul d (128 * v) (128 ^ n), ap (λ (x : ℕ). x * 128 ^ n) (mul_comm 128 v), mul_assoc v 128 (128 ^ n), ap (λ (x : ℕ). v * x) (mul_comm 128 (128 ^ n)), ap (λ (x : ℕ). v * x) (pow-suc 128 n), ap (λ (x : ℕ). v * 128 ^ x) (add-one n)))
    (omega arith)
passed n value d (No k) = refl

whole : (r : Read) → longer 0 (meaning (λ v. 0 + v * 128 ^ 0) r) ≡ r
unfolding longer meaning
whole (Took v m) = ap₂ Took (omega arith) (omega arith)
whole (No k) = refl

-- nothing is passed yet
pub begin : (more last : ℕ) (s : List ℕ) (at : ℕ) → Reached more last s at 0 more 0
begin more last s at =
    let here : at + 0 ≡ at = omega arith in
    record {
      same = rw here (sym (whole (varint more last (drop at s))));
      low = omega arith;
    }

module _ {more last : ℕ} {s : List ℕ} {at n value : ℕ} where
  -- the bytes end
  pub ended : {left : ℕ} → Reached more last s at n left value → length s ≤ at + n → as_read at (Err EndsEarly) ≡ varint more last (drop at s)
  unfolding varint longer meaning
  ended h out = sym (h.same ∙ simp (drop_of_length-le s out))

  module _ (inside : at + n < length s) where
    -- a byte that ends the varint, where another might follow
    pub stopped : {left : ℕ} → Reached more last s at n (suc left) value → get_or s (at + n) 0 < 128
        → as_read at (value_at (value + get_or s (at + n) 0 % 128 * 128 ^ n) (at + (n + 1))) ≡ varint more last (drop at s)
    unfolding longer meaning
    stopped {left} h small =
        let b = get_or s (at + n) 0 in
        let low : b % 128 ≡ b = omega arith in
        sym (h.same ∙ simp (drop-cons s (at + n) 0 inside, varint_ends left last b (drop (suc (at + n)) s) small) (ap₂ Took (ap (λ (x : ℕ). value + x * 128 ^ n) (sym low)) (omega arith)))

    -- a byte after which another comes
    pub turned : {left : ℕ} → Reached more last s at n (suc left) value → 128 ≤ get_or s (at + n) 0
        → Reached more last s at (n + 1) left (value + get_or s (at + n) 0 % 128 * 128 ^ n)
    turned {left} h big =
        let b = get_or s (at + n) 0 in
        let rest = varint left last (drop (at + (n + 1)) s) in
        let place : suc (at + n) ≡ at + (n + 1) = omega arith in
        let split : varint (suc left) last (drop (at + n) s) ≡ digit 128 (b % 128) rest =
        rw (drop-cons s (at + n) 0 inside, place) (varint_goes_on left last b (drop (at + (n + 1)) s) big) in
        let group : b % 128 ≤ 127 = omega arith in
        record {
          same = h.same ∙ ap (λ (r : Read). longer n (meaning (λ v. value + v * 128 ^ n) r)) split ∙ passed n value (b % 128) rest;
          low = omega (arith, mul-le-mul_right (128 ^ n) group, h.low, pow-suc 128 n, ap (λ (x : ℕ). 128 ^ x) (add-one n));
        }

    -- the byte after which none may come
    pub took_last : Reached more last s at n 0 value → get_or s (at + n) 0 ≤ last
        → as_read at (value_at (value + get_or s (at + n) 0 * 128 ^ n) (at + (n + 1))) ≡ varint more last (drop at s)
    unfolding varint longer meaning
    took_last h small = sym (h.same ∙ simp (drop-cons s (at + n) 0 inside, le-leb (get_or s (at + n) 0) last small) (ap₂ Took refl (omega arith)))

    pub refused_last : Reached more last s at n 0 value → last < get_or s (at + n) 0 → as_read at (Err BadVarint) ≡ varint more last (drop at s)
    unfolding varint longer meaning
    refused_last h large = sym (h.same ∙ simp (drop-cons s (at + n) 0 inside, lt-leb (get_or s (at + n) 0) last large))

-- the first byte
module _ (more last : ℕ) (s : List ℕ) (at : ℕ) (inside : at < length s) where
  pub one_byte : get_or s at 0 < 128 → as_read at (value_at (get_or s at 0) (at + 1)) ≡ varint (suc more) last (drop at s)
  one_byte small =
      let next : at + 1 - at ≡ 1 = omega arith in
      rw (drop-cons s at 0 inside, next) (sym (varint_ends more last (get_or s at 0) (drop (suc at) s) small))

  pub first_byte : 128 ≤ get_or s at 0 → Reached (suc more) last s at 1 more (get_or s at 0 % 128)
  first_byte big =
      let here : at + 0 ≡ at = omega arith in
      let value : 0 + get_or s at 0 % 128 * 1 ≡ get_or s at 0 % 128 = omega arith in
      let step = turned {value = 0} (subst (λ (i : ℕ). i < length s) (sym here) inside) (begin (suc more) last s at) in
      rw value at (rw here at step) big

-- ---- the values fit: n digits, one more, and the last

pub scale_below : {n more : ℕ} → n < more → 128 ^ n * 128 ≤ 128 ^ more
scale_below {n} {more} h = omega (arith, pow-suc 128 n, pow-le-pow_right {n = 128} (zero-lt-suc 127) h)

pub digit_below : {n more value : ℕ} → n < more → value < 128 ^ n → (b : ℕ) → value + b % 128 * 128 ^ n < 128 ^ more
digit_below {n} h low b =
    let group : b % 128 ≤ 127 = omega arith in
    omega (arith, mul-le-mul_right (128 ^ n) group, scale_below h)

pub last_below : {n more last value b : ℕ} → n ≡ more → value < 128 ^ n → b ≤ last → value + b * 128 ^ n < (last + 1) * 128 ^ more
last_below {n} {last = last} e low h = rw (← e) (omega (arith, mul-le-mul_right (128 ^ n) h, add-mul last 1 (128 ^ n)))

-- what holds at any width that goes to a fifth byte holds at the width of a flag
pub either_width : (narrow : Bool) {r : Read} (s : List ℕ) → ((k last : ℕ) → r ≡ varint (suc (suc (suc (suc k)))) last s) → r ≡ varint_of narrow s
either_width true s law = law 0 15
either_width false s law = law 5 1
