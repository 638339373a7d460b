-- What a caller knows of an answer: where the value stands and how large it is; and that each promise of the codec allows one answer.
-- Assumes nothing.
use Prim.Native.Nat.{ℕ, zero, suc, ◌+◌, ◌-◌, ◌*◌, ◌^◌, ◌≤◌, ◌<◌}
use native.Mathlib.Nat.{pow-suc, mul_comm, mul-le-mul_right, suc-mul}
use native.Mathlib.Omega.{arith}
use mathlib.Core.Path.{◌≡◌, sym, ap, ap₂, ◌∙◌}
use mathlib.Core.List.{List, [], ◌∷◌}
use lib.ListN.{length, get_or, drop, length-drop}
use lib.Seq.{get_or-drop}
use lib.Dec.{leb, ltb}
use lib.IntN.{ℤ}
use borrow.Author.Tests.{leb-true, ltb-true}
use mir.Syntax.{w8, w64}
use mir.Val.{Fits, SFits, of_z, to_z}
use mir.ValLaws.{to_z-of_z}
use Rattle.spec.specs.Base.{Read, Took, No, digit, refusal, found, taken, filled}
use Rattle.spec.specs.Varint.{varint, encode, fixed}
use Rattle.spec.proofs.Laws.{Takes, took, chosen, takes_varint, takes_fixed, takes_weaker}
use Rattle.spec.proofs.VarintLaws.{top}
use Rattle.std.specs.Prelude.{Result, Ok, Err}
use Rattle.spec.specs.declared.refusals.Refusal.{Refusal}
use Rattle.spec.proofs.ToldLaws.{same_refusal}
use Rattle.wire.specs.Answers.{as_read, value_at}
use Rattle.wire.specs.declared.found.Found.{Found}

-- ---- one answer for each promise

some_taken : {least most v n : ℕ} → Takes least most (Took v n) → (least ≤ n) × (n ≤ most)
some_taken (took h j) = (h, j)

-- what takes at least a byte has one answer
one_finding : (at : ℕ) {most : ℕ} {r : Read} (p q : Result Found Refusal) → Takes 1 most r → as_read at p ≡ r → as_read at q ≡ r → p ≡ q
unfolding refusal found taken
one_finding at (Ok f) (Ok g) t e d =
    let h : Took f.value (f.next - at) ≡ Took g.value (g.next - at) = e ∙ sym d in
    ap₂ value_at (ap found h) (omega (arith, ap taken h, some_taken (rw (← e) at t), some_taken (rw (← d) at t)))
one_finding at (Ok f) (Err k) t e d = let z : ◌≡◌ {A = ℕ} 0 1 = cc in absurd (omega arith)
one_finding at (Err j) (Ok g) t e d = let z : ◌≡◌ {A = ℕ} 0 1 = cc in absurd (omega arith)
one_finding at (Err j) (Err k) t e d = ap Err (same_refusal (ap refusal (e ∙ sym d)))

pub one_varint : (k last : ℕ) (s : List ℕ) (at : ℕ) (p q : Result Found Refusal) → as_read at p ≡ varint k last (drop at s) → as_read at q ≡ varint k last (drop at s) → p ≡ q
one_varint k last s at p q e f = one_finding at p q (takes_varint k last (drop at s)) e f

pub one_fixed : (n : ℕ) (s : List ℕ) (at : ℕ) (p q : Result Found Refusal) → as_read at p ≡ fixed (suc n) (drop at s) → as_read at q ≡ fixed (suc n) (drop at s) → p ≡ q
one_fixed n s at p q e f = one_finding at {most = length (drop at s)} p q (takes_weaker (omega arith) (omega arith) (takes_fixed (suc n) (drop at s))) e f

-- the promises that name their answer: zigzag on patterns, `extend32`, the size
pub one_value {ℓ} : {A : Type ℓ} {x y v : A} → x ≡ v → y ≡ v → x ≡ y
one_value e f = e ∙ sym f

-- a length, and a buffer that is filled at its front
pub one_filling : (v : ℕ) (room : List ℕ) {m n : ℕ} {x y : List ℕ} → (m ≡ length (encode v)) × (x ≡ filled (encode v) room)
    → (n ≡ length (encode v)) × (y ≡ filled (encode v) room) → (m ≡ n) × (x ≡ y)
one_filling v room p q = (one_value p.0 q.0, one_value p.1 q.1)

-- zigzag on the signed types: a signed number is known by its pattern
pub one_signed : {x : ℕ} (y z : ℤ) → SFits w64 y → SFits w64 z → of_z w64 y ≡ x → of_z w64 z ≡ x → y ≡ z
one_signed y z f g e d = sym (to_z-of_z w64 y f) ∙ ap (to_z w64) (e ∙ sym d) ∙ to_z-of_z w64 z g

-- ---- where a value stands, and how large it is

-- a value below `most`, if any
data Below (most : ℕ) : Read → Type 0 where
  low : {v n : ℕ} → v < most → Below most (Took v n)
  no_value : {k : ℕ} → Below most (No k)

below : {most v n : ℕ} → v < most → Below most (Took v n)
below h = low h

below_digit : {base b most : ℕ} {r : Read} → b < base → Below most r → Below (most * base) (digit base b r)
unfolding digit
below_digit {base} {b} {most} h (low {v} l) = below (omega (arith, mul-le-mul_right base l, mul_comm base v, suc-mul v base))
below_digit h no_value = no_value

some_below : (k last : ℕ) → 1 ≤ top k last
some_below zero last = omega arith
some_below (suc k) last = omega (arith, some_below k last)

varint_below : (k last : ℕ) (s : List ℕ) → Below (top k last) (varint k last s)
unfolding varint
varint_below k last [] = no_value
varint_below zero last (b ∷ s) = chosen (Below (suc last)) (leb b last) (λ e. below (omega (arith, leb-true b last e))) (λ e. no_value)
varint_below (suc k) last (b ∷ s) =
    chosen (Below (top k last * 128)) (ltb b 128)
    (λ e. below (omega (arith, ltb-true b 128 e, some_below k last)))
    (λ e. below_digit (omega arith) (varint_below k last s))

-- of bytes, which are below 256
fixed_below : (n : ℕ) (s : List ℕ) → ((i : ℕ) → Fits w8 (get_or s i 0)) → Below (256 ^ n) (fixed n s)
unfolding fixed
fixed_below zero s h = below (omega arith)
fixed_below (suc n) [] h = no_value
fixed_below (suc n) (b ∷ s) h = rw (pow-suc 256 n) (below_digit (h 0).fits (fixed_below n s (λ i. h (suc i))))

-- The value arm of an answer: the value ends after its start and in the slice, and is below `most`.
pub record Placed (most : ℕ) (s : List ℕ) (at v next : ℕ) : Type 0 where
  pub past : at < next
  pub inside : next ≤ length s
  pub small : v < most

placed : {most at v next : ℕ} (s : List ℕ) {f : Result Found Refusal} {r : Read} → Takes 1 (length (drop at s)) r → Below most r → as_read at f ≡ r → f ≡ value_at v next
    → Placed most s at v next
placed {at = at} {v} {next} s t b p e =
    let q : Took v (next - at) ≡ _ = ap (as_read at) (sym e) ∙ p in
    let h = some_taken (rw (← q) at t) in
    record { past = omega arith; inside = omega (arith, length-drop at s); small = lower (rw (← q) at b) }
  where
    lower : {most v n : ℕ} → Below most (Took v n) → v < most
    lower (low h) = h

-- a varint's, below 2 ^ 64 for 9 and 1, and below 2 ^ 32 for 4 and 15
pub varint_placed : (k last : ℕ) (s : List ℕ) (at : ℕ) {f : Result Found Refusal} {v next : ℕ} → as_read at f ≡ varint k last (drop at s) → f ≡ value_at v next
    → Placed (top k last) s at v next
varint_placed k last s at p e = placed s (takes_varint k last (drop at s)) (varint_below k last (drop at s)) p e

-- a fixed value's, of a slice of bytes
pub fixed_placed : (n : ℕ) (s : List ℕ) (at : ℕ) → ((i : ℕ) → Fits w8 (get_or s i 0)) → {f : Result Found Refusal} {v next : ℕ} → as_read at f ≡ fixed (suc n) (drop at s)
    → f ≡ value_at v next → Placed (256 ^ suc n) s at v next
fixed_placed n s at h p e =
    placed s (takes_weaker (omega arith) (omega arith) (takes_fixed (suc n) (drop at s)))
    (fixed_below (suc n) (drop at s) (λ i. rw get_or-drop (h (at + i)))) p e
