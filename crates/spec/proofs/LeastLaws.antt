-- Our writing of what was read is the shortest: no varint is shorter than ours of its value, and no number than ours; and what is read as a number fits.
-- Assumes nothing.
use Prim.Native.Nat.{ℕ, zero, suc, ◌+◌, ◌-◌, ◌*◌, ◌/◌, ◌%◌, ◌^◌, ◌≤◌, ◌<◌, min}
use native.Mathlib.Omega.{arith}
use native.Mathlib.Nat.{pow-suc}
use mathlib.Core.Path.{◌≡◌, sym, ap, ◌∙◌, subst}
use mathlib.Core.Bool.{Bool, true, ◌||◌}
use mathlib.Core.List.{List, [], ◌∷◌}
use lib.ListN.{length, take, drop, get_or-eq_default}
use lib.Seq.{get_or-drop, get_or-take}
use lib.Dec.{leb, ltb, eqb}
use borrow.Author.Tests.{leb-true, ltb-true, le-ltb, lt-ltb, le-leb, eq-eqb, ne_eqb}
use Rattle.spec.specs.Names.{out_of_range}
use Rattle.std.specs.Prelude.{if◌then◌else◌}
use Rattle.spec.specs.Base.{between, Read, Took, No, meaning, require, digit}
use Rattle.spec.specs.Varint.{varint, shortest, encode, unzigzag, fixed}
use Rattle.spec.specs.Kind.{Scalar, int32, uint32, uint64, bool, sint32, sint64, fixed32, sfixed32, fixed64, signed32, extend, scalar, encoded, fits}
use Rattle.spec.specs.Skip.{content, spanned}
use Rattle.spec.proofs.Laws.{either_way, chosen, both_true, Takes, took, takes_varint}
use Rattle.spec.proofs.VarintLaws.{lower_or_not, shortest_ends, shortest_goes_on, top, Spelled, spelled, varint_spelled, zigzag_there, length_little}
use Rattle.spec.proofs.RoundTrip.{encode_pos}
use Rattle.spec.specs.Valid.{Bytes}

-- ---- bytes

pub bytes_drop : (n : ℕ) (s : List ℕ) → Bytes s → Bytes (drop n s)
bytes_drop n s h i = subst (λ (x : ℕ). x < 256) (sym (get_or-drop n s i 0)) (h (n + i))

pub bytes_take : (n : ℕ) (s : List ℕ) → Bytes s → Bytes (take n s)
bytes_take n s h i =
    lower_or_not i (length (take n s))
    (λ l. lower_or_not i n
    (λ c. subst (λ (x : ℕ). x < 256) (sym (get_or-take n s i 0 c)) (h i))
    (λ c. absurd (omega (arith, take_short n s))))
    (λ l. subst (λ (x : ℕ). x < 256) (sym (get_or-eq_default (take n s) 0 l)) (omega arith))
  where
    take_short : (n : ℕ) (s : List ℕ) → length (take n s) ≤ n
    take_short zero s = omega arith
    take_short (suc n) [] = omega arith
    take_short (suc n) (b ∷ s) = omega (arith, take_short n s)

-- ---- varints

shortest_one : (j v : ℕ) → 1 ≤ length (shortest j v)
shortest_one j v = encode_pos j v

-- a varint that was read is no shorter than ours of its value
pub data Least (j : ℕ) : Read → Type 0 where
  least : {v n : ℕ} → length (shortest j v) ≤ n → Least j (Took v n)
  no_least : {k : ℕ} → Least j (No k)

least_one : (j b : ℕ) → b < 128 → Least j (Took b 1)
least_one j b h = let e : length (shortest j b) ≡ 1 = ap length (shortest_ends j b h) in least {v = b} {n = 1} (omega arith)

zero_short : (x n : ℕ) → length (shortest zero x) ≤ suc n
unfolding shortest
zero_short x n = omega arith

least_digit : (j b : ℕ) (r : Read) → ((i : ℕ) → Least i r) → Least j (digit 128 (b % 128) r)
unfolding digit
least_digit j b (No k) f = no_least
least_digit zero b (Took v n) f = least (zero_short (b % 128 + 128 * v) n)
least_digit (suc j) b (Took v n) f = least (go (f j))
  where
    go : Least j (Took v n) → length (shortest (suc j) (b % 128 + 128 * v)) ≤ suc n
    go (least h) =
        lower_or_not (b % 128 + 128 * v) 128
        (λ c. omega (arith, ap length (shortest_ends (suc j) (b % 128 + 128 * v) c)))
        (λ c.
        let q : (b % 128 + 128 * v) / 128 ≡ v = omega arith in
        omega (arith, ap length (shortest_goes_on j (b % 128 + 128 * v) c), ap (λ (x : ℕ). length (shortest j x)) q))

pub varint_least : (k last j : ℕ) (s : List ℕ) → last < 128 → Least j (varint k last s)
unfolding varint
varint_least k last j [] h = no_least
varint_least zero last j (b ∷ s) h =
    chosen (Least j) (leb b last) (λ e. let l : b ≤ last = leb-true b last e in least_one j b (omega arith)) (λ e. no_least)
varint_least (suc k) last j (b ∷ s) h =
    chosen (Least j) (ltb b 128) (λ e. least_one j b (ltb-true b 128 e)) (λ e. least_digit j b _ (λ i. varint_least k last i s h))

-- of a smaller number, ours is no longer
pub shortest_mono : (j v w : ℕ) → v ≤ w → length (shortest j v) ≤ length (shortest j w)
unfolding shortest
shortest_mono zero v w h = omega arith
shortest_mono (suc j) v w h =
    lower_or_not v 128
    (λ c. omega (arith, ap length (shortest_ends (suc j) v c), shortest_one (suc j) w))
    (λ c. omega (arith, ap length (shortest_goes_on j v c), ap length (shortest_goes_on j w (omega arith)), shortest_mono j (v / 128) (w / 128) (omega arith)))

-- ---- contents

-- A content that was found has its length before it, in no fewer bytes than ours, and than ours of any shorter content.
pub data Framed (most : ℕ) : Read → Type 0 where
  framed : {a m : ℕ} → 1 ≤ a → a + m ≤ most → ((x : ℕ) → x ≤ m → length (encode x) ≤ a) → Framed most (Took a (a + m))
  no_frame : {k : ℕ} → Framed most (No k)

pub content_framed : (k last : ℕ) (s : List ℕ) → last < 128 → Framed (length s) (content (varint k last) s)
unfolding content
content_framed k last s h = go (varint k last s) (varint_least k last 9 s h) (takes_varint k last s)
  where
    go : (r : Read) → Least 9 r → Takes 1 (length s) r → Framed (length s) (spanned (length s) r)
    go (No j) l t = no_frame
    go (Took m n) (least l) (took p q) =
        chosen (Framed (length s)) (leb (n + m) (length s))
        (λ e. framed {a = n} {m = m} p (leb-true (n + m) (length s) e) (λ x i. omega (arith, shortest_mono 9 x m i))) (λ e. no_frame)

-- ---- numbers

-- a number that was read fits, and is no shorter than ours
pub data Fitting (c : Scalar) : Read → Type 0 where
  fitting : {v n : ℕ} → fits c v ≡ true → length (encoded c v) ≤ n → Fitting c (Took v n)
  no_fit : {k : ℕ} → Fitting c (No k)

pub data Below (top : ℕ) (n : ℕ) : Read → Type 0 where
  below : {v : ℕ} → v < top → Below top n (Took v n)
  no_below : {k : ℕ} → Below top n (No k)

fixed_below : (n : ℕ) (s : List ℕ) → Bytes s → Below (256 ^ n) n (fixed n s)
unfolding fixed digit
fixed_below zero s h = below {v = 0} (omega arith)
fixed_below (suc n) [] h = no_below
fixed_below (suc n) (b ∷ s) h = go (fixed_below n s (λ i. h (suc i)))
  where
    go : {r : Read} → Below (256 ^ n) n r → Below (256 ^ suc n) (suc n) (digit 256 b r)
    go (below {v} l) = let low : b < 256 = h 0 in below {v = b + 256 * v} (omega (arith, pow-suc 256 n))
    go no_below = no_below

-- a varint with what it is below and how long ours is
data Spell (top : ℕ) : Read → Type 0 where
  spell : {v n : ℕ} → 1 ≤ n → v < top → length (encode v) ≤ n → Spell top (Took v n)
  no_spell : {k : ℕ} → Spell top (No k)

varint_spell : (k last : ℕ) (s : List ℕ) → last < 128 → Spell (top k last) (varint k last s)
varint_spell k last s h = go (varint k last s) (varint_spelled k last s h) (varint_least k last 9 s h) (takes_varint k last s)
  where
    go : (r : Read) → Spelled k last s r → Least 9 r → Takes 1 (length s) r → Spell (top k last) r
    go (Took v n) (spelled m e l) (least q) (took p i) = spell p l q
    go (No j) x y z = no_spell

signed_true : (v : ℕ) → v < 2 ^ 31 → signed32 v ≡ true
signed_true v h = ap (λ (b : Bool). b || between (2 ^ 64 - 2 ^ 31) (2 ^ 64 - 1) v) (lt-ltb v (2 ^ 31) h)

signed_minus : (v : ℕ) → 2 ^ 64 - 2 ^ 31 ≤ v → v < 2 ^ 64 → signed32 v ≡ true
signed_minus v h l =
    ap (λ (b : Bool). b || between (2 ^ 64 - 2 ^ 31) (2 ^ 64 - 1) v) (le-ltb v (2 ^ 31) (omega arith))
    ∙ both_true (le-leb (2 ^ 64 - 2 ^ 31) v h) (le-leb v (2 ^ 64 - 1) (omega arith))

signed_unzigzag : (n : ℕ) → n < 2 ^ 32 → signed32 (unzigzag n) ≡ true
unfolding unzigzag
signed_unzigzag n h =
    lower_or_not (n % 2) 1
    (λ c. ap (λ (b : Bool). signed32 (if b then n / 2 else 2 ^ 64 - 1 - n / 2)) (eq-eqb (n % 2) 0 (omega arith)) ∙ signed_true (n / 2) (omega arith))
    (λ c. ap (λ (b : Bool). signed32 (if b then n / 2 else 2 ^ 64 - 1 - n / 2)) (ne_eqb (n % 2) 0 (λ e. omega arith))
    ∙ signed_minus (2 ^ 64 - 1 - n / 2) (omega arith) (omega arith))

unzigzag_below : (n : ℕ) → n < 2 ^ 64 → unzigzag n < 2 ^ 64
unfolding unzigzag
unzigzag_below n h = either_way (λ (x : ℕ). x < 2 ^ 64) (eqb (n % 2) 0) (omega arith) (omega arith)

signed_extend : (v : ℕ) → v < 2 ^ 32 → signed32 (extend v) ≡ true
unfolding extend
signed_extend v h =
    lower_or_not v (2 ^ 31)
    (λ c. ap (λ (b : Bool). signed32 (if b then v else v + (2 ^ 64 - 2 ^ 32))) (lt-ltb v (2 ^ 31) c) ∙ signed_true v c)
    (λ c. ap (λ (b : Bool). signed32 (if b then v else v + (2 ^ 64 - 2 ^ 32))) (le-ltb v (2 ^ 31) c) ∙ signed_minus (v + (2 ^ 64 - 2 ^ 32)) (omega arith) (omega arith))

pub scalar_fits : (c : Scalar) (s : List ℕ) → Bytes s → Fitting c (scalar c s)
unfolding scalar meaning require fits encoded
scalar_fits int32 s h = go (varint_spell 9 1 s (omega arith))
  where
    go : {r : Read} → Spell (top 9 1) r → Fitting int32 (require out_of_range signed32 r)
    go (spell {v} p l q) = chosen (Fitting int32) (signed32 v) (λ e. fitting e q) (λ e. no_fit)
    go no_spell = no_fit
scalar_fits uint32 s h = go (varint_spell 4 15 s (omega arith))
  where
    go : {r : Read} → Spell (top 4 15) r → Fitting uint32 r
    go (spell {v} p l q) = fitting (lt-ltb v (2 ^ 32) l) q
    go no_spell = no_fit
scalar_fits uint64 s h = go (varint_spell 9 1 s (omega arith))
  where
    go : {r : Read} → Spell (top 9 1) r → Fitting uint64 r
    go (spell {v} p l q) = fitting (lt-ltb v (2 ^ 64) l) q
    go no_spell = no_fit
scalar_fits bool s h = go (varint_spell 9 1 s (omega arith))
  where
    go : {r : Read} → Spell (top 9 1) r → Fitting bool (meaning (min 1) r)
    go (spell {v} {n} p l q) =
        let small : min 1 v < 2 = omega arith in
        fitting {v = min 1 v} {n = n} (lt-ltb (min 1 v) 2 small) (omega (arith, ap length (shortest_ends 9 (min 1 v) (omega arith))))
    go no_spell = no_fit
scalar_fits sint32 s h = go (varint_spell 4 15 s (omega arith))
  where
    go : {r : Read} → Spell (top 4 15) r → Fitting sint32 (meaning unzigzag r)
    go (spell {v} {n} p l q) = fitting {v = unzigzag v} {n = n} (signed_unzigzag v l) (omega (arith, ap (λ (x : ℕ). length (encode x)) (zigzag_there v (omega arith))))
    go no_spell = no_fit
scalar_fits sint64 s h = go (varint_spell 9 1 s (omega arith))
  where
    go : {r : Read} → Spell (top 9 1) r → Fitting sint64 (meaning unzigzag r)
    go (spell {v} {n} p l q) =
        fitting {v = unzigzag v} {n = n} (lt-ltb (unzigzag v) (2 ^ 64) (unzigzag_below v l)) (omega (arith, ap (λ (x : ℕ). length (encode x)) (zigzag_there v l)))
    go no_spell = no_fit
scalar_fits fixed32 s h = go (fixed_below 4 s h)
  where
    go : {r : Read} → Below (256 ^ 4) 4 r → Fitting fixed32 r
    go (below {v} l) = fitting {v = v} {n = 4} (lt-ltb v (2 ^ 32) l) (omega (arith, length_little 4 v))
    go no_below = no_fit
scalar_fits sfixed32 s h = go (fixed_below 4 s h)
  where
    go : {r : Read} → Below (256 ^ 4) 4 r → Fitting sfixed32 (meaning extend r)
    go (below {v} l) = fitting {v = extend v} {n = 4} (signed_extend v l) (omega (arith, length_little 4 (extend v)))
    go no_below = no_fit
scalar_fits fixed64 s h = go (fixed_below 8 s h)
  where
    go : {r : Read} → Below (256 ^ 8) 8 r → Fitting fixed64 r
    go (below {v} l) = fitting {v = v} {n = 8} (lt-ltb v (2 ^ 64) l) (omega (arith, length_little 8 v))
    go no_below = no_fit
