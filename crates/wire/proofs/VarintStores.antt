-- Storing the shortest varint a byte at a time: its two equations with no bound on the bytes in them, and what each store leaves to be done.
-- Assumes nothing.
use Prim.Native.Nat.{ℕ, zero, suc, ◌+◌, ◌/◌, ◌%◌, ◌^◌, ◌≤◌, ◌<◌}
use native.Mathlib.Nat.{pow-suc}
use native.Mathlib.Numerals.{add-one}
use native.Mathlib.Omega.{arith}
use mathlib.Core.Path.{◌≡◌, refl, sym, ap, ◌∙◌}
use mathlib.Core.List.{List, [], ◌∷◌}
use lib.ListN.{length, set, length-set}
use lib.Seq.{sets}
use Rattle.spec.specs.Varint.{shortest, encode}
use Rattle.spec.proofs.VarintLaws.{lower_or_not, shortest_ends, shortest_goes_on, shortest_rung, power_less, rung_from, rung_upto}

-- one byte more than is needed changes nothing
enough : (k v : ℕ) → v < 128 ^ suc k → shortest (suc k) v ≡ shortest k v
enough zero v h = shortest_ends 1 v h ∙ sym (shortest_ends 0 v h)
enough (suc k) v h =
    lower_or_not v 128
    (λ c. shortest_ends (suc (suc k)) v c ∙ sym (shortest_ends (suc k) v c))
    (λ c. shortest_goes_on (suc k) v c
    ∙ ap (λ (l : List ℕ). (128 + v % 128) ∷ l) (enough k (v / 128) (omega (arith, pow-suc 128 (suc k))))
    ∙ sym (shortest_goes_on k v c))

pub encode_ends : (v : ℕ) → v < 128 → encode v ≡ v ∷ []
encode_ends v h = shortest_ends 9 v h

pub encode_goes_on : (v : ℕ) → 128 ≤ v → v < 2 ^ 64 → encode v ≡ (128 + v % 128) ∷ encode (v / 128)
encode_goes_on v h below = shortest_goes_on 8 v h ∙ ap (λ (l : List ℕ). (128 + v % 128) ∷ l) (sym (enough 8 (v / 128) (omega arith)))

-- from k groups of seven bits on it has more than k bytes, and k groups take at most k bytes: the ladder of sizes
pub bytes_beyond : (k v : ℕ) → 128 ^ k ≤ v → v < 2 ^ 64 → k < length (encode v)
bytes_beyond k v h below = rung_from k (shortest_rung 9 v) (power_less k 10 v h (omega arith)) h

pub bytes_within : (k v : ℕ) → 1 ≤ k → v < 128 ^ k → length (encode v) ≤ k
bytes_within k v some h = rung_upto k (shortest_rung 9 v) some h

-- v stands to be stored at i of `out`, which then is what storing the whole makes of the slice as it was
pub record Storing (value : ℕ) (before : List ℕ) (at : ℕ) (out : List ℕ) (v i : ℕ) : Type 0 where
  pub same : sets out i (encode v) ≡ sets before at (encode value)
  pub place : i + length (encode v) ≡ at + length (encode value)
  pub long : length out ≡ length before
  pub room : i + length (encode v) ≤ length out
  pub below : v < 2 ^ 64

pub storing_begins : {value at : ℕ} {before : List ℕ} → at + length (encode value) ≤ length before → value < 2 ^ 64 → Storing value before at before value at
storing_begins h below = record { same = refl; place = refl; long = refl; room = h; below = below }

-- v is what is left of it
pub storing_left : {value at v i : ℕ} {before out : List ℕ} → i + length (encode v) ≡ at + length (encode value) → sets out i (encode v) ≡ sets before at (encode value)
    → length out ≡ length before → at + length (encode value) ≤ length before → v < 2 ^ 64 → Storing value before at out v i
storing_left place same long h below = record { same = same; place = place; long = long; room = omega arith; below = below }

module _ {value : ℕ} {before : List ℕ} {at : ℕ} {out : List ℕ} {v i : ℕ} (h : Storing value before at out v i) where
  -- one run of stores after another
  pub storing_on : {out' : List ℕ} {v' i' : ℕ} → Storing v out i out' v' i' → Storing value before at out' v' i'
  storing_on g = record { same = g.same ∙ h.same; place = g.place ∙ h.place; long = g.long ∙ h.long; room = g.room; below = g.below }

  -- a byte after which another comes; j is the next position
  pub stored_byte : 128 ≤ v → {j : ℕ} → j ≡ i + 1 → Storing value before at (set out i (128 + v % 128)) (v / 128) j
  stored_byte big e =
      let more = encode_goes_on v big h.below in
      record {
        same = rw (e, add-one) (rw more at h.same);
        place = omega (arith, ap length more);
        long = simp length-set h.long;
        room = simp length-set (omega (arith, ap length more));
        below = omega arith;
      }

  -- the last byte
  pub stored_last : v < 128 → {j : ℕ} → j ≡ i + 1 → (j ≡ at + length (encode value)) × (set out i v ≡ sets before at (encode value))
  stored_last small e =
      let one = encode_ends v small in
      (omega (arith, ap length one), rw one at h.same)
