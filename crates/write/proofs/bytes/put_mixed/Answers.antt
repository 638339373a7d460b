-- `write::bytes::put_mixed` meets its contract: three bytes are stored, of which the varint is the last, or the general way. Assumes nothing.
use Prim.Native.Nat.{ℕ, ◌+◌, ◌-◌, ◌*◌, ◌/◌, ◌%◌, ◌≤◌, ◌<◌}
use mathlib.Core.Path.{◌≡◌, refl, sym, ap, ap₂, ◌∙◌}
use mathlib.Core.List.{List, [], ◌∷◌}
use native.Mathlib.Omega.{arith}
use lib.ListN.{length, set, length-set}
use Rattle.spec.specs.Varint.{encode}
use Rattle.write.specs.Backward.{Stored, three_bytes, four_bytes, two_groups}
use Rattle.write.proofs.EncodeLaws.{encode_ends, encode_two, encode_three}
use Rattle.write.proofs.StoreLaws.{stored_as, stored_at, stored_end, stored_three}
use Rattle.write.proofs.bytes.put_mixed.Goals as goal
use Rattle.write.proofs.bytes.put_mixed.Goals.{then-v-ge-THREE_BYTES, else-v-ge-THREE_BYTES, then-v-ge-TWO_BYTES, else-v-ge-TWO_BYTES}

-- three bytes before p, the last of which are the varint of v
module _ (v p z q : ℕ) (out : List ℕ) (h : 3 ≤ p) (l : p ≤ length out) where
  abbrev three : List ℕ
  three = set (set (set out (p - 3) (128 + z % 128)) (p - 2) (128 + z / 128 % 128)) (p - 1) (z / two_groups)

  -- the last of three bytes
  three_stored : Stored ((128 + z % 128) ∷ (128 + z / 128 % 128) ∷ (z / two_groups) ∷ []) p out (p - 3) three
  three_stored = stored_three (128 + z % 128) (128 + z / 128 % 128) (z / two_groups) p out h l

  of_one : v < 128 → z ≡ v * two_groups → q ≡ p - 1 → Stored (encode v) p out q three
  of_one f e g =
      let last : z / two_groups ≡ v = omega arith in
      stored_end ((128 + z % 128) ∷ (128 + z / 128 % 128) ∷ []) (encode v)
      (stored_as (ap (λ (n : ℕ). (128 + z % 128) ∷ (128 + z / 128 % 128) ∷ n ∷ []) last ∙ ap (λ (x : List ℕ). (128 + z % 128) ∷ (128 + z / 128 % 128) ∷ x) (sym (encode_ends v f))) three_stored)
      (omega (arith, ap length (encode_ends v f)))

  of_two : 128 ≤ v → v < three_bytes → z ≡ v * 128 → q ≡ p - 2 → Stored (encode v) p out q three
  of_two k f e g =
      let first : 128 + z / 128 % 128 ≡ 128 + v % 128 = omega arith in
      let last : z / two_groups ≡ v / 128 = omega arith in
      let same : (128 + z / 128 % 128) ∷ (z / two_groups) ∷ [] ≡ encode v = ap₂ (λ (x y : ℕ). x ∷ y ∷ []) first last ∙ sym (encode_two v k f) in
      stored_end ((128 + z % 128) ∷ []) (encode v) (stored_as (ap (◌∷◌ (128 + z % 128)) same) three_stored) (omega (arith, ap length same))

  of_three : three_bytes ≤ v → v < four_bytes → z ≡ v → q ≡ p - 3 → Stored (encode v) p out q three
  of_three k f e g =
      let last : z / two_groups ≡ v / 128 / 128 = omega arith in
      let same : (128 + z % 128) ∷ (128 + z / 128 % 128) ∷ (z / two_groups) ∷ [] ≡ encode v =
      ap₂ (λ (n m : ℕ). (128 + n % 128) ∷ (128 + n / 128 % 128) ∷ m ∷ []) e last ∙ sym (encode_three v k f) in
      stored_at (stored_as same three_stored) g refl

pub bounds-out-p-2 : goal.bounds-out-p-2
bounds-out-p-2 c = simp length-set (omega arith)

pub bounds-out-p-3 : goal.bounds-out-p-3
bounds-out-p-3 c = simp length-set (omega arith)

pub returns : goal.returns
returns c =
    let v = c.args.v in
    let p = c.args.p in
    let n = c.args.out.now in
    let z = c.if-v-ge-THREE_BYTES.z in
    let q = c.if-v-ge-THREE_BYTES.q in
    elim c.if-v-ge-THREE_BYTES.branch [
      | then-v-ge-THREE_BYTES w ↦ of_three v p z q n (omega arith) c.requires.inside w.if-v-ge-THREE_BYTES.true (omega arith) w.z-is w.q-is
      | else-v-ge-THREE_BYTES w ↦
          elim c.if-v-ge-TWO_BYTES.branch [
            | then-v-ge-TWO_BYTES u ↦
                of_two v p z q n (omega arith) c.requires.inside u.if-v-ge-TWO_BYTES.true (omega (arith, w.if-v-ge-THREE_BYTES.false)) (w.z-is ∙ u.z-is) (w.q-is ∙ u.q-is)
            | else-v-ge-TWO_BYTES u ↦ of_one v p z q n (omega arith) c.requires.inside (omega (arith, u.if-v-ge-TWO_BYTES.false)) (w.z-is ∙ u.z-is) (w.q-is ∙ u.q-is)
          ]
    ]
