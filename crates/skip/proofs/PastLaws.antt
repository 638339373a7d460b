-- Laws of a position after what was read: of varints, fixed values and contents, and of one reading after another.
-- Assumes nothing.
use Prim.Native.Nat.{ℕ, zero, suc, ◌+◌, ◌-◌, ◌*◌, ◌%◌, ◌≤◌, ◌<◌}
use native.Mathlib.Omega.{arith}
use native.Mathlib.Numerals.{add-one}
use native.Mathlib.Nat.{add_assoc}
use mathlib.Core.Path.{◌≡◌, refl, sym, ap, ◌∙◌}
use mathlib.Core.Bool.{true, false}
use mathlib.Core.List.{List, [], ◌∷◌}
use lib.ListN.{length, drop, get_or, length-drop}
use lib.Seq.{drop-cons, drop-drop}
use borrow.Author.Tests.{le-leb, lt-leb}
use Rattle.spec.specs.Names.{bad_tag, ends_early}
use Rattle.spec.specs.Base.{Read, Took, No, longer, require, digit}
use Rattle.spec.specs.Varint.{varint, varint32, fixed, tag, good_tag}
use Rattle.spec.specs.Skip.{content}
use Rattle.spec.proofs.Laws.{chosen}
use Rattle.spec.proofs.VarintLaws.{top, varint_ends, varint_goes_on}
use Rattle.wire.proofs.FoundLaws.{Placed, varint_placed}
use Rattle.wire.specs.Answers.{value_at}
use Rattle.std.specs.Prelude.{Ok, Err}
use Rattle.spec.specs.Told.{number_of, refusal_of}
use Rattle.spec.specs.declared.refusals.Refusal.{Refusal}
use Rattle.spec.specs.declared.refusals.Refusal.TheVariants.{EndsEarly}
use Rattle.spec.proofs.ToldLaws.{refusal_of-number}
use Rattle.skip.specs.Passed.{behind}

-- ---- what was read took n bytes, whatever its value

pub data Ends (n : ℕ) : Read → Type 0 where
  ends : {v : ℕ} → Ends n (Took v n)

pub ends_behind : (at n : ℕ) {r : Read} → Ends n r → Ok (at + n) ≡ behind at r
unfolding behind
ends_behind at n ends = refl

ends_digit : (base b : ℕ) {n : ℕ} {r : Read} → Ends n r → Ends (suc n) (digit base b r)
unfolding digit
ends_digit base b ends = ends

behind_digit : (at base b : ℕ) (r : Read) → behind at (digit base b r) ≡ behind (at + 1) r
unfolding behind digit
behind_digit at base b (Took v n) = ap Ok (omega arith)
behind_digit at base b (No k) = refl

-- a varint: its last byte is below 128
module _ (k last at : ℕ) (s : List ℕ) (inside : at < length s) where
  pub one_byte : get_or s at 0 < 128 → varint (suc k) last (drop at s) ≡ Took (get_or s at 0) 1
  one_byte h = rw (drop-cons s at 0) (varint_ends k last (get_or s at 0) (drop (suc at) s) h)

  pub later_byte : {v n : ℕ} → 128 ≤ get_or s at 0 → varint k last (drop (at + 1) s) ≡ Took v n → varint (suc k) last (drop at s) ≡ Took (get_or s at 0 % 128 + 128 * v) (suc n)
  unfolding digit
  later_byte l e = rw (drop-cons s at 0, varint_goes_on k last (get_or s at 0) (drop (suc at) s) l, ← add-one at, e)

  pub ends_here : get_or s at 0 < 128 → Ends 1 (varint (suc k) last (drop at s))
  ends_here h = rw (one_byte h) ends

  -- and after a byte that is not, the rest
  pub behind_byte : 128 ≤ get_or s at 0 → behind at (varint (suc k) last (drop at s)) ≡ behind (at + 1) (varint k last (drop (at + 1) s))
  behind_byte h =
      rw (drop-cons s at 0, varint_goes_on k last (get_or s at 0) (drop (suc at) s) h) (behind_digit at 128 _ _ ∙ rw add-one refl)

-- a fixed value: as many bytes as it has, where they are there
pub fixed_ends : (n : ℕ) (s : List ℕ) → n ≤ length s → Ends n (fixed n s)
unfolding fixed
fixed_ends zero s h = ends
fixed_ends (suc n) [] h = absurd (omega arith)
fixed_ends (suc n) (b ∷ s) h = ends_digit 256 b (fixed_ends n s (omega arith))

-- a content: its length, and as many bytes
module _ (len : List ℕ → Read) (s : List ℕ) where
  module _ {m n : ℕ} (e : len s ≡ Took m n) where
    pub content_ends : n + m ≤ length s → Ends (n + m) (content len s)
    unfolding content
    content_ends h = rw (e, le-leb (n + m) (length s) h) ends

    pub content_took : n + m ≤ length s → content len s ≡ Took n (n + m)
    unfolding content
    content_took h = rw (e, le-leb (n + m) (length s) h) refl

    pub content_short : length s < n + m → content len s ≡ No ends_early
    unfolding content
    content_short h = rw (e, lt-leb (n + m) (length s) h) refl

  pub content_refused : {k : ℕ} → len s ≡ No k → content len s ≡ No k
  unfolding content
  content_refused e = rw e refl

-- ---- a tag: the varint, if it is a good one

module _ (s : List ℕ) where
  pub tag_refused : {k : ℕ} → varint32 s ≡ No k → tag s ≡ No k
  unfolding tag require
  tag_refused e = rw e refl

  module _ {v n : ℕ} (e : varint32 s ≡ Took v n) where
    pub tag_good : good_tag v ≡ true → tag s ≡ Took v n
    unfolding tag require
    tag_good g = rw (e, g) refl

    pub tag_bad : good_tag v ≡ false → tag s ≡ No bad_tag
    unfolding tag require
    tag_bad g = rw (e, g) refl

  -- a tag that was read is a varint
  pub tag_varint : {t n : ℕ} → Took t n ≡ tag s → Took t n ≡ varint32 s
  unfolding tag require
  tag_varint {t} {n} e = go (varint32 s) e
    where
      go : (r : Read) → Took t n ≡ require bad_tag good_tag r → Took t n ≡ r
      go (Took v m) e =
          chosen (λ x. Took t n ≡ x → Took t n ≡ Took v m) (good_tag v) (λ g q. q) (λ g q. let z : ◌≡◌ {A = ℕ} 0 1 = cc in absurd (omega arith)) e
      go (No k) e = e

-- so the position that is returned with it lies after it and within the bytes, and it is below 2 ^ 32
pub tag_placed : (s : List ℕ) (at t next : ℕ) → Took t (next - at) ≡ tag (drop at s) → Placed (top 4 15) s at t next
tag_placed s at t next e = varint_placed 4 15 s at {f = value_at t next} (tag_varint (drop at s) e) refl

-- ---- positions

pub refused_behind : (at : ℕ) {k : Refusal} {r : Read} → r ≡ No (number_of k) → Err k ≡ behind at r
unfolding behind
refused_behind at {k} e = rw (e, refusal_of-number k) refl

pub behind_longer : (at n : ℕ) (r : Read) → behind at (longer n r) ≡ behind (at + n) r
unfolding behind longer
behind_longer at n (Took v m) = ap Ok (sym (add_assoc at n m))
behind_longer at n (No k) = refl

-- what was read, where the position after it is known
pub data Behind (at next : ℕ) : Read → Type 0 where
  stands : {v n : ℕ} → at + n ≡ next → Behind at next (Took v n)

pub behind_of : (at next : ℕ) (r : Read) → Ok next ≡ behind at r → Behind at next r
unfolding behind
behind_of at next (Took v n) e = stands (let q : next ≡ at + n = cc in sym q)
behind_of at next (No k) e = let z : ◌≡◌ {A = ℕ} 0 1 = cc in absurd (omega arith)

-- what was refused
pub data Refuses (k : Refusal) : Read → Type 0 where
  refuses : {j : ℕ} → refusal_of j ≡ k → Refuses k (No j)

pub refused_of : (at : ℕ) (k : Refusal) (r : Read) → Err k ≡ behind at r → Refuses k r
unfolding behind
refused_of at k (Took v n) e = let z : ◌≡◌ {A = ℕ} 0 1 = cc in absurd (omega arith)
refused_of at k (No j) e = refuses (cc)

-- the bytes at a later position
pub drop_to : (at next : ℕ) (s : List ℕ) → at ≤ next → drop (next - at) (drop at s) ≡ drop next s
drop_to at next s h = let q : at + (next - at) ≡ next = omega arith in drop-drop (next - at) at s ∙ ap (λ (i : ℕ). drop i s) q

-- a content whose length is known, and the bytes after it
module _ (at m next : ℕ) (s : List ℕ) (e : Took m (next - at) ≡ varint32 (drop at s)) where
  pub length_placed : Placed (top 4 15) s at m next
  length_placed = varint_placed 4 15 s at {f = value_at m next} e refl

  pub content_behind : next + m ≤ length s → Ok (next + m) ≡ behind at (content varint32 (drop at s))
  content_behind h =
      let b = length_placed in
      let q : at + (next - at + m) ≡ next + m = omega arith in
      rw (← q) (ends_behind at (next - at + m) (content_ends varint32 (drop at s) (sym e) (rw length-drop (omega arith))))

  pub content_cut : length s < next + m → Err EndsEarly ≡ behind at (content varint32 (drop at s))
  content_cut h = let b = length_placed in refused_behind at (content_short varint32 (drop at s) (sym e) (rw length-drop (omega arith)))
