-- A content at a position, from its length: what the message reader and the pull reader find. Assumes nothing.
use Prim.Native.Nat.{ℕ, ◌+◌, ◌-◌, ◌≤◌, ◌<◌}
use native.Mathlib.Omega.{arith}
use mathlib.Core.Path.{◌≡◌, refl, sym, ap, ap₂, ◌∙◌}
use mathlib.Core.Bool.{Bool, true, false}
use mathlib.Core.List.{List}
use lib.ListN.{length, take, drop, length-take, length-drop}
use lib.Seq.{length-take-le, drop-drop}
use Rattle.spec.specs.Base.{part, Read, Took, No}
use Rattle.spec.specs.Utf8.{valid_prefix, utf8, valid_end}
use Rattle.spec.specs.Skip.{content}
use Rattle.spec.proofs.Laws.{Takes, takes_varint, Holds, holds, content_holds}
use Rattle.spec.proofs.Utf8Laws.{valid_le, all_valid, part_valid}
use Rattle.wire.specs.Answers.{as_read, value_at}
use Rattle.wire.specs.Reached.{varint_of}
use Rattle.wire.proofs.FoundLaws.{varint_placed}
use Rattle.std.specs.Prelude.{Result, Ok, Err}
use Rattle.spec.specs.Told.{number_of, refusal_of}
use Rattle.spec.specs.declared.refusals.Refusal.{Refusal}
use Rattle.spec.specs.declared.refusals.Refusal.TheVariants.{EndsEarly}
use Rattle.spec.proofs.ToldLaws.{refusal_of-number}
use Rattle.skip.specs.declared.content.Span.{Span}
use Rattle.skip.specs.Spans.{content_at, span_at}
use Rattle.skip.proofs.KnownLaws.{Known, was_read, refused_by}
use Rattle.skip.proofs.PastLaws.{content_took, content_short, content_refused}

-- a length ends after it starts, and in the slice
pub width_placed : (narrow : Bool) (s : List ℕ) (at : ℕ) {v next : ℕ} → as_read at (value_at v next) ≡ varint_of narrow (drop at s) → (at < next) × (next ≤ length s)
width_placed true s at e = let p = varint_placed 4 15 s at e refl in (p.past, p.inside)
width_placed false s at e = let p = varint_placed 9 1 s at e refl in (p.past, p.inside)

module _ (len : List ℕ → Read) (at : ℕ) (s : List ℕ) where
  pub span_refused : {k : Refusal} → len (drop at s) ≡ No (number_of k) → Err k ≡ span_at at (content len (drop at s))
  unfolding span_at
  span_refused {k} e = rw (content_refused len (drop at s) e, refusal_of-number k) refl

  module _ {m n : ℕ} (e : len (drop at s) ≡ Took m n) where
    pub span_short : at ≤ length s → length s < at + n + m → Err EndsEarly ≡ span_at at (content len (drop at s))
    unfolding span_at refusal_of
    span_short l h = rw (content_short len (drop at s) e (omega (arith, length-drop at s))) refl

    pub span_of : at + n + m ≤ length s → {a z : ℕ} → a ≡ at + n → z ≡ at + n + m → content_at a z ≡ span_at at (content len (drop at s))
    unfolding span_at
    span_of h p q = rw (content_took len (drop at s) e (omega (arith, length-drop at s))) (ap₂ content_at p (q ∙ omega arith))

-- the bounds of a content that was found
start_of : Result Span Refusal → ℕ
start_of (Ok f) = f.start
start_of (Err k) = 0

stop_of : Result Span Refusal → ℕ
stop_of (Ok f) = f.end
stop_of (Err k) = 0

pub same_bounds : {a z b y : ℕ} → content_at a z ≡ content_at b y → (a ≡ b) × (z ≡ y)
unfolding start_of stop_of
same_bounds q = (ap start_of q, ap stop_of q)

takes_length : (narrow : Bool) (s : List ℕ) → Takes 1 (length s) (varint_of narrow s)
takes_length true s = takes_varint 4 15 s
takes_length false s = takes_varint 9 1 s

-- a content lies in the slice
pub span_in : (narrow : Bool) (at : ℕ) (s : List ℕ) {a e : ℕ} → content_at a e ≡ span_at at (content (varint_of narrow) (drop at s)) → (at ≤ a) × (a ≤ e) × (e ≤ length s)
unfolding span_at
span_in narrow at s {a} {e} h =
    go (content (varint_of narrow) (drop at s)) (content_holds (varint_of narrow) (drop at s) (takes_length narrow (drop at s))) h
  where
    go : (r : Read) → Holds (length (drop at s)) r → content_at a e ≡ span_at at r → (at ≤ a) × (a ≤ e) × (e ≤ length s)
    go (Took m n) (holds i j l) q =
        let same = same_bounds q in
        (omega (arith, same.0), omega (arith, same.0, same.1), omega (arith, same.1, length-drop at s))
    go (No k) Holds.none q = let z : ◌≡◌ {A = ℕ} 0 1 = cc in absurd (omega arith)

-- what was refused
pub span_no : (at : ℕ) {r : Read} → Known r → {k : Refusal} → Err k ≡ span_at at r → r ≡ No (number_of k)
unfolding span_at
span_no at was_read q = let z : ◌≡◌ {A = ℕ} 0 1 = cc in absurd (omega arith)
span_no at (refused_by j) {k} q = let x : k ≡ refusal_of (number_of j) = cc in ap (λ (i : Refusal). No (number_of i)) (sym (x ∙ refusal_of-number j))

-- ---- a string's content

-- A content that was found from a up to e, of which the first n bytes are valid, as the definitions say it: all of it is valid, or it is broken at a + n.
pub record Checked (at : ℕ) (s : List ℕ) (r : Read) (a e n : ℕ) : Type 0 where
  pub m : ℕ
  pub z : ℕ
  pub reads : r ≡ Took m z
  pub starts : a ≡ at + m
  pub stops : e ≡ at + z
  pub valid_to : a + n ≡ at + valid_end m z (drop at s)
  pub whole : e ≤ a + n → utf8 (part m z (drop at s)) ≡ true
  pub broken : a + n < e → utf8 (part m z (drop at s)) ≡ false

-- a content that was found stands where the definitions have it
pub span_part : (at : ℕ) (s : List ℕ) (m z : ℕ) {a e : ℕ} → content_at a e ≡ span_at at (Took m z) → (a ≡ at + m) × (e ≡ at + z) × (take (e - a) (drop a s) ≡ part m z (drop at s))
unfolding span_at
span_part at s m z {a} {e} q =
    let same = same_bounds q in
    let w : e - a ≡ z - m = omega (arith, same.0, same.1) in
    (same.0, same.1, rw (w, same.0, ← drop-drop m at s) refl)

-- what is valid of it ends in it
pub valid_inside : (a e : ℕ) (s : List ℕ) {n : ℕ} → n ≡ valid_prefix (take (e - a) (drop a s)) → n ≤ e - a
valid_inside a e s v = omega (arith, valid_le (take (e - a) (drop a s)), length-take (e - a) (drop a s))

pub checked : (at : ℕ) (s : List ℕ) (r : Read) {a e n : ℕ} → content_at a e ≡ span_at at r → a ≤ e → e ≤ length s → n ≡ valid_prefix (take (e - a) (drop a s)) → Checked at s r a e n
unfolding span_at
checked at s (Took m z) {a} {e} {n} q i l v =
    let found = span_part at s m z q in
    let c : List ℕ = part m z (drop at s) in
    let valid : n ≡ valid_prefix c = v ∙ ap valid_prefix found.2 in
    let long : length c ≡ e - a = sym (ap length found.2) ∙ length-take-le (e - a) (drop a s) (omega (arith, length-drop a s)) in
    record {
      m = m;
      z = z;
      reads = refl;
      starts = found.0;
      stops = found.1;
      valid_to = omega (arith, found.0);
      whole = λ h. all_valid c (omega arith);
      broken = λ h. part_valid c (omega arith);
    }
checked at s (No k) q i l v = let z : ◌≡◌ {A = ℕ} 0 1 = cc in absurd (omega arith)
