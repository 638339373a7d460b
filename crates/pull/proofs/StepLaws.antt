-- Laws of the steps: each says an answer of the code in the definitions' terms; and that any two answers to a call are equal.
-- Assumes nothing.
use Prim.Native.Nat.{ℕ, suc, ◌+◌, ◌*◌, ◌%◌, ◌≤◌, ◌<◌}
use native.Mathlib.Omega.{arith}
use mathlib.Core.Path.{◌≡◌, refl, sym, ap, ap₂, ◌∙◌}
use mathlib.Core.Bool.{Bool, true, false}
use mathlib.Core.List.{List}
use lib.ListN.{length, drop, get_or}
use Rattle.spec.specs.Names.{most_levels, not_utf8}
use Rattle.spec.specs.Base.{Read, Took, No}
use Rattle.spec.specs.Varint.{varint, varint64}
use Rattle.spec.specs.Skip.{content}
use Rattle.spec.specs.Pull as spec
use Rattle.spec.specs.Pull.{says, moved, numbered, bounded, spelled, inner_of, enter_at}
use Rattle.spec.proofs.Laws.{Takes, took}
use Rattle.spec.proofs.PullLaws.{enter_too_deep, enter_content}
use Rattle.skip.proofs.PastLaws.{one_byte, later_byte}
use Rattle.wire.specs.Answers as wire
use Rattle.wire.specs.Reached.{varint_of}
use Rattle.std.specs.Prelude.{Result, Ok, Err}
use Rattle.spec.specs.Told as told
use Rattle.spec.specs.declared.refusals.Refusal.{Refusal}
use Rattle.spec.specs.declared.refusals.Refusal.TheVariants.{TooDeep}
use Rattle.spec.proofs.ToldLaws.{refusal_of-number}
use Rattle.wire.specs.declared.found.Found.{Found}
use Rattle.skip.specs.Spans.{content_at, span_at}
use Rattle.skip.proofs.KnownLaws.{Known, was_read, refused_by, known_content}
use Rattle.skip.proofs.SpanLaws.{same_bounds, span_in, span_no, Checked}
use Rattle.pull.specs.declared.step.Said.{Said}
use Rattle.pull.specs.declared.step.Said.TheVariants as said
use Rattle.pull.specs.declared.step.Refused.{Refused}
use Rattle.pull.specs.declared.step.Moved.{Moved}
use Rattle.pull.specs.Told.{said_told, as_moved, number_of, content_of, shut_at, Gated}

-- ---- varints of few bytes, which are the same at both widths

at_width : (narrow : Bool) (at v n : ℕ) (s : List ℕ) → ((k last : ℕ) → varint (suc (suc (suc k))) last (drop at s) ≡ Took v n) → wire.as_read at (wire.value_at v (at + n)) ≡ varint_of narrow (drop at s)
at_width true at v n s h = ap (Took v) (omega arith) ∙ sym (h 1 15)
at_width false at v n s h = ap (Took v) (omega arith) ∙ sym (h 6 1)

module _ (narrow : Bool) (at : ℕ) (s : List ℕ) (inside : at < length s) where
  pub one_told : get_or s at 0 < 128 → wire.as_read at (wire.value_at (get_or s at 0) (at + 1)) ≡ varint_of narrow (drop at s)
  one_told h = at_width narrow at (get_or s at 0) 1 s (λ k last. one_byte (suc (suc k)) last at s inside h)

  pub two_told : 128 ≤ get_or s at 0 → at + 1 < length s → get_or s (at + 1) 0 < 128 → {v : ℕ} → v ≡ get_or s at 0 % 128 + get_or s (at + 1) 0 * 128
      → wire.as_read at (wire.value_at v (at + 2)) ≡ varint_of narrow (drop at s)
  two_told b i h {v} e =
      at_width narrow at v 2 s (λ k last. later_byte (suc (suc k)) last at s inside b (one_byte (suc k) last (at + 1) s i h) ∙ ap (λ (x : ℕ). Took x 2) (omega arith))

-- ---- numbers

least : {l most v n : ℕ} → Takes l most (Took v n) → l ≤ n
least (took h j) = h

pub number_told : (at : ℕ) {most : ℕ} (f : Result Found Refusal) {r : Read} → Takes 1 most r → wire.as_read at f ≡ r → as_moved (number_of at f) ≡ numbered at r
unfolding moved
number_told at (Ok f) t e = rw (← e) (ap (λ (x : ℕ). says (spec.Number f.value) x) (omega (arith, least (rw (← e) at t))))
number_told at (Err k) t e = rw (← e) refl

-- ---- contents

pub content_told : (at : ℕ) {r : Read} → Known r → as_moved (content_of at (span_at at r)) ≡ bounded at r
unfolding span_at moved
content_told at was_read = refl
content_told at (refused_by k) = rw (refusal_of-number k) refl

-- a string, by how much of it is valid
module _ (at : ℕ) (s : List ℕ) where
  module _ (r : Read) {a e n : ℕ} (c : Checked at s r a e n) where
    pub text_told : e ≤ a + n → says (spec.Content a e) e ≡ spelled at (drop at s) r
    unfolding spelled moved
    text_told h = rw (c.reads, c.whole h, c.starts, c.stops) refl

    pub text_broken : a + n < e → says (spec.Refused not_utf8 (a + n)) at ≡ spelled at (drop at s) r
    unfolding spelled moved
    text_broken h = rw (c.reads, c.broken h) (ap (λ (p : ℕ). says (spec.Refused not_utf8 p) at) c.valid_to)

  pub text_refused : {r : Read} → Known r → {k : Refusal} → Err k ≡ span_at at r → says (spec.Refused (told.number_of k) at) at ≡ spelled at (drop at s) r
  unfolding spelled moved
  text_refused h q = rw (span_no at h q) refl

-- ---- entering

module _ (s : List ℕ) (at level : ℕ) where
  shut_gated : (k : Refusal) → enter_at s at level ≡ says (spec.Refused (told.number_of k) at) at → Gated s at level (shut_at k at level)
  unfolding inner_of
  shut_gated k e = record { moves = sym e; inner = rw e refl; ordered = omega arith; inside = omega arith }

  pub deep_gated : most_levels ≤ level → Gated s at level (shut_at TooDeep at level)
  deep_gated h = shut_gated TooDeep (enter_too_deep s at level h)

  module _ (h : level < most_levels) where
    entered_as : (r : Read) → r ≡ content varint64 (drop at s) → enter_at s at level ≡ bounded at r
    entered_as r e = enter_content s at level h ∙ ap (bounded at) (sym e)

    pub bad_gated : {k : Refusal} → Err k ≡ span_at at (content varint64 (drop at s)) → Gated s at level (shut_at k at level)
    unfolding moved
    bad_gated {k} q = shut_gated k (entered_as _ (sym (span_no at (known_content 9 1 (drop at s)) q)))

    pub content_gated : {a z : ℕ} → content_at a z ≡ span_at at (content varint64 (drop at s))
        → Gated s at level (record { said = Ok (said.Content a z); start = a; end = z; level = level + 1; at = z })
    unfolding span_at moved inner_of
    content_gated {a} {z} q =
        let b = span_in false at s q in
        let e : enter_at s at level ≡ says (spec.Content a z) z = go (content varint64 (drop at s)) refl q in
        record { moves = sym e; inner = rw e refl; ordered = b.1; inside = b.2 }
      where
        go : (r : Read) → r ≡ content varint64 (drop at s) → content_at a z ≡ span_at at r → enter_at s at level ≡ says (spec.Content a z) z
        go (Took m n) e p =
            let same = same_bounds p in
            entered_as (Took m n) e ∙ ap₂ (λ (i j : ℕ). says (spec.Content i j) j) (sym same.0) (sym same.1)
        go (No j) e p = let w : ◌≡◌ {A = ℕ} 0 1 = cc in absurd (omega arith)

-- ---- one answer

-- an answer in the definitions' terms comes from one answer only
untold : spec.Said → Result Said Refused
untold (spec.Number v) = Ok (said.Number v)
untold (spec.Content a z) = Ok (said.Content a z)
untold spec.End = Ok said.End
untold (spec.Refused k p) = Err (record { refusal = told.refusal_of k; place = p })

pub one_said : {x y : Result Said Refused} → said_told x ≡ said_told y → x ≡ y
unfolding untold
one_said {x} {y} e = sym (back x) ∙ ap untold e ∙ back y
  where
    back : (x : Result Said Refused) → untold (said_told x) ≡ x
    back (Ok (said.Number v)) = refl
    back (Ok (said.Content a z)) = refl
    back (Ok said.End) = refl
    back (Err r) = ap (λ (k : Refusal). Err (record { refusal = k; place = r.place })) (refusal_of-number r.refusal)

-- every call that ends in a `Moved`: each of these promises names its answer
pub one_move : {x y : Moved} {m : spec.Moved} → as_moved x ≡ m → as_moved y ≡ m → x ≡ y
one_move {x} {y} e f =
    let h : as_moved x ≡ as_moved y = e ∙ sym f in
    ap₂ (λ (a : Result Said Refused) (b : ℕ). record { said = a; at = b }) (one_said (ap (λ (m : spec.Moved). m.said) h)) (ap (λ (m : spec.Moved). m.at) h)
