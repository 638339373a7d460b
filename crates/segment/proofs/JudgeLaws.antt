-- Laws of judging ranges, of the answer from it, and of what an answer without refusal says.
-- Assumes nothing.
use Prim.Native.Nat.{ℕ, ◌+◌, ◌-◌, ◌≤◌, ◌<◌}
use native.Mathlib.Omega.{arith}
use mathlib.Core.Path.{◌≡◌, refl, sym, ap, ◌∙◌}
use mathlib.Core.Bool.{Bool, ◌&&◌, and-false}
use mathlib.Core.List.{List, [], ◌∷◌, ◌++◌}
use mathlib.Core.Option.{Option, none, some}
use lib.ListN.{length, drop, get_or, length-append, length-drop}
use lib.Seq.{length-take-le}
use lib.Dec.{leb}
use borrow.Author.Tests.{le-leb, lt-leb}
use Rattle.std.specs.Prelude.{if◌then◌else◌, Result, Ok, Err}
use Rattle.spec.specs.Base.{part, filled, limit}
use Rattle.spec.specs.Varint.{encode}
use Rattle.spec.specs.Writing as w
use Rattle.spec.specs.Writing.{prefixed, Writing, number, index, output, sized}
use Rattle.spec.proofs.Laws.{both_true}
use Rattle.spec.proofs.SizeLaws.{output_refused}
use Rattle.sizes.specs.Answers.{Tells}
use Rattle.sizes.specs.SizeParts.{capped}
use Rattle.sizes.proofs.AnswerLaws.{cut_once, tells_as}
use Rattle.segment.specs.Segment.{front_size, range_stride, messages, segment, Range, range, ranges_of, contents_of, lies, bad_range, ranges_first, writing}
use Rattle.segment.proofs.SegmentLaws.{writing_well}
use Rattle.segment.specs.Judging.{outside, Judges, lies_outside, all_inside}
use Rattle.spec.specs.declared.answers.Unwritten.{Unwritten}
use Rattle.spec.proofs.ToldLaws.{refused}

-- ---- ranges in numbers

-- there are none
pub no_range : (left : List ℕ) → length left ≡ 0 → ranges_of left ≡ []
unfolding ranges_of
no_range [] h = refl
no_range (n ∷ left) h = absurd (omega arith)

-- one number is left
pub half_range : (left : List ℕ) → length left ≡ 1 → ranges_of left ≡ range 1 0 0 ∷ []
unfolding ranges_of
half_range [] h = absurd (omega arith)
half_range (a ∷ []) h = refl
half_range (a ∷ e ∷ left) h = absurd (omega arith)

-- two numbers come first, where a range starts and where it ends
abbrev pub start : List ℕ → ℕ
start pair = get_or pair 0 0

abbrev pub end : List ℕ → ℕ
end pair = get_or pair 1 0

pub next_range : (pair later : List ℕ) {left : List ℕ} → left ≡ pair ++ later → length pair ≡ range_stride
    → ranges_of left ≡ range (start pair) (end pair) 0 ∷ ranges_of later
unfolding ranges_of
next_range [] later e h = absurd (omega arith)
next_range (a ∷ []) later e h = absurd (omega arith)
next_range (a ∷ z ∷ []) later e h = ap ranges_of e
next_range (a ∷ z ∷ n ∷ pair) later e h = absurd (omega arith)

-- ---- the messages of ranges

abbrev pub rest : (payload left : List ℕ) → List ℕ
rest payload left = messages (contents_of payload (ranges_of left))

pub rest_none : (payload left : List ℕ) → length left ≡ 0 → rest payload left ≡ []
unfolding messages contents_of
rest_none payload left h = ap (λ (rs : List Range). messages (contents_of payload rs)) (no_range left h)

pub rest_next : (payload pair later : List ℕ) {left : List ℕ} → left ≡ pair ++ later → length pair ≡ range_stride
    → rest payload left ≡ prefixed (part (start pair) (end pair) payload) ++ rest payload later
unfolding messages contents_of
rest_next payload pair later e h = ap (λ (rs : List Range). messages (contents_of payload rs)) (next_range pair later e h)

prefixed_length : (payload : List ℕ) (a e : ℕ) → a ≤ e → e ≤ length payload → length (prefixed (part a e payload)) ≡ e - a + length (encode (e - a))
prefixed_length payload a e h l =
    let m : List ℕ = part a e payload in
    let is : length m ≡ e - a = length-take-le (e - a) (drop a payload) (omega (arith, length-drop a payload)) in
    omega (arith, length-append (encode (length m)) m, ap (λ (n : ℕ). length (encode n)) is)

-- ---- the loop: what is judged in all is what the numbers that are left give from here

pub record Here (ns payload : List ℕ) (sum i : ℕ) (left : List ℕ) : Type 0 where
  pub bad : bad_range 0 payload (ranges_of ns) ≡ bad_range i payload (ranges_of left)
  pub cut : capped (length (segment (contents_of payload (ranges_of ns)))) ≡ capped (sum + length (rest payload left))
  pub small : sum ≤ limit + 1

pub here_first : (ns payload : List ℕ) {i : ℕ} {left : List ℕ} → i ≡ 0 → left ≡ ns → Here ns payload front_size i left
unfolding segment
here_first ns payload p q = rw (p, q) (record { bad = refl; cut = omega arith; small = omega arith })

module _ {ns payload : List ℕ} {sum i : ℕ} {left : List ℕ} (h : Here ns payload sum i left) where
  pub judged_half : {u : Unwritten} → u ≡ outside i → length left ≡ 1 → Judges payload (ranges_of ns) (Err u)
  unfolding bad_range
  judged_half o l = rw o (lies_outside (h.bad ∙ ap (bad_range i payload) (half_range left l)))

  pub judged_all : length left ≡ 0 → Judges payload (ranges_of ns) (Ok sum)
  unfolding bad_range
  judged_all l =
      let is : sum ≡ capped (length (segment (contents_of payload (ranges_of ns)))) = omega (arith, h.cut, h.small, ap length (rest_none payload left l)) in
      all_inside (h.bad ∙ ap (bad_range i payload) (no_range left l)) is

  module _ (pair later : List ℕ) (e : left ≡ pair ++ later) (two : length pair ≡ range_stride) where
    bad_next : {b : Bool} → lies payload (range (start pair) (end pair) 0) ≡ b
        → bad_range 0 payload (ranges_of ns) ≡ (if b then bad_range (i + 1) payload (ranges_of later) else some i)
    unfolding bad_range
    bad_next l =
        h.bad ∙ ap (bad_range i payload) (next_range pair later e two) ∙ ap (λ (t : Bool). if t then bad_range (i + 1) payload (ranges_of later) else some i) l

    pub judged_reversed : {u : Unwritten} → u ≡ outside i → end pair < start pair → Judges payload (ranges_of ns) (Err u)
    judged_reversed o m = rw o (lies_outside (bad_next (ap (λ (t : Bool). t && leb (end pair) (length payload)) (lt-leb (start pair) (end pair) m))))

    pub judged_far : {u : Unwritten} → u ≡ outside i → length payload < end pair → Judges payload (ranges_of ns) (Err u)
    judged_far o m =
        let a : Bool = leb (start pair) (end pair) in
        rw o (lies_outside (bad_next (ap (◌&&◌ a) (lt-leb (end pair) (length payload) m) ∙ and-false a)))

    pub here_next : {now j : ℕ} → j ≡ i + 1 → start pair ≤ end pair → end pair ≤ length payload
        → now ≡ capped (sum + (end pair - start pair + length (encode (end pair - start pair)))) → Here ns payload now j later
    here_next p m f n =
        let a : ℕ = start pair in
        let z : ℕ = end pair in
        let c : List ℕ = prefixed (part a z payload) in
        record {
          bad = bad_next (both_true (le-leb a z m) (le-leb z (length payload) f)) ∙ ap (λ (k : ℕ). bad_range k payload (ranges_of later)) (sym p);
          cut = omega (arith, h.cut, prefixed_length payload a z m f, ap length (rest_next payload pair later e two), length-append c (rest payload later));
          small = omega arith;
        }

-- ---- the answer

-- what ranges that were judged answer
module _ (room : ℕ) (payload : List ℕ) (rs : List Range) where
  pub tells_bad : {u : Unwritten} → Judges payload rs (Err u) → Tells (writing room payload rs) (Err u)
  unfolding number w.size index writing ranges_first
  tells_bad (lies_outside {i} e) = tells_as {r = Err (outside i)} (ap (λ (o : Option ℕ). ranges_first o (sized room (segment (contents_of payload rs)))) e) (record { number = refl; size = refl; index = refl })

  pub tells_size : {n : ℕ} (r : Result ℕ Unwritten) → Judges payload rs (Ok n) → ((s : List ℕ) → capped n ≡ capped (length s) → Tells (sized room s) r)
      → Tells (writing room payload rs) r
  unfolding writing ranges_first
  tells_size {n = n} r (all_inside e is) t =
      let bytes : List ℕ = segment (contents_of payload rs) in
      tells_as {r = r} (ap (λ (o : Option ℕ). ranges_first o (sized room bytes)) e) (t bytes (cut_once n (length bytes) is))

-- ---- a refusal: the output stays as it was

pub untouched : (x : Writing) (out : List ℕ) (u : Unwritten) → Tells x (Err u) → out ≡ output x out
untouched x out u t = sym (output_refused x out (λ z. omega (arith, refused u.refusal, t.number)))

-- ---- no refusal: the ranges lie in the payload, and there is room for their segment

pub written : (room : ℕ) (payload : List ℕ) (rs : List Range) (out : List ℕ) → number (writing room payload rs) ≡ 0
    → (bad_range 0 payload rs ≡ none) × (length (segment (contents_of payload rs)) ≤ room)
    × (output (writing room payload rs) out ≡ filled (segment (contents_of payload rs)) out)
unfolding number output writing ranges_first
written room payload rs out z =
    let w = writing_well room payload rs z in
    (all_lie (bad_range 0 payload rs) z, w.1, ap (λ (x : Writing). output x out) w.0)
  where
    all_lie : (o : Option ℕ) → number (ranges_first o (sized room (segment (contents_of payload rs)))) ≡ 0 → o ≡ none
    all_lie none e = refl
    all_lie (some i) e = absurd (omega arith)
