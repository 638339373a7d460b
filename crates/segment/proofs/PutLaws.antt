-- Laws of storing the messages of ranges one after the other: storing the rest from here on gives what storing all gives.
-- Assumes nothing.
use Prim.Native.Nat.{ℕ, ◌+◌, ◌≤◌, ◌<◌}
use native.Mathlib.Omega.{arith}
use mathlib.Core.Path.{◌≡◌, refl, sym, ap, ap₂, ◌∙◌}
use mathlib.Core.Bool.{Bool, true, false}
use mathlib.Core.List.{List, ◌++◌}
use mathlib.Core.Option.{none, some}
use mathlib.Core.Option as m
use lib.ListN.{length, drop, length-append}
use lib.Seq.{sets, sets-eq, length-sets}
use lib.Dec.{leb}
use borrow.Author.Tests.{le-leb, leb-true}
use Rattle.std.specs.Prelude.{if◌then◌else◌, Option, Some, None}
use Rattle.spec.specs.Base.{part}
use Rattle.spec.specs.Varint.{encode}
use Rattle.spec.specs.Writing.{prefixed}
use Rattle.spec.proofs.Laws.{both}
use Rattle.spec.proofs.VarintLaws.{lower_or_not}
use Rattle.wire.specs.Answers.{Stored, stored}
use Rattle.wire.proofs.FixedLaws.{sets_append}
use Rattle.segment.specs.Segment.{front_size, range_stride, front, messages, segment, range, ranges_of, contents_of, lies, bad_range}
use Rattle.segment.proofs.JudgeLaws.{half_range, start, end, next_range, rest, rest_none, rest_next}

-- ---- one message after its length: first the length is stored, then the message

module _ (m : List ℕ) {before mid : List ℕ} {at : ℕ} {answer : Option ℕ} (fits : at + length (prefixed m) ≤ length before) (s : Stored before at (encode (length m)) mid answer) where
  inside : leb (at + length (encode (length m))) (length before) ≡ true
  inside = le-leb (at + length (encode (length m))) (length before) (omega (arith, length-append (encode (length m)) m))

  pub says : answer ≡ Some (at + length (encode (length m)))
  says = s.says ∙ ap (λ (t : Bool). if t then Some (at + length (encode (length m))) else None) inside

  leaves : mid ≡ sets before at (encode (length m))
  leaves =
      s.leaves ∙ ap (λ (t : Bool). if t then stored at (encode (length m)) before else before) inside
      ∙ sym (sets-eq (encode (length m)) before at (leb-true (at + length (encode (length m))) (length before) inside))

  module _ {n : ℕ} (e : answer ≡ Some n) where
    pub next_end : n + length m ≡ at + length (prefixed m)
    next_end =
        let f = says in
        let here : n ≡ at + length (encode (length m)) = cc in
        omega (arith, length-append (encode (length m)) m)

    pub message_put : {after : List ℕ} → after ≡ (if leb (n + length m) (length mid) then stored n m mid else mid) → after ≡ sets before at (prefixed m)
    message_put p =
        let f = says in
        let here : n ≡ at + length (encode (length m)) = cc in
        let room : n + length m ≤ length mid = omega (arith, next_end, ap length leaves, length-sets before at (encode (length m))) in
        p ∙ ap (λ (t : Bool). if t then stored n m mid else mid) (le-leb (n + length m) (length mid) room)
        ∙ sym (sets-eq m mid n room) ∙ ap₂ (λ (x : List ℕ) (k : ℕ). sets x k m) leaves here ∙ sym (sets_append (encode (length m)) m before at)

-- ---- the front

pub front_room : (ms : List (List ℕ)) {n : ℕ} → length (segment ms) ≤ n → front_size ≤ n
unfolding segment
front_room ms h = omega arith

-- what an output holds when the front was stored in it
abbrev fronted : List ℕ → List ℕ
fronted out = sets out 0 front

pub front_stored : (out : List ℕ) → front_size ≤ length out → front ++ drop front_size out ≡ fronted out
front_stored out h = sym (sets-eq front out 0 h)

pub fronted_all : (ms : List (List ℕ)) (out : List ℕ) → sets (fronted out) front_size (messages ms) ≡ sets out 0 (segment ms)
unfolding segment
fronted_all ms out = refl

-- ---- the loop

passed : (b : Bool) {o : m.Option ℕ} (k : ℕ) → (if b then o else some k) ≡ none → (b ≡ true) × (o ≡ none)
passed true k e = (refl, e)
passed false k e = let z : ◌≡◌ {A = ℕ} 0 1 = cc in absurd (omega arith)

-- the ranges that are left, of which the first has this index, lie in the payload; their messages go to `at`, where there is room for them
pub record Going (ns payload out₀ out : List ℕ) (at : ℕ) (left : List ℕ) : Type 0 where
  pub index : ℕ
  pub lie : bad_range index payload (ranges_of left) ≡ none
  pub same : sets out₀ front_size (rest payload ns) ≡ sets out at (rest payload left)
  pub room : at + length (rest payload left) ≤ length out
  pub long : length out ≡ length out₀

pub going_first : (ns payload out : List ℕ) {out' left : List ℕ} → bad_range 0 payload (ranges_of ns) ≡ none
    → length (segment (contents_of payload (ranges_of ns))) ≤ length out → out' ≡ fronted out → left ≡ ns → Going ns payload out' out' front_size left
unfolding segment
going_first ns payload out e h p q =
    rw (p, q) (record { index = 0; lie = e; same = refl; room = omega (arith, length-sets out 0 front); long = refl })

module _ {ns payload out₀ out : List ℕ} {at : ℕ} {left : List ℕ} (g : Going ns payload out₀ out at left) where
  -- one number is not left
  even : length left ≡ 1 → ⊥
  unfolding bad_range
  even h = let e : some g.index ≡ none = sym (ap (bad_range g.index payload) (half_range left h)) ∙ g.lie in
      let z : ◌≡◌ {A = ℕ} 0 1 = cc in omega arith

  pub gone : length left < range_stride → out ≡ sets out₀ front_size (rest payload ns)
  gone l =
      lower_or_not 0 (length left) (λ some. absurd (even (omega arith))) (λ empty. sym (g.same ∙ ap (sets out at) (rest_none payload left (omega arith))))

  module _ (pair later : List ℕ) (e : left ≡ pair ++ later) (two : length pair ≡ range_stride) where
    fine : (lies payload (range (start pair) (end pair) 0) ≡ true) × (bad_range (g.index + 1) payload (ranges_of later) ≡ none)
    unfolding bad_range
    fine = passed (lies payload (range (start pair) (end pair) 0)) g.index (sym (ap (bad_range g.index payload) (next_range pair later e two)) ∙ g.lie)

    pub in_payload : (start pair ≤ end pair) × (end pair ≤ length payload)
    in_payload =
        let b = both (leb (start pair) (end pair)) (leb (end pair) (length payload)) fine.0 in
        (leb-true (start pair) (end pair) b.0, leb-true (end pair) (length payload) b.1)

    lengths : length (rest payload left) ≡ length (prefixed (part (start pair) (end pair) payload)) + length (rest payload later)
    lengths =
        let here : List ℕ = prefixed (part (start pair) (end pair) payload) in
        ap length (rest_next payload pair later e two) ∙ length-append here (rest payload later)

    pub has_room : at + length (prefixed (part (start pair) (end pair) payload)) ≤ length out
    has_room = omega (arith, g.room, lengths)

    pub going_next : {out' : List ℕ} {at' : ℕ} → at' ≡ at + length (prefixed (part (start pair) (end pair) payload))
        → out' ≡ sets out at (prefixed (part (start pair) (end pair) payload)) → Going ns payload out₀ out' at' later
    going_next p q =
        let here : List ℕ = prefixed (part (start pair) (end pair) payload) in
        let kept = ap length q ∙ length-sets out at here in
        record {
          index = g.index + 1;
          lie = fine.1;
          same =
              g.same ∙ ap (sets out at) (rest_next payload pair later e two) ∙ sets_append here (rest payload later) out at
              ∙ ap₂ (λ (x : List ℕ) (n : ℕ). sets x n (rest payload later)) (sym q) (sym p);
          room = omega (arith, g.room, lengths);
          long = kept ∙ g.long;
        }
