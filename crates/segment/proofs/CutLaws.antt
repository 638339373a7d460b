-- A segment that was cut gives the messages that end at or before the cut, then 1 if bytes remain, else success.
-- Assumes nothing.
use Prim.Native.Nat.{ℕ, zero, suc, ◌+◌, ◌-◌, ◌/◌, ◌%◌, ◌≤◌, ◌<◌}
use native.Mathlib.Omega.{arith}
use native.Mathlib.Nat.{div-lt_iff_lt-mul, zero-lt-suc}
use mathlib.Core.Path.{◌≡◌, refl, sym, ap, ap₂, ◌∙◌, subst}
use mathlib.Core.Bool.{Bool, true, false}
use mathlib.Core.List.{List, [], ◌∷◌, ◌++◌, append-nil}
use lib.ListN.{length, take, length-append, length-take}
use lib.Seq.{take-append-le, take-append-add, length-take-le}
use lib.Dec.{leb, ltb}
use borrow.Author.Tests.{le-leb, lt-leb, le-ltb, lt-ltb}
use Rattle.spec.specs.Names.{ends_early}
use Rattle.std.specs.Prelude.{if◌then◌else◌}
use Rattle.spec.specs.Base.{limit, part, Took, No, digit}
use Rattle.spec.specs.Varint.{varint, shortest, encode, varint32}
use Rattle.spec.specs.Skip.{content, spanned}
use Rattle.spec.specs.Writing.{prefixed}
use Rattle.spec.proofs.VarintLaws.{lower_or_not, shortest_ends, shortest_goes_on, varint_goes_on, varint_shortest, top}
use Rattle.spec.proofs.FrontLaws.{part_front}
use Rattle.spec.proofs.RoundTrip.{Stands, stands_right, stands_part}
use Rattle.segment.specs.Segment.{front, front_size, messages, segment, Range, range, Ranges, Done, Refused, ◌then◌, after, split, within, reading, contents_of}
use Rattle.segment.specs.Cut.{ranges_at, ranges_in, ending_by, end_of, remains, whole, CutTheorem}
use Rattle.segment.proofs.SegmentLaws.{prefixed_long, split_nil, split_no, split_written, within_after, reading_front, message_stands, segment_stands, writing_leaves}

-- a shortest varint that was cut is refused 1
pub varint_cut : (k i last v j : ℕ) → k ≤ i → last < 128 → v < top k last → j < length (shortest i v) → varint k last (take j (shortest i v)) ≡ No ends_early
unfolding varint digit
varint_cut k i last v zero h l t c = refl
varint_cut zero i last v (suc j) h l t c = absurd (omega (arith, ap length (shortest_ends i v (omega arith))))
varint_cut (suc k) zero last v (suc j) h l t c = absurd (omega arith)
varint_cut (suc k) (suc i) last v (suc j) h l t c =
    lower_or_not v 128
    (λ p. absurd (omega (arith, ap length (shortest_ends (suc i) v p))))
    (λ p.
    let more : shortest (suc i) v ≡ (128 + v % 128) ∷ shortest i (v / 128) = shortest_goes_on i v p in
    ap (λ (x : List ℕ). varint (suc k) last (take (suc j) x)) more
    ∙ varint_goes_on k last (128 + v % 128) (take j (shortest i (v / 128))) (omega arith)
    ∙ ap (digit 128 ((128 + v % 128) % 128))
    (varint_cut k i last (v / 128) j (omega arith) l ((div-lt_iff_lt-mul (zero-lt-suc 127)).1 t) (omega (arith, ap length more))))

-- and so is a length with its content
content_cut : (m : List ℕ) (j : ℕ) → length m ≤ limit → j < length (prefixed m) → content varint32 (take j (prefixed m)) ≡ No ends_early
unfolding content
content_cut m j h c =
    let p : List ℕ = encode (length m) in
    lower_or_not j (length p)
    (λ l.
    let s : List ℕ = take j (p ++ m) in
    let front : s ≡ take j p = take-append-le j p m (omega arith) in
    ap (spanned (length s)) (ap varint32 front ∙ varint_cut 4 9 15 (length m) j (omega arith) (omega arith) (omega arith) l))
    (λ l.
    let i : ℕ = j - length p in
    let x : List ℕ = p ++ take i m in
    let sum : j ≡ length p + i = omega arith in
    let parts : take j (p ++ m) ≡ x = ap (λ (k : ℕ). take k (p ++ m)) sum ∙ take-append-add p m i in
    let short : leb (length p + length m) (length x) ≡ false =
    lt-leb (length p + length m) (length x) (omega (arith, length-append p (take i m), length-take i m, length-append p m)) in
    ap (content varint32) parts
    ∙ ap (spanned (length x)) (varint_shortest 4 9 15 (length m) (take i m) (omega arith) (omega arith) (omega arith))
    ∙ ap (λ (b : Bool). if b then Took (length p) (length p + length m) else No ends_early) short)

-- no message that starts after the cut ends before it
none_ending : (cut at : ℕ) (ms : List (List ℕ)) → cut ≤ at → ending_by cut (ranges_at at ms) ≡ []
unfolding ending_by ranges_at
none_ending cut at [] h = refl
none_ending cut at (m ∷ ms) h =
    let e : ℕ = at + length (prefixed m) in
    ap (λ (b : Bool). if b then range (at + length (encode (length m))) e at ∷ ending_by cut (ranges_at e ms) else ending_by cut (ranges_at e ms))
    (lt-leb e cut (omega (arith, prefixed_long m)))
    ∙ none_ending cut e ms (omega arith)

split_cut : (at j : ℕ) (ms : List (List ℕ)) → length (messages ms) ≤ limit → j ≤ length (messages ms)
    → split at (take j (messages ms)) ≡ after (ending_by (at + j) (ranges_at at ms)) (remains (end_of at (ending_by (at + j) (ranges_at at ms))) (at + j))
unfolding messages ranges_at ending_by end_of after
split_cut at zero [] h c = split_nil at ∙ ap (λ (b : Bool). if b then Refused ends_early at else Done) (sym (le-ltb at (at + 0) (omega arith)))
split_cut at (suc j) [] h c = absurd (omega arith)
split_cut at j (m ∷ ms) h c =
    let p : List ℕ = prefixed m in
    let u : List ℕ = messages ms in
    let e : ℕ = at + length p in
    let r : Range = range (at + length (encode (length m))) e at in
    let all : length (p ++ u) ≡ length p + length u = length-append p u in
    let small : length m ≤ limit = omega (arith, prefixed_long m) in
    let kept : Bool → List Range = λ b. if b then r ∷ ending_by (at + j) (ranges_at e ms) else ending_by (at + j) (ranges_at e ms) in
    let gives : List Range → Ranges = λ rs. after rs (remains (end_of at rs) (at + j)) in
    lower_or_not j (length p)
    (λ l.
    let nothing : kept (leb e (at + j)) ≡ [] = ap kept (lt-leb e (at + j) (omega arith)) ∙ behind_cut l in
    ap (split at) (take-append-le j p u (omega arith)) ∙ cut_first l small ∙ ap gives (sym nothing))
    (λ l.
    let i : ℕ = j - length p in
    let sum : j ≡ length p + i = omega arith in
    let cut : e + i ≡ at + j = omega arith in
    let all-kept : kept (leb e (at + j)) ≡ r ∷ ending_by (at + j) (ranges_at e ms) = ap kept (le-leb e (at + j) (omega arith)) in
    ap (split at) (ap (λ (k : ℕ). take k (p ++ u)) sum ∙ take-append-add p u i)
    ∙ split_written at m (take i u) small
    ∙ ap (◌then◌ r)
    (split_cut e i ms (omega arith) (omega arith)
    ∙ ap (λ (n : ℕ). after (ending_by n (ranges_at e ms)) (remains (end_of e (ending_by n (ranges_at e ms))) n)) cut)
    ∙ ap gives (sym all-kept))
  where
    behind_cut : j < length (prefixed m) → ending_by (at + j) (ranges_at (at + length (prefixed m)) ms) ≡ []
    behind_cut l = none_ending (at + j) (at + length (prefixed m)) ms (omega arith)

    cut_first : j < length (prefixed m) → length m ≤ limit → split at (take j (prefixed m)) ≡ remains at (at + j)
    cut_first l small =
        lower_or_not 0 j
        (λ some.
        split_no at ends_early (take j (prefixed m)) (content_cut m j small l) (omega (arith, length-take-le j (prefixed m) (omega arith)))
        ∙ ap (λ (b : Bool). if b then Refused ends_early at else Done) (sym (lt-ltb at (at + j) (omega arith))))
        (λ empty.
        let z : j ≡ 0 = omega arith in
        ap (λ (k : ℕ). split at (take k (prefixed m))) z ∙ split_nil at
        ∙ ap (λ (b : Bool). if b then Refused ends_early at else Done) (sym (le-ltb at (at + j) (omega arith))))

within_remains : (n at cut : ℕ) → within n (remains at cut) ≡ remains at cut
unfolding within
within_remains n at cut = go (ltb at cut)
  where
    go : (b : Bool) → within n (if b then Refused ends_early at else Done) ≡ (if b then Refused ends_early at else Done)
    go true = refl
    go false = refl

-- what the reader gives of a segment that was cut
cut_reads : (ms : List (List ℕ)) (cut room : ℕ) → length (segment ms) ≤ limit → front_size ≤ cut → cut ≤ length (segment ms) → length (whole cut ms) ≤ room
    → reading room (take cut (segment ms)) ≡ after (whole cut ms) (remains (end_of front_size (whole cut ms)) cut)
unfolding segment
cut_reads ms cut room small five long enough =
    let j : ℕ = cut - front_size in
    let is : front_size + j ≡ cut = omega arith in
    let rs : List Range = whole cut ms in
    ap (reading room) (ap (λ (k : ℕ). take k (front ++ messages ms)) (sym is) ∙ take-append-add front (messages ms) j)
    ∙ reading_front room (take j (messages ms)) (omega (arith, length-take j (messages ms)))
    ∙ ap (within room) (split_cut front_size j ms (omega arith) (omega arith)
    ∙ ap (λ (n : ℕ). after (ending_by n (ranges_in ms)) (remains (end_of front_size (ending_by n (ranges_in ms))) n)) is)
    ∙ within_after room rs (remains (end_of front_size rs) cut) enough
    ∙ ap (after rs) (within_remains (room - length rs) (end_of front_size rs) cut)

-- ---- the bytes of the messages that are whole

-- they are the first ones, and each stands where it stood
cut_contents : (s : List ℕ) (cut at : ℕ) (ms : List (List ℕ)) → cut ≤ length s → Stands s at (messages ms)
    → contents_of (take cut s) (ending_by cut (ranges_at at ms)) ≡ take (length (ending_by cut (ranges_at at ms))) ms
unfolding messages ranges_at ending_by contents_of
cut_contents s cut at [] l h = refl
cut_contents s cut at (m ∷ ms) l h =
    let a : ℕ = at + length (encode (length m)) in
    let e : ℕ = at + length (prefixed m) in
    let r : Range = range a e at in
    let rest : List Range = ending_by cut (ranges_at e ms) in
    let goal : List Range → Type 0 = λ rs. contents_of (take cut s) rs ≡ take (length rs) (m ∷ ms) in
    lower_or_not cut e
    (λ before.
    subst goal (sym (ap (λ (b : Bool). if b then r ∷ rest else rest) (lt-leb e cut before) ∙ none_ending cut e ms (omega arith))) refl)
    (λ kept.
    subst goal (sym (ap (λ (b : Bool). if b then r ∷ rest else rest) (le-leb e cut (omega arith))))
    (ap₂ (◌∷◌)
    (ap (part a e) (sym (append-nil (take cut s)))
    ∙ part_front a e cut s [] (omega (arith, length-append (encode (length m)) m)) (omega arith) l
    ∙ stands_part m (message_stands s m (messages ms) h) e (omega (arith, length-append (encode (length m)) m)))
    (cut_contents s cut e ms l (stands_right (prefixed m) (messages ms) h))))

-- ---- the theorem

pub cut_theorem : CutTheorem
cut_theorem payload rs space cut room s wrote five long enough =
    let ms : List (List ℕ) = contents_of payload rs in
    let w = writing_leaves space payload rs s wrote in
    let is : s ≡ segment ms = w.0 in
    let small : length (segment ms) ≤ limit = omega (arith, ap length is, w.1) in
    let inside : cut ≤ length (segment ms) = omega (arith, ap length is) in
    record {
      reads = cut_reads ms cut room small five inside enough;
      bytes = cut_contents (segment ms) cut front_size ms inside (segment_stands ms);
    }
