-- Laws of segments: the equations of `split`, and that what is written reads back.
-- Assumes nothing.
use Prim.Native.Nat.{ℕ, zero, suc, ◌+◌, ◌-◌, ◌≤◌, ◌<◌}
use native.Mathlib.Omega.{arith}
use mathlib.Core.Path.{◌≡◌, refl, sym, ap, ap₂, ◌∙◌, subst}
use mathlib.Core.Bool.{Bool, true, false, not, ◌&&◌}
use mathlib.Core.List.{List, [], ◌∷◌, ◌++◌, append-nil}
use mathlib.Core.Option.{Option, none, some}
use lib.ListN.{length, drop, get_or, length-append, length-drop}
use lib.Seq.{drop-append_seam}
use lib.Dec.{leb, ltb, eqb}
use borrow.Author.Tests.{le-leb, le-ltb, leb-true, not-false}
use Rattle.spec.specs.Names.{bad_mark, invalid_list, too_large}
use Rattle.std.specs.Prelude.{if◌then◌else◌}
use Rattle.spec.specs.Base.{limit, Read, Took, No}
use Rattle.spec.specs.Varint.{varint32, encode}
use Rattle.spec.specs.Skip.{content}
use Rattle.spec.specs.Writing.{prefixed, Writing, Wrote, number, sized}
use Rattle.spec.proofs.Laws.{either_way, chosen, both, both_true, Holds, holds, content_holds, takes_varint}
use Rattle.spec.proofs.WritingLaws.{content_written}
use Rattle.spec.proofs.SizeLaws.{Answered, wrote, short, above, faulty, sized_answered, sized_fits}
use Rattle.spec.proofs.RoundTrip.{encode_pos, Stands, stands_left, stands_right, stands_lies, stands_part}
use Rattle.segment.specs.Segment.{front_size, letter_f, letter_m, letter_w, front, version, version_of, messages, segment, Range, range, Ranges, Done, Refused, ◌then◌, after, found, split_up_to, split, within, marked, reading, listed, contents_of, lies, bad_range, ranges_first, writing}
use Rattle.segment.specs.Segment as segment
use Rattle.segment.specs.Cut.{ranges_at, ranges_in, WrittenThenRead}

-- ---- the equations of `split`

found_cong : {most : ℕ} (p : ℕ) {r : Read} {f g : ℕ → ℕ → Ranges} → Holds most r → ((a e : ℕ) → 1 ≤ e → e ≤ most → f a e ≡ g a e) → found r p f ≡ found r p g
unfolding found
found_cong p (holds {a} {e} h i j) q = q a e (omega arith) j
found_cong p Holds.none q = refl

held : (s : List ℕ) → Holds (length s) (content varint32 s)
held s = content_holds varint32 s (takes_varint 4 15 s)

split_enough : (f g at : ℕ) (s : List ℕ) → length s ≤ f → length s ≤ g → split_up_to f at s ≡ split_up_to g at s
unfolding split_up_to
split_enough zero zero at s hf hg = refl
split_enough zero (suc g) at [] hf hg = refl
split_enough (suc f) zero at [] hf hg = refl
split_enough zero (suc g) at (b ∷ s) hf hg = absurd (omega arith)
split_enough (suc f) zero at (b ∷ s) hf hg = absurd (omega arith)
split_enough (suc f) (suc g) at [] hf hg = refl
split_enough (suc f) (suc g) at (b ∷ s) hf hg =
    found_cong at (held (b ∷ s)) λ a e h j.
    ap (◌then◌ (range (at + a) (at + e) at))
    (split_enough f g (at + e) (drop e (b ∷ s)) (omega (arith, length-drop e (b ∷ s))) (omega (arith, length-drop e (b ∷ s))))

pub split_nil : (at : ℕ) → split at [] ≡ Done
unfolding split split_up_to
split_nil at = refl

pub split_cons : (at b : ℕ) (s : List ℕ)
    → split at (b ∷ s) ≡ found (content varint32 (b ∷ s)) at (λ a e. range (at + a) (at + e) at then split (at + e) (drop e (b ∷ s)))
unfolding split split_up_to
split_cons at b s =
    found_cong at (held (b ∷ s)) λ a e h j.
    ap (◌then◌ (range (at + a) (at + e) at))
    (split_enough (length s) (length (drop e (b ∷ s))) (at + e) (drop e (b ∷ s)) (omega (arith, length-drop e (b ∷ s))) (omega arith))

-- with what the first length and its content are
pub split_took : (at a e : ℕ) (s : List ℕ) → content varint32 s ≡ Took a e → 1 ≤ length s
    → split at s ≡ (range (at + a) (at + e) at then split (at + e) (drop e s))
unfolding found
split_took at a e [] p h = absurd (omega arith)
split_took at a e (b ∷ s) p h =
    split_cons at b s ∙ ap (λ (r : Read). found r at (λ a e. range (at + a) (at + e) at then split (at + e) (drop e (b ∷ s)))) p

pub split_no : (at k : ℕ) (s : List ℕ) → content varint32 s ≡ No k → 1 ≤ length s → split at s ≡ Refused k at
unfolding found
split_no at k [] p h = absurd (omega arith)
split_no at k (b ∷ s) p h =
    split_cons at b s ∙ ap (λ (r : Read). found r at (λ a e. range (at + a) (at + e) at then split (at + e) (drop e (b ∷ s)))) p

-- ---- what is written is split as it was

pub prefixed_long : (m : List ℕ) → length m + 1 ≤ length (prefixed m)
prefixed_long m = omega (arith, length-append (encode (length m)) m, encode_pos 9 (length m))

pub split_written : (at : ℕ) (m u : List ℕ) → length m ≤ limit
    → split at (prefixed m ++ u) ≡ (range (at + length (encode (length m))) (at + length (prefixed m)) at then split (at + length (prefixed m)) u)
split_written at m u h =
    let a : ℕ = length (encode (length m)) in
    let e : ℕ = length (prefixed m) in
    split_took at a e (prefixed m ++ u) (content_written 4 15 m u (omega arith) (omega arith) (omega arith)) (omega (arith, length-append (prefixed m) u, prefixed_long m))
    ∙ ap (λ (x : List ℕ). range (at + a) (at + e) at then split (at + e) x) (drop-append_seam (prefixed m) u)

pub split_messages : (at : ℕ) (ms : List (List ℕ)) → length (messages ms) ≤ limit → split at (messages ms) ≡ after (ranges_at at ms) Done
unfolding messages ranges_at after
split_messages at [] h = split_nil at
split_messages at (m ∷ ms) h =
    let all : length (prefixed m ++ messages ms) ≡ length (prefixed m) + length (messages ms) = length-append (prefixed m) (messages ms) in
    split_written at m (messages ms) (omega (arith, prefixed_long m))
    ∙ ap (◌then◌ (range (at + length (encode (length m))) (at + length (prefixed m)) at)) (split_messages (at + length (prefixed m)) ms (omega arith))

-- ---- ranges, and then a reading

pub after_number : (rs : List Range) (q : Ranges) → segment.number (after rs q) ≡ segment.number q
unfolding after segment.number
after_number [] q = refl
after_number (r ∷ rs) q = after_number rs q

pub after_place : (rs : List Range) (q : Ranges) → segment.place (after rs q) ≡ segment.place q
unfolding after segment.place
after_place [] q = refl
after_place (r ∷ rs) q = after_place rs q

pub after_listed : (rs : List Range) (q : Ranges) → listed (after rs q) ≡ rs ++ listed q
unfolding after listed
after_listed [] q = refl
after_listed (r ∷ rs) q = ap (λ (x : List Range). r ∷ x) (after_listed rs q)

-- ---- room

pub within_after : (n : ℕ) (rs : List Range) (q : Ranges) → length rs ≤ n → within n (after rs q) ≡ after rs (within (n - length rs) q)
unfolding within after
within_after n [] q h = ap (λ (k : ℕ). within k q) (omega arith)
within_after zero (r ∷ rs) q h = absurd (omega arith)
within_after (suc n) (r ∷ rs) q h = ap (◌then◌ r) (within_after n rs q (omega arith) ∙ ap (λ (k : ℕ). after rs (within k q)) (omega arith))

pub within_done : (n : ℕ) → within n Done ≡ Done
unfolding within
within_done n = refl

-- ---- the front

pub reading_front : (room : ℕ) (u : List ℕ) → length (front ++ u) ≤ limit → reading room (front ++ u) ≡ within room (split front_size u)
unfolding reading
reading_front room u h =
    let n : ℕ = length (front ++ u) in
    ap (λ (b : Bool). if not (b && true && true && true) then Refused bad_mark 0 else if ltb limit n then Refused too_large 0 else within room (split front_size u)) (le-leb front_size n (omega arith))
    ∙ ap (λ (b : Bool). if b then Refused too_large 0 else within room (split front_size u)) (le-ltb limit n h)

-- ---- contents

pub ranges_count : (at : ℕ) (ms : List (List ℕ)) → length (ranges_at at ms) ≡ length ms
unfolding ranges_at
ranges_count at [] = refl
ranges_count at (m ∷ ms) = ap suc (ranges_count (at + length (prefixed m)) ms)

pub contents_count : (s : List ℕ) (rs : List Range) → length (contents_of s rs) ≡ length rs
unfolding contents_of
contents_count s [] = refl
contents_count s (r ∷ rs) = ap suc (contents_count s rs)

module _ (s : List ℕ) where
  pub message_stands : {at : ℕ} (m u : List ℕ) → Stands s at (prefixed m ++ u) → Stands s (at + length (encode (length m))) m
  message_stands m u h = stands_right (encode (length m)) m (stands_left (prefixed m) u h)

  pub contents_back : (at : ℕ) (ms : List (List ℕ)) → Stands s at (messages ms) → contents_of s (ranges_at at ms) ≡ ms
  unfolding messages ranges_at contents_of
  contents_back at [] h = refl
  contents_back at (m ∷ ms) h =
      ap₂ (◌∷◌) (stands_part m (message_stands m (messages ms) h) (at + length (prefixed m)) (omega (arith, length-append (encode (length m)) m)))
      (contents_back (at + length (prefixed m)) ms (stands_right (prefixed m) (messages ms) h))

  pub ranges_lie : (i at : ℕ) (ms : List (List ℕ)) → Stands s at (messages ms) → bad_range i s (ranges_at at ms) ≡ none
  unfolding messages ranges_at bad_range
  ranges_lie i at [] h = refl
  ranges_lie i at (m ∷ ms) h =
      let a : ℕ = at + length (encode (length m)) in
      let e : ℕ = at + length (prefixed m) in
      let ok : lies s (range a e at) ≡ true =
      both_true (le-leb a e (omega (arith, length-append (encode (length m)) m)))
      (le-leb e (length s) (omega (arith, stands_lies (prefixed m) (stands_left (prefixed m) (messages ms) h)))) in
      ap (λ (b : Bool). if b then bad_range (i + 1) s (ranges_at e ms) else some i) ok
      ∙ ranges_lie (i + 1) e ms (stands_right (prefixed m) (messages ms) h)

pub segment_stands : (ms : List (List ℕ)) → Stands (segment ms) front_size (messages ms)
unfolding segment
segment_stands ms = record { before = front; behind = []; is = ap (λ (x : List ℕ). front ++ x) (sym (append-nil (messages ms))); place = refl }

-- ---- writing

-- what a writing answers, by the segment and the room for it
pub writing_answered : (space : ℕ) (payload : List ℕ) (rs : List Range) → Answered space (segment (contents_of payload rs)) (writing space payload rs)
unfolding writing ranges_first
writing_answered space payload rs = go (bad_range 0 payload rs)
  where
    go : (o : Option ℕ) → Answered space (segment (contents_of payload rs)) (ranges_first o (sized space (segment (contents_of payload rs))))
    go none = sized_answered space (segment (contents_of payload rs))
    go (some i) = faulty {k = invalid_list} (omega arith) (omega arith)

pub writing_wrote : (space : ℕ) (payload : List ℕ) (rs : List Range) → bad_range 0 payload rs ≡ none → length (segment (contents_of payload rs)) ≤ limit
    → length (segment (contents_of payload rs)) ≤ space → writing space payload rs ≡ Wrote (segment (contents_of payload rs))
unfolding writing ranges_first
writing_wrote space payload rs e h j =
    let s : List ℕ = segment (contents_of payload rs) in
    ap (λ (o : Option ℕ). ranges_first o (sized space s)) e ∙ sized_fits space s h j

-- what was written is the segment, within the limit
pub writing_leaves : (space : ℕ) (payload : List ℕ) (rs : List Range) (s : List ℕ) → writing space payload rs ≡ Wrote s
    → (s ≡ segment (contents_of payload rs)) × (length s ≤ limit)
writing_leaves space payload rs s e = go (writing_answered space payload rs) e
  where
    go : {w : Writing} → Answered space (segment (contents_of payload rs)) w → w ≡ Wrote s → (s ≡ segment (contents_of payload rs)) × (length s ≤ limit)
    go (wrote h j) f = let same : s ≡ segment (contents_of payload rs) = cc in (same, omega (arith, ap length same))
    go (short h j) f = absurd (let z : ◌≡◌ {A = ℕ} 0 1 = cc in omega arith)
    go (above h) f = absurd (let z : ◌≡◌ {A = ℕ} 0 1 = cc in omega arith)
    go (faulty h j) f = absurd (let z : ◌≡◌ {A = ℕ} 0 1 = cc in omega arith)

-- a writing that is not refused
pub writing_well : (space : ℕ) (payload : List ℕ) (rs : List Range) → number (writing space payload rs) ≡ 0
    → (writing space payload rs ≡ Wrote (segment (contents_of payload rs))) × (length (segment (contents_of payload rs)) ≤ space)
unfolding number
writing_well space payload rs e = go (writing_answered space payload rs) e
  where
    x : List ℕ
    x = segment (contents_of payload rs)

    go : {w : Writing} → Answered space x w → number w ≡ 0 → (w ≡ Wrote x) × (length x ≤ space)
    go (wrote h j) f = (refl, j)
    go (short h j) f = absurd (omega arith)
    go (above h) f = absurd (omega arith)
    go (faulty h j) f = absurd (omega arith)

-- a segment with room for its messages
pub reading_segment : (room : ℕ) (ms : List (List ℕ)) → length (segment ms) ≤ limit → length ms ≤ room → reading room (segment ms) ≡ after (ranges_in ms) Done
unfolding segment
reading_segment room ms h j =
    reading_front room (messages ms) h ∙ ap (within room) (split_messages front_size ms (omega arith))
    ∙ within_after room (ranges_in ms) Done (omega (arith, ranges_count front_size ms)) ∙ ap (after (ranges_in ms)) (within_done (room - length (ranges_in ms)))

pub reads_back : WrittenThenRead
reads_back payload rs room space e small j k =
    let ms : List (List ℕ) = contents_of payload rs in
    let s : List ℕ = segment ms in
    let same : contents_of s (ranges_in ms) ≡ ms = contents_back s front_size ms (segment_stands ms) in
    record {
      writes = writing_wrote space payload rs e small k;
      list = ranges_in ms;
      reads = reading_segment room ms small (omega (arith, contents_count payload rs));
      count = ranges_count front_size ms ∙ contents_count payload rs;
      shows = same;
      again = writing_wrote space s (ranges_in ms) (ranges_lie s 0 front_size ms (segment_stands ms))
          (subst (λ (x : List (List ℕ)). length (segment x) ≤ limit) (sym same) small)
          (subst (λ (x : List (List ℕ)). length (segment x) ≤ space) (sym same) k)
          ∙ ap (λ (x : List (List ℕ)). Wrote (segment x)) same;
    }

-- ---- whatever is read: the ranges lie in the segment, one after the other

-- each range starts after the place of its length, ends within `most`, and the next one's length stands where it ends
pub data Rising (most : ℕ) : ℕ → List Range → Type 0 where
  no_range : {at : ℕ} → Rising most at []
  a_range : {at : ℕ} {r : Range} {rs : List Range} → r.place ≡ at → at < r.start → r.start ≤ r.stop → r.stop ≤ most → Rising most r.stop rs → Rising most at (r ∷ rs)

split_rises : (k at most : ℕ) (s : List ℕ) → at + length s ≤ most → Rising most at (listed (split_up_to k at s))
unfolding split_up_to listed found
split_rises zero at most s h = no_range
split_rises (suc k) at most [] h = no_range
split_rises (suc k) at most (b ∷ s) h =
    go (λ e l. split_rises k (at + e) most (drop e (b ∷ s)) (omega (arith, length-drop e (b ∷ s)))) (held (b ∷ s))
  where
    go : {r : Read} → ((e : ℕ) → e ≤ length (b ∷ s) → Rising most (at + e) (listed (split_up_to k (at + e) (drop e (b ∷ s)))))
        → Holds (length (b ∷ s)) r → Rising most at (listed (found r at λ a e. range (at + a) (at + e) at then split_up_to k (at + e) (drop e (b ∷ s))))
    go more (holds {a} {e} p q l) =
        let x : at < at + a = omega arith in
        let y : at + a ≤ at + e = omega arith in
        let z : at + e ≤ most = omega arith in
        a_range refl x y z (more e l)
    go more Holds.none = no_range

within_rises : (n most at : ℕ) (q : Ranges) → Rising most at (listed q) → Rising most at (listed (within n q))
unfolding within listed
within_rises n most at Done r = r
within_rises n most at (Refused k p) r = r
within_rises zero most at (x then q) r = no_range
within_rises (suc n) most at (x then q) (a_range p a b c r) = a_range p a b c (within_rises n most x.stop q r)

pub reading_rises : (room : ℕ) (s : List ℕ) → Rising (length s) front_size (listed (reading room s))
unfolding reading listed split
reading_rises room s =
    chosen (λ (q : Ranges). Rising (length s) front_size (listed q)) (not (marked s)) (λ e. no_range)
    (λ e. either_way (λ (q : Ranges). Rising (length s) front_size (listed q)) (not (eqb (version_of s) version)) no_range
    (either_way (λ (q : Ranges). Rising (length s) front_size (listed q)) (ltb limit (length s)) no_range
    (within_rises room (length s) front_size (split front_size (drop front_size s))
    (split_rises (length (drop front_size s)) front_size (length s) (drop front_size s) (omega (arith, length-drop front_size s, five e))))))
  where
    five : not (marked s) ≡ false → front_size ≤ length s
    five e =
        let m : marked s ≡ true = not-false (marked s) e in
        let a = both (leb front_size (length s) && eqb (get_or s 0 0) letter_w && eqb (get_or s 1 0) letter_f) (eqb (get_or s 2 0) letter_m) m in
        let b = both (leb front_size (length s) && eqb (get_or s 0 0) letter_w) (eqb (get_or s 1 0) letter_f) a.0 in
        leb-true front_size (length s) (both (leb front_size (length s)) (eqb (get_or s 0 0) letter_w) b.0).0

-- so each lies in it, and can be written again
pub rising_lies : (s : List ℕ) (at i : ℕ) (rs : List Range) → Rising (length s) at rs → bad_range i s rs ≡ none
unfolding bad_range
rising_lies s at i [] no_range = refl
rising_lies s at i (r ∷ rs) (a_range p a b c more) =
    ap (λ (t : Bool). if t then bad_range (i + 1) s rs else some i) (both_true (le-leb r.start r.stop b) (le-leb r.stop (length s) c))
    ∙ rising_lies s r.stop (i + 1) rs more

-- a segment has fewer messages than bytes: with room for as many ranges as it has bytes, 8 never comes
pub rising_count : (most at : ℕ) (rs : List Range) → at ≤ most → Rising most at rs → at + length rs ≤ most
rising_count most at [] h no_range = omega arith
rising_count most at (r ∷ rs) h (a_range p a b c more) = omega (arith, rising_count most r.stop rs c more)
