-- What is left of a segment that was cut, by the answers of its steps; and each message by itself. Assumes nothing.
use Prim.Native.Nat.{ℕ, ◌/◌, ◌≤◌}
use native.Mathlib.Omega.{arith}
use mathlib.Core.Path.{◌≡◌, refl, sym, ap, ap₂, ◌∙◌, subst}
use mathlib.Core.Bool.{Bool, true, false}
use mathlib.Core.List.{List, [], ◌∷◌, ◌++◌, map, append-nil}
use lib.ListN.{length, take, drop}
use lib.Seq.{take-append-le}
use lib.Dec.{ltb}
use Rattle.spec.specs.Names.{ends_early}
use Rattle.std.specs.Prelude.{if◌then◌else◌, Result}
use Rattle.spec.specs.Base.{filled}
use Rattle.spec.specs.Reading as message
use Rattle.spec.specs.Told.{read_number, read_place, read_count, written_number, written_size, written_index}
use Rattle.spec.specs.declared.answers.Stopped.{Stopped}
use Rattle.spec.specs.declared.answers.Unwritten.{Unwritten}
use Rattle.spec.specs.Writing.{Writing, Wrote, output, sent, size}
use Rattle.spec.specs.Writing as writer
use Rattle.segment.specs.Segment.{front_size, range_stride, Range, Ranges, Done, Refused, ranges_of, stored, content_of, contents_of, segment, after, reading, number, place, listed, room_after}
use Rattle.segment.specs.Cut.{whole, end_of, remains, CutReads}
use Rattle.segment.proofs.SegmentLaws.{writing_leaves, writing_well, after_number, after_place, after_listed}
use Rattle.segment.proofs.CutLaws.{cut_theorem}
use Rattle.segment.proofs.OneAnswer.{one_reading, one_size}
use Rattle.segment.specs.Emit.{Told}
use Rattle.messages.specs.declared.Steps.{Steps}
use Rattle.messages.specs.Torn.{messages_of, writes, reads, CutShort, Given, Left, MessagesRead}

-- ---- what is left

-- what the promises of the two steps say, where x is what was read
pub cut_short : (ranges payload : List ℕ) (cut : ℕ) (out room : List ℕ) (t : Steps) {out' room' x : List ℕ}
    → (written_number t.wrote ≡ writer.number (writes ranges payload out)) × (written_size t.wrote ≡ size (writes ranges payload out))
    × (written_index t.wrote ≡ writer.index (writes ranges payload out)) × (out' ≡ output (writes ranges payload out) out)
    → x ≡ take cut (sent (writes ranges payload out))
    → (read_number t.read ≡ number (reading (length room / range_stride) x)) × (read_place t.read ≡ place (reading (length room / range_stride) x))
    × (read_count t.read ≡ length (listed (reading (length room / range_stride) x))) × (room' ≡ room_after (reading (length room / range_stride) x) room)
    → CutShort ranges payload cut out room t out' room'
cut_short ranges payload cut out room t w same r =
    let q : reading (length room / range_stride) _ ≡ reads ranges payload cut out room = ap (reading (length room / range_stride)) same in
    record {
      wrote_number = w.0;
      wrote_size = w.1;
      wrote_index = w.2;
      out_holds = w.3;
      read_number = r.0 ∙ ap number q;
      read_place = r.1 ∙ ap place q;
      read_count = r.2 ∙ ap (λ (x : Ranges). length (listed x)) q;
      room_holds = r.3 ∙ ap (λ (x : Ranges). room_after x room) q;
    }

-- any two answers, and any two of what the buffers hold, are equal
module _ (ranges payload : List ℕ) (cut : ℕ) (out room : List ℕ) where
  told : {t : Steps} {x a : List ℕ} → CutShort ranges payload cut out room t x a
      → Told (reads ranges payload cut out room) room t.read a
  told h = record { refusal = h.read_number; at = h.read_place; count = h.read_count; leaves = h.room_holds }

  pub one_answer : (t u : Steps) {x y a b : List ℕ} → CutShort ranges payload cut out room t x a → CutShort ranges payload cut out room u y b
      → (t ≡ u) × (x ≡ y) × (a ≡ b)
  one_answer t u {a = a} {b = b} h g =
      let r = one_reading (reads ranges payload cut out room) t.read u.read room a b (told h) (told g) in (
        ap₂ (λ (w : Result ℕ Unwritten) (v : Result ℕ Stopped). record { wrote = w; read = v })
            (one_size (writes ranges payload out) t.wrote u.wrote (record { number = h.wrote_number; size = h.wrote_size; index = h.wrote_index }) (record { number = g.wrote_number; size = g.wrote_size; index = g.wrote_index })) r.0,
        h.out_holds ∙ sym g.out_holds,
        r.1,
      )

-- there is no range after the last one
none_remain : (at cut : ℕ) → listed (remains at cut) ≡ []
unfolding listed
none_remain at cut = go (ltb at cut)
  where
    go : (b : Bool) → listed (if b then Refused ends_early at else Done) ≡ []
    go true = refl
    go false = refl

module _ (ranges payload : List ℕ) (cut : ℕ) (out room : List ℕ) (g : Given ranges payload cut out room) where
  abbrev ms : List (List ℕ)
  ms = messages_of ranges payload

  abbrev rs : List Range
  rs = whole cut ms

  wrote : writes ranges payload out ≡ Wrote (segment ms)
  wrote = (writing_well (length out) payload (ranges_of ranges) g.writes_well).0

  inside : cut ≤ length (segment ms)
  unfolding size
  inside = subst (λ (w : Writing). cut ≤ size w) wrote g.inside

  kept : CutReads ms cut (length room / range_stride)
  kept = cut_theorem payload (ranges_of ranges) (length out) cut (length room / range_stride) (segment ms) wrote g.front inside g.fits

  reads_are : reads ranges payload cut out room ≡ after rs (remains (end_of front_size rs) cut)
  unfolding sent
  reads_are = ap (λ (w : Writing). reading (length room / range_stride) (take cut (sent w))) wrote ∙ kept.reads

  listed_are : listed (reads ranges payload cut out room) ≡ rs
  listed_are =
      ap listed reads_are ∙ after_listed rs (remains (end_of front_size rs) cut) ∙ ap (λ (x : List Range). rs ++ x) (none_remain (end_of front_size rs) cut) ∙ append-nil rs

  pub left : (t : Steps) (out' room' : List ℕ) → CutShort ranges payload cut out room t out' room' → Left ranges payload cut room t out' room'
  unfolding output
  left t out' room' c =
      let count : read_count t.read ≡ length rs = c.read_count ∙ ap length listed_are in
      let bytes : take cut out' ≡ take cut (segment ms) =
      ap (take cut) (c.out_holds ∙ ap (λ (w : Writing). output w out) wrote) ∙ take-append-le cut (segment ms) (drop (length (segment ms)) out) inside in
      record {
        ranges_are = c.room_holds ∙ ap (λ (x : List Range). filled (stored x) room) listed_are;
        count_is = count;
        bytes_are = ap (λ (x : List ℕ). contents_of x rs) bytes ∙ kept.bytes ∙ ap (λ (n : ℕ). take n ms) (sym count);
        number_is = c.read_number ∙ ap number reads_are ∙ after_number rs (remains (end_of front_size rs) cut);
        place_is = c.read_place ∙ ap place reads_are ∙ after_place rs (remains (end_of front_size rs) cut);
      }

-- ---- each message by itself

map_contents {ℓ} : {A : Type ℓ} (f : List ℕ → A) (s : List ℕ) (rs : List Range) → map (λ (r : Range). f (content_of s r)) rs ≡ map f (contents_of s rs)
unfolding contents_of
map_contents f s [] = refl
map_contents {A = A} f s (r ∷ rs) = ap (λ (x : List A). f (content_of s r) ∷ x) (map_contents f s rs)

pub messages_read : MessagesRead
messages_read payload rs space cut s wrote front inside sch room =
    let ms : List (List ℕ) = contents_of payload rs in
    let w : List Range = whole cut ms in
    let is : s ≡ segment ms = (writing_leaves space payload rs s wrote).0 in
    map_contents (message.reading sch room) (take cut s) w
    ∙ ap (map (message.reading sch room))
    (ap (λ (x : List ℕ). contents_of (take cut x) w) is ∙ (cut_theorem payload rs space cut (length w) s wrote front inside (omega arith)).bytes)
