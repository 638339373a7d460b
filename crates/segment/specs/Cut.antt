-- What is promised of segments: written ranges read back, and a segment that was cut gives the messages that are whole.
-- Assumes nothing: these are definitions and statements. Public promises cite it.
use Rattle.std.specs.Prelude.{ℕ, ◌+◌, ◌≤◌, ◌≡◌, List, [], ◌∷◌, length, take, leb, ltb, if◌then◌else◌}
use Rattle.std.proofs.Math.Option.{none}
use Rattle.spec.specs.Names.{ends_early}
use Rattle.spec.specs.Base.{limit}
use Rattle.spec.specs.Varint.{encode}
use Rattle.spec.specs.Writing.{prefixed, Wrote}
use Rattle.segment.specs.Segment.{front_size, segment, Range, range, Ranges, Done, Refused, after, reading, contents_of, bad_range, writing}

-- where the messages ms stand, when the first one's length stands at `at`
unfoldable pub ranges_at : ℕ → List (List ℕ) → List Range
ranges_at at [] = []
ranges_at at (m ∷ ms) = range (at + length (encode (length m))) (at + length (prefixed m)) at ∷ ranges_at (at + length (prefixed m)) ms

-- those of a segment
abbrev pub ranges_in : List (List ℕ) → List Range
ranges_in ms = ranges_at front_size ms

-- ---- written, then read

-- Ranges of a payload are written, and read as ranges of the segment with the same contents; the segment's own ranges are written as the same segment.
pub record ReadsBack (payload : List ℕ) (rs : List Range) (room space : ℕ) (s : List ℕ) : Type 0 where
  pub writes : writing space payload rs ≡ Wrote s
  pub list : List Range
  pub reads : reading room s ≡ after list Done
  pub count : length list ≡ length rs
  pub shows : contents_of s list ≡ contents_of payload rs
  pub again : writing space s list ≡ Wrote s

-- SegmentLaws.reads_back proves it.
abbrev pub WrittenThenRead : Type 0
WrittenThenRead =
    (payload : List ℕ) (rs : List Range) (room space : ℕ) → bad_range 0 payload rs ≡ none → length (segment (contents_of payload rs)) ≤ limit
    → length rs ≤ room → length (segment (contents_of payload rs)) ≤ space
    → ReadsBack payload rs room space (segment (contents_of payload rs))

-- ---- cut

-- the messages that end at or before the cut
unfoldable pub ending_by : ℕ → List Range → List Range
ending_by cut [] = []
ending_by cut (r ∷ rs) =
    let kept = r ∷ ending_by cut rs in
    let left_out = ending_by cut rs in
    if leb r.stop cut then kept else left_out

-- where the last of some ranges ends, and the next message's length stands; `at` where there are none
unfoldable pub end_of : ℕ → List Range → ℕ
end_of at [] = at
end_of at (r ∷ rs) = end_of r.stop rs

-- 1 if bytes remain after `at`, of a segment that was cut at this length, else success
abbrev pub remains : ℕ → ℕ → Ranges
remains at cut = if ltb at cut then Refused ends_early at else Done

-- those of the messages ms that are whole in a segment of them that was cut
abbrev pub whole : ℕ → List (List ℕ) → List Range
whole cut ms = ending_by cut (ranges_in ms)

-- A segment of the messages ms that was cut, and read with this room, gives exactly the messages that are whole, then 1 at the first byte of the next one's
-- length if bytes remain, else success; and each has its bytes.
pub record CutReads (ms : List (List ℕ)) (cut room : ℕ) : Type 0 where
  pub reads : reading room (take cut (segment ms)) ≡ after (whole cut ms) (remains (end_of front_size (whole cut ms)) cut)
  pub bytes : contents_of (take cut (segment ms)) (whole cut ms) ≡ take (length (whole cut ms)) ms

-- A segment that was written from any ranges, cut at any length of at least five bytes, and read with room for the messages that are whole.
-- CutLaws.cut_theorem proves it.
abbrev pub CutTheorem : Type 0
CutTheorem =
    (payload : List ℕ) (rs : List Range) (space cut room : ℕ) (s : List ℕ) → writing space payload rs ≡ Wrote s → front_size ≤ cut → cut ≤ length s
    → length (whole cut (contents_of payload rs)) ≤ room
    → CutReads (contents_of payload rs) cut room
