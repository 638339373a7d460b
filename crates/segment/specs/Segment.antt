-- A segment file: the letters WFM, a 16-bit little-endian version, and then each message after its length. What it reads as, and how it is written.
-- Assumes nothing: these are definitions, from the user's request. Public promises cite it.
use Rattle.std.specs.Prelude.{ℕ, zero, suc, ◌+◌, ◌*◌, Bool, ◌&&◌, not, List, [], ◌∷◌, ◌++◌, length, drop, get_or, leb, ltb, eqb, if◌then◌else◌}
use Rattle.std.proofs.Math.Option.{Option, none, some}
use Rattle.spec.specs.Names.{bad_mark, invalid_list, no_room, other_version, too_large}
use Rattle.spec.specs.Base.{part, filled, limit, Read, Took, No}
use Rattle.spec.specs.Varint.{varint32}
use Rattle.spec.specs.Skip.{content}
use Rattle.spec.specs.Writing.{prefixed, Writing, Failed, sized}

-- ---- its bytes

-- the letters W, F and M
abbrev pub letter_w : ℕ
letter_w = 0x57

abbrev pub letter_f : ℕ
letter_f = 0x46

abbrev pub letter_m : ℕ
letter_m = 0x4d

abbrev pub version : ℕ
version = 1

-- what stands before the first message's length: the letters, and the version, its low byte first
abbrev pub front : List ℕ
front = letter_w ∷ letter_f ∷ letter_m ∷ version ∷ 0 ∷ []

abbrev pub front_size : ℕ
front_size = 5

-- messages, each after its length
unfoldable pub messages : List (List ℕ) → List ℕ
messages [] = []
messages (m ∷ ms) = prefixed m ++ messages ms

unfoldable pub segment : List (List ℕ) → List ℕ
segment ms = front ++ messages ms

-- ---- ranges

-- where a message starts and ends in the segment, and the place of its length's first byte, which refusals tell
pub record Range : Type 0 where
  pub start : ℕ
  pub stop : ℕ
  pub place : ℕ

abbrev pub range : (start stop place : ℕ) → Range
range a e p = record { start = a; stop = e; place = p }

-- A reading: its ranges in order, and then how it ended: well, or with a refusal's number and place.
infixr 20 ◌then◌
pub data Ranges : Type 0 where
  Done : Ranges
  Refused : ℕ → ℕ → Ranges
  ◌then◌ : Range → Ranges → Ranges

-- ranges, and then a reading: `after rs Done` is the ranges rs and no refusal
unfoldable pub after : List Range → Ranges → Ranges
after [] q = q
after (r ∷ rs) q = r then after rs q

-- its parts: number, place and ranges, whose count is their length
unfoldable pub number : Ranges → ℕ
number Done = 0
number (Refused k p) = k
number (r then q) = number q

unfoldable pub place : Ranges → ℕ
place Done = 0
place (Refused k p) = p
place (r then q) = place q

unfoldable pub listed : Ranges → List Range
listed Done = []
listed (Refused k p) = []
listed (r then q) = r ∷ listed q

-- ---- reading

-- A message's content was found from a up to e, and reading goes on; or its length was refused, at the length's place p.
unfoldable pub found : Read → ℕ → (ℕ → ℕ → Ranges) → Ranges
found (Took a e) p next = next a e
found (No k) p next = Refused k p

-- The messages in s, which stands at `at`: a length of 32 bits, and as many bytes. k is no less than the number of bytes.
unfoldable pub split_up_to : ℕ → ℕ → List ℕ → Ranges
split_up_to zero at s = Done
split_up_to (suc k) at [] = Done
split_up_to (suc k) at (b ∷ s) =
    found (content varint32 (b ∷ s)) at λ a e.
    range (at + a) (at + e) at then split_up_to k (at + e) (drop e (b ∷ s))

unfoldable pub split : ℕ → List ℕ → Ranges
split at s = split_up_to (length s) at s

-- with room for n ranges
unfoldable pub within : ℕ → Ranges → Ranges
within n Done = Done
within n (Refused k p) = Refused k p
within zero (r then q) = Refused no_room r.place
within (suc n) (r then q) = r then within n q

abbrev pub marked : List ℕ → Bool
marked s = leb front_size (length s) && eqb (get_or s 0 0) letter_w && eqb (get_or s 1 0) letter_f && eqb (get_or s 2 0) letter_m

abbrev pub version_of : List ℕ → ℕ
version_of s = get_or s 3 0 + 256 * get_or s 4 0

-- the call: 13, then 14, then 11, then the messages from left to right
unfoldable pub reading : ℕ → List ℕ → Ranges
reading room s =
    if not (marked s) then Refused bad_mark 0 else
    if not (eqb (version_of s) version) then Refused other_version 0 else
    if ltb limit (length s) then Refused too_large 0 else
    within room (split front_size (drop front_size s))

-- ---- as numbers, two a range: start and end

abbrev pub range_stride : ℕ
range_stride = 2

unfoldable pub stored : List Range → List ℕ
stored [] = []
stored (r ∷ rs) = r.start ∷ r.stop ∷ stored rs

-- what the lent room then holds: the ranges, and after them what it held
abbrev pub room_after : Ranges → List ℕ → List ℕ
room_after q room = filled (stored (listed q)) room

-- The ranges that some numbers are. A remainder of one number is a range that ends before it starts, which lies in no payload.
unfoldable pub ranges_of : List ℕ → List Range
ranges_of [] = []
ranges_of (a ∷ []) = range 1 0 0 ∷ []
ranges_of (a ∷ e ∷ ns) = range a e 0 ∷ ranges_of ns

-- ---- writing

-- what stands in a range of some bytes
abbrev pub content_of : List ℕ → Range → List ℕ
content_of s r = part r.start r.stop s

unfoldable pub contents_of : List ℕ → List Range → List (List ℕ)
contents_of s [] = []
contents_of s (r ∷ rs) = content_of s r ∷ contents_of s rs

-- whether a range lies in the payload
abbrev pub lies : List ℕ → Range → Bool
lies payload r = leb r.start r.stop && leb r.stop (length payload)

-- the index of the first range outside the payload, counted from i
unfoldable pub bad_range : ℕ → List ℕ → List Range → Option ℕ
bad_range i payload [] = none
bad_range i payload (r ∷ rs) =
    let later = bad_range (i + 1) payload rs in
    if lies payload r then later else some i

unfoldable pub ranges_first : Option ℕ → Writing → Writing
ranges_first none w = w
ranges_first (some i) w = Failed invalid_list 0 i

-- The call: 10 with the index, then 11, then 12 with the size needed. What the output then holds is `output` of it, as for a message.
unfoldable pub writing : ℕ → List ℕ → List Range → Writing
writing room payload rs = ranges_first (bad_range 0 payload rs) (sized room (segment (contents_of payload rs)))

-- The size call answers as writing does where there is all the room that can be needed.
unfoldable pub sizing : List ℕ → List Range → Writing
sizing payload rs = writing limit payload rs
