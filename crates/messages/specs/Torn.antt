-- A segment that is written, cut short and read: what the two steps answer and leave, and what the user asks for of it; and that each message that is left reads as the
-- message that was written. Assumes nothing: these are definitions and statements. Public promises cite it.
use Rattle.std.specs.Prelude.{ℕ, ◌/◌, ◌≤◌, ◌≡◌, List, map, length, take}
use Rattle.spec.specs.Base.{filled}
use Rattle.spec.specs.Schema.{Schema}
use Rattle.spec.specs.Told as told
use Rattle.spec.specs.Reading as message
use Rattle.spec.specs.Writing.{Writing, Wrote, output, sent}
use Rattle.spec.specs.Writing as writer
use Rattle.segment.specs.Segment.{front_size, range_stride, Range, Ranges, ranges_of, stored, content_of, contents_of, reading, number, place, listed, room_after, writing}
use Rattle.segment.specs.Cut.{whole, end_of, remains}
use Rattle.messages.specs.declared.Steps.{Steps}

-- ---- the two steps

-- the messages that some numbers are ranges of
abbrev pub messages_of : (ranges payload : List ℕ) → List (List ℕ)
messages_of ranges payload = contents_of payload (ranges_of ranges)

-- first, they are written
abbrev pub writes : (ranges payload out : List ℕ) → Writing
writes ranges payload out = writing (length out) payload (ranges_of ranges)

-- then the first of the bytes that were written, up to the cut, are read
abbrev pub reads : (ranges payload : List ℕ) (cut : ℕ) (out room : List ℕ) → Ranges
reads ranges payload cut out room = reading (length room / range_stride) (take cut (sent (writes ranges payload out)))

-- What both answer, and what the two lent buffers then hold.
pub record CutShort (ranges payload : List ℕ) (cut : ℕ) (out room : List ℕ) (t : Steps) (out' room' : List ℕ) : Type 0 where
  pub wrote_number : told.written_number t.wrote ≡ writer.number (writes ranges payload out)
  pub wrote_size : told.written_size t.wrote ≡ writer.size (writes ranges payload out)
  pub wrote_index : told.written_index t.wrote ≡ writer.index (writes ranges payload out)
  pub out_holds : out' ≡ output (writes ranges payload out) out
  pub read_number : told.read_number t.read ≡ number (reads ranges payload cut out room)
  pub read_place : told.read_place t.read ≡ place (reads ranges payload cut out room)
  pub read_count : told.read_count t.read ≡ length (listed (reads ranges payload cut out room))
  pub room_holds : room' ≡ room_after (reads ranges payload cut out room) room

-- ---- what the user asks for

-- A segment was written, and is cut at a length of at least five bytes; there is room for the messages that are whole.
pub record Given (ranges payload : List ℕ) (cut : ℕ) (out room : List ℕ) : Type 0 where
  pub writes_well : writer.number (writes ranges payload out) ≡ 0
  pub front : front_size ≤ cut
  pub inside : cut ≤ writer.size (writes ranges payload out)
  pub fits : length (whole cut (messages_of ranges payload)) ≤ length room / range_stride

-- The room then holds the ranges of exactly the messages that end at or before the cut, each with its bytes; and the answer is 1 at the first byte of the next message's length if
-- bytes remain, else success.
pub record Left (ranges payload : List ℕ) (cut : ℕ) (room : List ℕ) (t : Steps) (out' room' : List ℕ) : Type 0 where
  pub ranges_are : room' ≡ filled (stored (whole cut (messages_of ranges payload))) room
  pub count_is : told.read_count t.read ≡ length (whole cut (messages_of ranges payload))
  pub bytes_are : contents_of (take cut out') (whole cut (messages_of ranges payload)) ≡ take (told.read_count t.read) (messages_of ranges payload)
  pub number_is : told.read_number t.read ≡ number (remains (end_of front_size (whole cut (messages_of ranges payload))) cut)
  pub place_is : told.read_place t.read ≡ place (remains (end_of front_size (whole cut (messages_of ranges payload))) cut)

-- ---- each message by itself

-- Each message that is left of a segment reads, under any schema and with any room, as the message that was written, so all that is known of reading single messages holds of it.
-- MessageLaws.messages_read proves it.
abbrev pub MessagesRead : Type 0
MessagesRead =
    (payload : List ℕ) (rs : List Range) (space cut : ℕ) (s : List ℕ) → writing space payload rs ≡ Wrote s → front_size ≤ cut → cut ≤ length s
    → (sch : Schema) (room : ℕ)
    → map (λ (r : Range). message.reading sch room (content_of (take cut s) r)) (whole cut (contents_of payload rs))
    ≡ map (message.reading sch room) (take (length (whole cut (contents_of payload rs))) (contents_of payload rs))
