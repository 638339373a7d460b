-- A list that is copied by way of an older schema: what each of the three steps answers and leaves, and demand 3 about it.
-- Assumes nothing: these are definitions. Public promises cite it.
use Rattle.std.specs.Prelude.{ℕ, ◌*◌, ◌/◌, ◌≤◌, ◌≡◌, List, map, length, take, Result}
use Rattle.spec.specs.Schema.{Schema}
use Rattle.spec.specs.Record.{Record, stride, records_of}
use Rattle.spec.specs.Reading.{Reading, reading, number, place, listed, room_after}
use Rattle.spec.specs.Writing.{written, Writing, writing, output, sent}
use Rattle.spec.specs.Told.{read_number, read_place, read_count, written_number, written_size}
use Rattle.spec.specs.declared.answers.Stopped.{Stopped}
use Rattle.spec.specs.declared.answers.Unwritten.{Unwritten}
use Rattle.sizes.specs.Answers.{Tells}
use Rattle.onward.specs.Onward.{seen, onward, Given}
use Rattle.trip.specs.declared.Trip.{Trip}

-- ---- the three steps

-- first, the list that the numbers are is written under the newer schema
abbrev pub writes : (new : Schema) (list payload bytes : List ℕ) → Writing
writes new list payload bytes = writing new (length bytes) payload (records_of list)

-- then its bytes s are read under the older one
abbrev pub reads : (old : Schema) (s room : List ℕ) → Reading
reads old s room = reading old (length room / stride) s

-- and the records that were read are written under the older one, with s for their payload
abbrev pub rewrites : (old : Schema) (s room again : List ℕ) → Writing
rewrites old s room again = writing old (length again) s (listed (reads old s room))

-- What the last two of them answer, and what the room and the output then hold.
pub record PassedOn (old : Schema) (s room again : List ℕ) (got : Result ℕ Stopped) (rewrote : Result ℕ Unwritten) (room' again' : List ℕ) : Type 0 where
  pub number_is : read_number got ≡ number (reads old s room)
  pub place_is : read_place got ≡ place (reads old s room)
  pub count_is : read_count got ≡ length (listed (reads old s room))
  pub room_holds : room' ≡ room_after (reads old s room) room
  pub rewrote_is : Tells (rewrites old s room again) rewrote
  pub again_holds : again' ≡ output (rewrites old s room again) again

-- What all three answer, and what the three lent buffers then hold. The bytes that were written are what is read.
pub record Copied (new old : Schema) (list payload bytes room again : List ℕ) (t : Trip) (bytes' room' again' : List ℕ) : Type 0 where
  pub wrote_is : Tells (writes new list payload bytes) t.wrote
  pub bytes_hold : bytes' ≡ output (writes new list payload bytes) bytes
  pub passed : PassedOn old (sent (writes new list payload bytes)) room again t.read t.again room' again'

-- ---- demand 3

-- What the demand asks for, of the schemas and the list, and of room for its records and its bytes; and room for the bytes once more.
pub record Demanded (new old : Schema) (list payload bytes room again : List ℕ) : Type 0 where
  pub given : Given old new payload (records_of list) (length room / stride) (length bytes)
  pub room_again : length (written payload (records_of list)) ≤ length again

-- the bytes that were written, the records that were read, and the bytes that were written again
abbrev pub message : Trip → List ℕ → List ℕ
message t bytes = take (written_size t.wrote) bytes

abbrev pub list_read : Trip → List ℕ → List Record
list_read t room = records_of (take (stride * read_count t.read) room)

abbrev pub message_again : Trip → List ℕ → List ℕ
message_again t again = take (written_size t.again) again

-- What it promises: no step is refused; the list that was read shows what an older schema is to read of the list; and the bytes that were
-- written again are the bytes that were written.
pub record Unharmed (old : Schema) (list payload : List ℕ) (t : Trip) (bytes room again : List ℕ) : Type 0 where
  pub writes_well : written_number t.wrote ≡ 0
  pub reads_well : read_number t.read ≡ 0
  pub rewrites_well : written_number t.again ≡ 0
  pub bytes_of_list : message t bytes ≡ written payload (records_of list)
  pub shows : map (seen (message t bytes)) (list_read t room) ≡ onward old payload (records_of list)
  pub same_bytes : message_again t again ≡ message t bytes
