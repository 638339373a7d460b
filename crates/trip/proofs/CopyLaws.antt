-- What the steps of a copy leave for one another: the bytes at the front of an output, and the records at the front of a room. Assumes nothing.
use Prim.Native.Nat.{ℕ, ◌*◌, ◌/◌, ◌≤◌}
use native.Mathlib.Omega.{arith}
use mathlib.Core.Path.{◌≡◌, ap, ap₂, ◌∙◌}
use mathlib.Core.List.{List}
use mathlib.Core.Option.{Option, none, some}
use lib.ListN.{length, take, drop}
use lib.Seq.{take_at}
use lib.Dec.{ltb}
use Rattle.spec.specs.Base.{limit}
use Rattle.spec.specs.Schema.{Schema, bad_schema}
use Rattle.spec.specs.Record.{Record, stride, stored, records_of}
use Rattle.spec.specs.Reading.{Reading, plainly, looking, read, within, refused_or, called, reading_by, reading_as, reading, listed, room_after}
use Rattle.spec.specs.Writing.{Writing, number, size, sent_size, writing}
use Rattle.spec.proofs.Laws.{either_way}
use Rattle.spec.proofs.RecordLaws.{within_fits, stored_length, room_kept}
use Rattle.spec.proofs.FlatLaws.{records_stored}
use Rattle.spec.proofs.SizeLaws.{writing_answered, Leaves, answered_leaves}
use Rattle.std.specs.Prelude.{Result}
use Rattle.std.specs.Result.{result_unwrap_or}
use Rattle.spec.specs.declared.answers.Unwritten.{Unwritten}
use Rattle.spec.proofs.ToldLaws.{told_sent}
use Rattle.sizes.specs.Answers.{Tells}
use Rattle.trip.specs.Copy.{reads}

-- ---- an output

pub writing_leaves : (sch : Schema) (payload : List ℕ) (rs : List Record) (out : List ℕ) → Leaves (writing sch (length out) payload rs) out
writing_leaves sch payload rs out = answered_leaves out (writing_answered sch (length out) payload rs)

-- how many bytes of it are read, by its answer
pub told_size : (w : Writing) (a : Result ℕ Unwritten) → Tells w a → result_unwrap_or a 0 ≡ sent_size (number w) (size w)
told_size w a e = told_sent a ∙ ap₂ sent_size e.number e.size

-- ---- a room

reading_fits : (sch : Schema) (n : ℕ) (s : List ℕ) → length (listed (reading sch n s)) ≤ n
unfolding reading reading_as reading_by called refused_or listed
reading_fits sch n s = either_way (λ (q : Reading). length (listed q) ≤ n) (ltb limit (length s)) (omega arith) (go (bad_schema sch))
  where
    go : (bad : Option ℕ) → length (listed (refused_or bad (within n (read (looking plainly sch) 0 0 0 s)))) ≤ n
    go none = within_fits n (read (looking plainly sch) 0 0 0 s)
    go (some i) = omega arith

-- what a reading answers, and the room that it leaves
module _ (sch : Schema) (s room : List ℕ) {count : ℕ} {room' : List ℕ} (counts : count ≡ length (listed (reads sch s room)))
    (holds : room' ≡ room_after (reads sch s room) room) where
  pub count_fits : count ≤ length room / stride
  count_fits = omega (arith, reading_fits sch (length room / stride) s)

  pub room_same : length room' ≡ length room
  room_same = ap length holds ∙ room_kept (reads sch s room) room (reading_fits sch (length room / stride) s)

  -- the records that were listed stand at its front
  pub room_records : (k : ℕ) → k ≡ stride * count → records_of (take k room') ≡ listed (reads sch s room)
  room_records k is =
      let l : List Record = listed (reads sch s room) in
      ap (λ (x : List ℕ). records_of (take k x)) holds
      ∙ ap records_of (take_at (stored l) (drop (length (stored l)) room) k (omega (arith, stored_length l)))
      ∙ records_stored l
