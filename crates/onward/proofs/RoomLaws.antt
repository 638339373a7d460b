-- The onward trip over the numbers in a room: what the older schema read is written from there, and the parts of its answer. Assumes nothing.
use Prim.Native.Nat.{ℕ}
use mathlib.Core.Path.{◌≡◌, ap, ◌∙◌}
use mathlib.Core.List.{List, append-nil}
use Rattle.spec.specs.Schema.{Schema}
use Rattle.spec.specs.Record.{Record, stored, records_of}
use Rattle.spec.specs.declared.Mode.{Mode}
use Rattle.spec.specs.Reading.{Done, reading_as, number, place, listed}
use Rattle.spec.specs.Writing.{Wrote, writing}
use Rattle.spec.proofs.RecordLaws.{after_number, after_place, after_listed}
use Rattle.spec.proofs.FlatLaws.{records_stored}
use Rattle.onward.specs.Onward.{GoesOnward}

pub again_from_room : {mode : Mode} {old new : Schema} {payload : List ℕ} {rs : List Record} {room space : ℕ} {s : List ℕ} (g : GoesOnward mode old new payload rs room space s)
    → writing old space s (records_of (stored g.list)) ≡ Wrote s
again_from_room {old} {space = space} {s = s} g = ap (writing old space s) (records_stored g.list) ∙ g.again

-- the parts of the older schema's answer: number 0 at place 0, and the list, of which the room holds the numbers
pub onward_answer : {mode : Mode} {old new : Schema} {payload : List ℕ} {rs : List Record} {room space : ℕ} {s : List ℕ} (g : GoesOnward mode old new payload rs room space s)
    → (number (reading_as mode old room s) ≡ 0) × (place (reading_as mode old room s) ≡ 0) × (listed (reading_as mode old room s) ≡ g.list)
unfolding number place listed
onward_answer g = (
  ap number g.reads ∙ after_number g.list Done,
  ap place g.reads ∙ after_place g.list Done,
  ap listed g.reads ∙ after_listed g.list Done ∙ append-nil g.list,
)
