-- What a reader does with lent room: each record in order is stored after those before it, until one does not fit. Assumes nothing: these are
-- definitions. That reading from the start of the room leaves what the definition of the call says is a law (proofs/EmitLaws). Only inner functions and loops cite it.
use Rattle.std.specs.Prelude.{ℕ, suc, ◌+◌, ◌/◌, ◌≤◌, ◌≡◌, List, [], ◌∷◌, length, set, leb, if◌then◌else◌, Result, Ok, Err}
use Rattle.spec.specs.Names.{no_room}
use Rattle.spec.specs.Told.{number_of}
use Rattle.spec.specs.declared.answers.Stopped.{Stopped}
use Rattle.spec.specs.Record.{Record, stride, numbers}
use Rattle.spec.specs.Reading.{Reading, Done, Refused, ◌then◌}
use Rattle.read.specs.declared.room.Stop.{Stop}

-- what a reader leaves: it goes on, with b numbers of the room in use; or it stops by the refusal k, whose place is p
pub data Left : Type 0 where
  going : (b : ℕ) → List ℕ → Left
  stopped : (k b p : ℕ) → List ℕ → Left

-- its answer, and the room
abbrev pub left : Result ℕ Stop → List ℕ → Left
left (Ok b) room = going b room
left (Err e) room = stopped (number_of e.refusal) e.to e.place room

-- the refusal of a call, which counts records
abbrev pub counted : Stop → Stopped
counted e = record { refusal = e.refusal; count = e.to / stride; place = e.place }

-- the room with the numbers xs stored from its number b + i on
unfoldable pub stored_from : List ℕ → (b i : ℕ) → List ℕ → List ℕ
stored_from room b i [] = room
stored_from room b i (x ∷ xs) = stored_from (set room (b + i) x) b (suc i) xs

-- the room with the record r at its number b
abbrev pub placed : List ℕ → ℕ → Record → List ℕ
placed room b r = stored_from room b 0 (numbers r)

-- with b numbers of the room in use
unfoldable pub emit : List ℕ → ℕ → Reading → Left
emit room b Done = going b room
emit room b (Refused k p) = stopped k b p room
emit room b (r then q) =
    let more = emit (placed room b r) (b + stride) q in
    if leb (b + stride) (length room) then more else stopped no_room b r.tag room

-- A part of the work is done, up to the place `at` of `most`: what was to be emitted before is what is to be emitted now, where `todo` is what
-- there is to do from a place on.
pub record Further (most : ℕ) (todo : ℕ → Reading) (room : List ℕ) (from b : ℕ) (room' : List ℕ) (at b' : ℕ) : Type 0 where
  pub same : emit room b (todo from) ≡ emit room' b' (todo at)
  pub on : from ≤ at
  pub inside : at ≤ most
  pub fits : b' ≤ length room'
  pub kept : length room' ≡ length room
