-- What a reader of a segment does with lent room: the two numbers of each range are stored after those before it, and where a loop is in that work.
-- Assumes nothing: these are definitions. That all of it, from the start of the room, leaves what the definition of the call says is a law
-- (proofs/EmitLaws). Only inner functions and loops cite it.
use Rattle.std.specs.Prelude.{ℕ, ◌+◌, ◌-◌, ◌/◌, ◌%◌, ◌≤◌, ◌≡◌, List, length, drop, set, Result, Ok, Err}
use Rattle.spec.specs.Told.{number_of, read_number, read_place, read_count}
use Rattle.spec.specs.declared.answers.Stopped.{Stopped}
use Rattle.spec.specs.declared.refusals.Refusal.{Refusal}
use Rattle.segment.specs.Segment.{Ranges, Done, Refused, ◌then◌, split, within, range_stride, number, place, listed, room_after}

-- how a reading ended: the refusal's number and place, 0 for none; how many numbers of the room are in use; the room
pub data Left : Type 0 where
  left : (number place used : ℕ) → List ℕ → Left

-- with b numbers of the room in use
unfoldable pub emit : List ℕ → ℕ → Ranges → Left
emit room b Done = left 0 0 b room
emit room b (Refused k p) = left k p b room
emit room b (r then q) = emit (set (set room b r.start) (b + 1) r.stop) (b + range_stride) q

-- what is still to be read of s, from `at` on, with `to` of the room's `most` numbers in use
abbrev pub to_read : (s : List ℕ) (most at to : ℕ) → Ranges
to_read s most at to = within ((most - to) / range_stride) (split at (drop at s))

-- A part of the work is done: what was to be stored before is what is to be stored now. Whole ranges are stored, so `to` is even.
pub record Further (s : List ℕ) (most : ℕ) (room : List ℕ) (from used : ℕ) (room' : List ℕ) (at to : ℕ) : Type 0 where
  pub same : emit room used (to_read s most from used) ≡ emit room' to (to_read s most at to)
  pub on : from ≤ at
  pub inside : at ≤ length s
  pub fits : to ≤ most
  pub even : to % range_stride ≡ 0
  pub kept : length room' ≡ length room

-- the answer of a reading q, and the room before it and after it
pub record Told (q : Ranges) (room : List ℕ) (answer : Result ℕ Stopped) (room' : List ℕ) : Type 0 where
  pub refusal : read_number answer ≡ number q
  pub at : read_place answer ≡ place q
  pub count : read_count answer ≡ length (listed q)
  pub leaves : room' ≡ room_after q room

-- what is read where the front is refused, or else after it
abbrev pub after_front : Result (Unit {0}) Refusal → Ranges → Ranges
after_front (Ok u) q = q
after_front (Err r) q = Refused (number_of r) 0
