-- The answers of the codec's functions, in the terms of the definitions.
-- Assumes nothing: these are definitions. Public promises cite it.
use Rattle.std.specs.Prelude.{ℕ, ◌+◌, ◌-◌, ◌≡◌, List, ◌++◌, length, take, drop, leb, if◌then◌else◌, Option, Some, None, Result, Ok, Err}
use Rattle.spec.specs.Base.{Read, Took, No}
use Rattle.spec.specs.Told.{number_of}
use Rattle.spec.specs.declared.refusals.Refusal.{Refusal}
use Rattle.wire.specs.declared.found.Found.{Found}

-- what was found at a position: the value and how many bytes it took, or the refusal's number
abbrev pub as_read : ℕ → Result Found Refusal → Read
as_read at (Ok f) = Took f.value (f.next - at)
as_read at (Err r) = No (number_of r)

-- the answer of a value, and the position after it
abbrev pub value_at : (value next : ℕ) → Result Found Refusal
value_at v n = Ok (record { value = v; next = n })

-- what a slice holds when `bytes` were stored at a position of it, where they have room
abbrev pub stored : ℕ → List ℕ → List ℕ → List ℕ
stored at bytes before = take at before ++ bytes ++ drop (at + length bytes) before

-- Where there is room for the bytes they are stored, and the answer is the position after them; else the slice is as it was.
pub record Stored (before : List ℕ) (at : ℕ) (bytes after : List ℕ) (answer : Option ℕ) : Type 0 where
  pub says : answer ≡ (if leb (at + length bytes) (length before) then Some (at + length bytes) else None)
  pub leaves : after ≡ (if leb (at + length bytes) (length before) then stored at bytes before else before)
