-- What the answers of skipping say, in the terms of the definitions.
-- Assumes nothing: these are definitions. Public promises cite it.
use Rattle.std.specs.Prelude.{ℕ, ◌+◌, ◌-◌, Bool, true, false, ⊤, Result, Ok, Err}
use Rattle.spec.specs.Names.{ends_early}
use Rattle.spec.specs.Base.{Read, Took, No}
use Rattle.spec.specs.Told.{number_of, refusal_of}
use Rattle.spec.specs.declared.refusals.Refusal.{Refusal}

-- what was skipped from a position on: as many bytes as lie before the place after it, or the refusal's number
abbrev pub past : ℕ → Result ℕ Refusal → Read
past at (Ok next) = Took 0 (next - at)
past at (Err r) = No (number_of r)

-- the other way round: the place after what was read at a position, whatever its value, or the refusal
unfoldable pub behind : ℕ → Read → Result ℕ Refusal
behind at (Took v n) = Ok (at + n)
behind at (No k) = Err (refusal_of k)

-- what the end of the bytes means: it is refused in the outermost group of an unknown field, and closes any other
abbrev pub at_end : Bool → Read
at_end true = No ends_early
at_end false = Took 0 0

-- a check that passed reads nothing; the number of one that did not
abbrev pub passed_check : Result ⊤ Refusal → Read
passed_check (Ok u) = Took 0 0
passed_check (Err r) = No (number_of r)

-- a skip: the refusal's number, 0 for none; how many bytes it took, 0 on refusal
abbrev pub skipped_number : Result ℕ Refusal → ℕ
skipped_number (Ok n) = 0
skipped_number (Err r) = number_of r

abbrev pub skipped_used : Result ℕ Refusal → ℕ
skipped_used (Ok n) = n
skipped_used (Err r) = 0
