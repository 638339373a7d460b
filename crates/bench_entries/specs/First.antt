-- The schema of the first sixteen entries of some numbers. Assumes nothing: these are definitions. Public promises cite it.
use Rattle.std.specs.Prelude.{ℕ, ◌/◌, List, ltb, length, if◌then◌else◌}
use Rattle.spec.specs.Schema.{Schema, entries_of, entry_stride}

-- how many entries are made at most
abbrev pub most_made : ℕ
most_made = 16

-- how many entries are made of so many numbers
unfoldable pub first_count : ℕ → ℕ
first_count n = if ltb most_made (n / entry_stride) then most_made else n / entry_stride

-- Of at most sixteen entries with no remainder after them it is what `schema_of` says (proofs/FirstLaws).
unfoldable pub first_of : ℕ → List ℕ → Schema
first_of types ns = record { types = types; entries = entries_of (first_count (length ns)) ns }
