-- What reading without dropped spans accepts is a list that writing takes. Assumes nothing: these are definitions. Only laws cite it.
use Rattle.std.specs.Prelude.{ℕ, ◌≤◌, ◌<◌, ◌≡◌, false, List, length, get_or}
use Rattle.spec.specs.Schema.{Schema}
use Rattle.spec.specs.Record.{Record}
use Rattle.spec.specs.Reading.{Mode, Done, after, reading_as}
use Rattle.spec.specs.Writing.{written, Fine, list_check}

-- all are below 256, as what a slice of bytes holds
abbrev pub Bytes : List ℕ → Type 0
Bytes s = (i : ℕ) → get_or s i 0 < 256

-- The list rs is valid under the schema, with the bytes s for its payload, and its writing is no longer than s.
pub record IsValid (sch : Schema) (s : List ℕ) (rs : List Record) : Type 0 where
  pub valid : list_check sch s rs ≡ Fine
  pub no_longer : length (written s rs) ≤ length s

-- So it is of what was read of s, where reading ended well and was not asked for dropped spans: its writing refuses no record, and no size. ValidLaws.reading_valid proves it.
abbrev pub ReadingValid : Type 0
ReadingValid =
    (mode : Mode) → mode.dropped ≡ false → (sch : Schema) (room : ℕ) (s : List ℕ) (rs : List Record) → Bytes s
    → reading_as mode sch room s ≡ after rs Done → IsValid sch s rs
