-- What the pull reader's structs say, in the definitions' terms. Assumes nothing: these are definitions. Public promises cite it.
use Rattle.std.specs.Prelude.{ℕ, List, [], length, ltb, if◌then◌else◌, Option, Some, None}
use Rattle.spec.specs.Names.{too_large}
use Rattle.spec.specs.Base.{limit}
use Rattle.spec.specs.Pull as spec
use Rattle.spec.specs.Told.{number_of}
use Rattle.spec.specs.declared.refusals.Refusal.{Refusal}
use Rattle.pull.specs.Told.{said_told}
use Rattle.pull.specs.declared.reader.Reader.{Reader}
use Rattle.pull.specs.declared.reader.Opened.{Opened}
use Rattle.pull.specs.declared.reader.Stepped.{Stepped}
use Rattle.pull.specs.declared.reader.Entered.{Entered}
use Rattle.pull.specs.declared.reader.Once.{Once}

abbrev pub reader_told : Reader → spec.Reader
reader_told r = spec.reader r.s.now r.at r.level

-- the number of the refusal, 0 for none
abbrev pub opening_number : Option Refusal → ℕ
opening_number None = 0
opening_number (Some r) = number_of r

abbrev pub opened_told : Opened → spec.Opened
opened_told n = record { number = opening_number n.refused; reader = reader_told n.reader }

abbrev pub stepped_told : Stepped → spec.Stepped
stepped_told n = record { said = said_told n.said; reader = reader_told n.reader }

abbrev pub entered_told : Entered → spec.Entered
entered_told n = record { said = said_told n.said; inner = reader_told n.inner; outer = reader_told n.outer }

-- opening, in its two parts
abbrev pub open_number : List ℕ → ℕ
open_number s = if ltb limit (length s) then too_large else 0

abbrev pub first_part : List ℕ → List ℕ
first_part s = if ltb limit (length s) then [] else s

-- entering, in numbers: what is said, the outer reader's position, the inner one's level
pub record Entering : Type 0 where
  pub said : spec.Said
  pub at : ℕ
  pub level : ℕ

abbrev pub entering : spec.Entered → Entering
entering n = record { said = n.said; at = n.outer.at; level = n.inner.level }

abbrev pub once_told : Once → Entering
once_told r = record { said = said_told r.said; at = r.at; level = r.level }
