-- What the answers of this crate say, in the terms of the definitions. Assumes nothing: these are definitions. Public promises cite it.
use Rattle.std.specs.Prelude.{ℕ, ◌+◌, List, get_or, Option, Some, None, Result, Ok, Err}
use Rattle.std.proofs.Math.Option as math
use Rattle.spec.specs.Names.{child_column, entry_kind_column, entry_number_column, repeated_column}
use Rattle.spec.specs.Schema.{Says, entry_of}
use Rattle.spec.specs.declared.Entry.{Entry}
use Rattle.schema.specs.declared.Five.{Five}
use Rattle.spec.specs.declared.answers.Fault.{Fault}
use Rattle.spec.specs.declared.answers.Stopped.{Stopped}
use Rattle.spec.specs.declared.refusals.Refusal.TheVariants.{InvalidSchema}
use Rattle.schema.specs.declared.BadEntry.{BadEntry}
use Rattle.schema.specs.declared.Said.{Said}

-- the entry of five numbers, and those from a place on
abbrev pub entry : Five → Entry
entry f = entry_of f.owner f.number f.kind f.repeated f.child

abbrev pub five_at : List ℕ → ℕ → Five
five_at ns i = record { owner = get_or ns i 0; number = get_or ns (i + entry_number_column) 0; kind = get_or ns (i + entry_kind_column) 0; repeated = get_or ns (i + repeated_column) 0; child = get_or ns (i + child_column) 0 }

-- the place of the first bad entry
abbrev pub bad_place : Result (Unit {0}) BadEntry → math.Option ℕ
bad_place (Ok u) = math.none
bad_place (Err bad) = math.some bad.index

-- as the refusal of a list, and of a reading, which puts nothing into the room
abbrev pub as_fault : BadEntry → Fault
as_fault bad = record { refusal = InvalidSchema; index = bad.index }

abbrev pub as_stopped : BadEntry → Stopped
as_stopped bad = record { refusal = InvalidSchema; count = 0; place = bad.index }

-- the place of an entry
abbrev pub place : Option ℕ → math.Option ℕ
place (Some i) = math.some i
place None = math.none

abbrev pub said : Said → Says
said s = record { kind = s.kind; inner = s.inner }
