-- Reading under the two tables of a schema, and that it is reading under the schema.
-- Assumes nothing: these are definitions. Public promises cite it.
use Rattle.std.specs.Prelude.{ℕ, ◌≡◌, List}
use Rattle.spec.specs.Schema.{Schema, bad_schema}
use Rattle.spec.specs.declared.Mode.{Mode}
use Rattle.spec.specs.Reading.{Look, reading_by, reading_as}
use Rattle.schema.specs.Tables.{keys_of, info_of, table_says}

-- what two tables say, and the mode
abbrev pub prepared : Mode → (keys info : List ℕ) → Look
prepared mode keys info = record { says = table_says keys info; mode = mode }

-- The tables of a schema read as the schema does, where its bad entry is refused first. So `read_prepared` of the tables of a valid schema is `reading`.
-- CallLaws.prepared_reads proves it.
abbrev pub PreparedReads : Type 0
PreparedReads =
    (mode : Mode) (sch : Schema) (room : ℕ) (s : List ℕ)
    → reading_by (bad_schema sch) (prepared mode (keys_of sch) (info_of sch)) room s ≡ reading_as mode sch room s
