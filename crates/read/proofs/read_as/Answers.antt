-- `read::read_as` meets its contract. Assumes nothing.
use Prim.Native.Nat.{ℕ, ◌/◌}
use mathlib.Core.Path.{sym, ap, ap₂, ◌∙◌}
use mathlib.Core.List.{List}
use mathlib.Core.Option.{Option, none}
use lib.ListN.{length}
use Rattle.std.proofs.lemmas.Result.{err_from_is_err_and}
use Rattle.spec.specs.declared.refusals.Refusal.TheVariants.{InvalidSchema, TooLarge}
use Rattle.spec.specs.Record.{stride}
use Rattle.spec.specs.Schema.{schema_of}
use Rattle.spec.specs.Reading.{Reading, reading_by, reading_as, number, place, listed, room_after}
use Rattle.schema.specs.Tables.{keys_of, info_of}
use Rattle.read.specs.Prepared.{prepared}
use Rattle.read.proofs.CallLaws.{answers_refused, reading_long, reading_bad, prepared_reads}
use Rattle.read.proofs.read_as.Goals as goal

pub returns-then-s-gt-MOST_BYTES : goal.returns-then-s-gt-MOST_BYTES
unfolding reading_as
returns-then-s-gt-MOST_BYTES c = answers_refused _ TooLarge 0 _ (reading_long _ _ _ _ c.if-s-gt-MOST_BYTES.true)

pub returns-in_err-note_entries : goal.returns-in_err-note_entries
unfolding reading_as
returns-in_err-note_entries c =
    let p = err_from_is_err_and c.from_residual.result c.from_residual.ensures.1 in
    rw (p.1, p.2) (answers_refused _ InvalidSchema _ _ (reading_bad _ _ _ _ c.if-s-gt-MOST_BYTES.false (sym c.in_err-note_entries.ensures.0)))

pub returns : goal.returns
unfolding keys_of info_of
returns c =
    let a = c.args in
    let h = c.read_prepared_as.ensures in
    let sch = schema_of a.types a.numbers.now in
    let n = length a.room.now / stride in
    let valid = sym c.in_ok-note_entries.ensures.0 in
    let same =
    ap₂ (λ (keys info : List ℕ). reading_by none (prepared a.mode keys info) n a.s.now) c.note_entries.ensures.1 c.note_entries.ensures.2
    ∙ ap (λ (bad : Option ℕ). reading_by bad (prepared a.mode (keys_of sch) (info_of sch)) n a.s.now) (sym valid)
    ∙ prepared_reads a.mode sch n a.s.now in
    (h.0 ∙ ap number same, h.1 ∙ ap place same, h.2 ∙ ap (λ (q : Reading). length (listed q)) same, h.3 ∙ ap (λ (q : Reading). room_after q a.room.now) same)
