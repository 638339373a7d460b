-- `list::check` meets its contract. Assumes nothing.
use Rattle.std.proofs.Common.{sym, ◌∙◌}
use Rattle.std.proofs.lemmas.Result.{err_from_is_err_and}
use Rattle.spec.specs.Schema.{schema_of}
use Rattle.schema.specs.Tables.{keys_of, info_of}
use Rattle.list.specs.Told.{as_verdict}
use Rattle.list.proofs.CallLaws.{tables_made, check_bad, check_valid}
use Rattle.list.proofs.check.Goals as goal

pub returns-in_err-note_entries : goal.returns-in_err-note_entries
unfolding as_verdict
returns-in_err-note_entries c =
    let p = err_from_is_err_and c.from_residual.result c.from_residual.ensures.1 in
    rw (p.1, p.2) (check_bad _ _ _ (sym c.in_err-note_entries.ensures.0))

pub returns : goal.returns
unfolding keys_of info_of
returns c =
    let a = c.args in
    let valid = sym c.in_ok-note_entries.ensures.0 in
    c.list_fault.ensures (schema_of a.types a.numbers.now) (tables_made (schema_of a.types a.numbers.now) valid _ _ c.note_entries.ensures.1 c.note_entries.ensures.2)
    ∙ check_valid _ _ _ valid
