-- `write::write` meets its contract: a fault of the check is told and leaves the output as it was, or the list is written. Assumes nothing.
use Rattle.std.proofs.Common.{length, sym, ap, ◌∙◌}
use Rattle.std.proofs.lemmas.Result.{err_from_is_err_and}
use Rattle.spec.specs.Schema.{schema_of}
use Rattle.spec.specs.Record.{records_of}
use Rattle.spec.specs.Writing.{Writing, output}
use Rattle.list.specs.Told.{as_verdict}
use Rattle.sizes.proofs.AnswerLaws.{tells_as}
use Rattle.write.proofs.CallLaws.{check_given, writing_fine, told_faulty, output_faulty}
use Rattle.write.proofs.write.Goals as goal

pub returns-in_err-check : goal.returns-in_err-check
unfolding as_verdict
returns-in_err-check c =
    let a = c.args in
    let sch = schema_of a.types a.numbers.now in
    let room = length a.out.now in
    let bad = sym c.in_err-check.ensures in
    let p = err_from_is_err_and c.from_residual.result c.from_residual.ensures.1 in
    let t = told_faulty sch room a.payload.now (records_of a.list.now) c.in_err-check.field-0.0 bad in
    rw (p.1, p.2)
    (record { number = t.number; size = t.size; index = t.index; output = sym (output_faulty sch room a.payload.now (records_of a.list.now) a.out.now bad) })

pub write_checked-requires : goal.write_checked-requires
unfolding as_verdict
write_checked-requires c = let a = c.args in check_given (schema_of a.types a.numbers.now) a.payload.now a.list.now (sym c.in_ok-check.ensures)

pub returns : goal.returns
unfolding as_verdict
returns c =
    let a = c.args in
    let same = writing_fine (schema_of a.types a.numbers.now) (length a.out.now) a.payload.now (records_of a.list.now) (sym c.in_ok-check.ensures) in
    let t = tells_as same c.write_checked.ensures.answer in
    record { number = t.number; size = t.size; index = t.index; output = c.write_checked.ensures.output ∙ sym (ap (λ (w : Writing). output w a.out.now) same) }
