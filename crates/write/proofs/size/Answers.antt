-- `write::size` meets its contract: a fault of the check is told, or the size. Assumes nothing.
use Rattle.std.proofs.Common.{sym}
use Rattle.std.proofs.lemmas.Result.{err_from_is_err_and}
use Rattle.spec.specs.Schema.{schema_of}
use Rattle.spec.specs.Record.{records_of}
use Rattle.list.specs.Told.{as_verdict}
use Rattle.write.proofs.CallLaws.{check_given, size_faulty, size_fine}
use Rattle.write.proofs.size.Goals as goal

pub returns-in_err-check : goal.returns-in_err-check
unfolding as_verdict
returns-in_err-check c =
    let a = c.args in
    let p = err_from_is_err_and c.from_residual.result c.from_residual.ensures.1 in
    let t = size_faulty (schema_of a.types a.numbers.now) a.payload.now (records_of a.list.now) c.in_err-check.field-0.0 (sym c.in_err-check.ensures) in
    rw (p.1, p.2) (record { number = t.number; size = t.size; index = t.index })

pub list_size-requires : goal.list_size-requires
unfolding as_verdict
list_size-requires c = let a = c.args in (check_given (schema_of a.types a.numbers.now) a.payload.now a.list.now (sym c.in_ok-check.ensures)).passed

pub returns : goal.returns
unfolding as_verdict
returns c =
    let a = c.args in
    let t = size_fine (schema_of a.types a.numbers.now) a.payload.now (records_of a.list.now) (sym c.in_ok-check.ensures) c.by_size.ensures c.list_size.ensures in
    record { number = t.number; size = t.size; index = t.index }
