-- `write::write_checked` meets its contract: the answer by the size is the definition's, and bytes are put where it is no refusal. Assumes nothing.
use native.Mathlib.Omega.{arith}
use mathlib.Core.Path.{sym, ◌∙◌}
use lib.ListN.{length}
use Rattle.std.proofs.lemmas.Result.{err_from_is_err_and}
use Rattle.spec.specs.Record.{records_of}
use Rattle.spec.specs.Writing.{written}
use Rattle.write.proofs.CallLaws.{by_written, sized_ok, sized_err}
use Rattle.write.proofs.write_checked.Goals as goal

pub returns-in_err-size : goal.returns-in_err-size
returns-in_err-size c =
    let a = c.args in
    let p = err_from_is_err_and c.from_residual.result c.from_residual.ensures.1 in
    let t = by_written (length a.out.now) a.payload.now (records_of a.list.now) c.requires.held c.in_err-size.ensures c.list_size.ensures in
    rw (p.1, p.2) (record { answer = t; output = sym (sized_err (length a.out.now) (written a.payload.now (records_of a.list.now)) a.out.now t) })

pub put_list-requires : goal.put_list-requires
put_list-requires c =
    let a = c.args in
    let t = by_written (length a.out.now) a.payload.now (records_of a.list.now) c.requires.held c.in_ok-size.ensures c.list_size.ensures in
    let h = sized_ok (length a.out.now) (written a.payload.now (records_of a.list.now)) a.out.now t in
    (c.record_wires.ensures, c.requires, h.0, omega (arith, h.0, h.1))

pub returns : goal.returns
returns c =
    let a = c.args in
    let t = by_written (length a.out.now) a.payload.now (records_of a.list.now) c.requires.held c.in_ok-size.ensures c.list_size.ensures in
    let h = sized_ok (length a.out.now) (written a.payload.now (records_of a.list.now)) a.out.now t in
    record { answer = t; output = c.put_list.ensures ∙ sym h.2 }
