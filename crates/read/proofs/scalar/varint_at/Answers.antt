-- `read::scalar::varint_at` meets its contract: the width by the flag. Assumes nothing.
use Rattle.std.proofs.lemmas.Result.{err_from_is_err_and}
use Rattle.read.proofs.scalar.varint_at.Goals as goal

pub returns-then-narrow : goal.returns-then-narrow
returns-then-narrow c = rw c.if-narrow.true c.in_ok-value.ensures

pub returns : goal.returns
returns c = rw c.if-narrow.false c.in_ok-value-2.ensures

pub returns-in_err-value : goal.returns-in_err-value
returns-in_err-value c =
    let p = err_from_is_err_and c.from_residual.result c.from_residual.ensures.1 in
    rw (p.1, p.2, c.if-narrow.true) c.in_err-value.ensures

pub returns-in_err-value-2 : goal.returns-in_err-value-2
returns-in_err-value-2 c =
    let p = err_from_is_err_and c.from_residual-in_err-value-2.result c.from_residual-in_err-value-2.ensures.1 in
    rw (p.1, p.2, c.if-narrow.false) c.in_err-value-2.ensures
