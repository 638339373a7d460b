-- `read::scalar::int_at` meets its contract: the varint, its range, its meaning. Assumes nothing.
use Rattle.std.proofs.lemmas.Result.{err_from_is_err_and}
use Rattle.read.specs.Answers.{int_by}
use Rattle.read.proofs.scalar.int_at.Goals as goal

pub returns-in_err-value : goal.returns-in_err-value
unfolding int_by
returns-in_err-value c =
    let p = err_from_is_err_and c.from_residual.result c.from_residual.ensures.1 in
    rw (p.1, p.2, ← c.is_varint32.ensures, ← c.in_err-value.ensures)

pub returns-then-not-in_range : goal.returns-then-not-in_range
unfolding int_by
returns-then-not-in_range c = rw (← c.is_varint32.ensures, ← c.in_ok-value.ensures, ← c.in_range.ensures, c.if-not-in_range.true)

pub returns-in-Some : goal.returns-in-Some
unfolding int_by
returns-in-Some c = rw (← c.is_varint32.ensures, ← c.in_ok-value.ensures, ← c.in_range.ensures, c.if-not-in_range.false, ← c.in-Some.ensures)

pub returns-in-None : goal.returns-in-None
unfolding int_by
returns-in-None c = rw (← c.is_varint32.ensures, ← c.in_ok-value.ensures, ← c.in_range.ensures, c.if-not-in_range.false, ← c.in-None.ensures)
