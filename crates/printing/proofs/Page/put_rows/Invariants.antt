-- What is left are the rows from the number on that comes next, at its column.
use Rattle.printing.proofs.TextLaws.{Rowing}
use Rattle.printing.proofs.Page.put_rows.Given as goal

abbrev pub invariant-loop-n : goal.invariant-loop-n
invariant-loop-n l = Rowing l.layout.last l.layout.first l.layout.between l.layout.within l.list l.initial.self l.before l.column l.n-index l.self
