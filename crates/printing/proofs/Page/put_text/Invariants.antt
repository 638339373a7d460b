-- What is left of the text stands from the byte on that comes next.
use Rattle.std.proofs.Common.{drop}
use Rattle.printing.proofs.TextLaws.{Left}
use Rattle.printing.proofs.Page.put_text.Given as goal

abbrev pub invariant-loop-b : goal.invariant-loop-b
invariant-loop-b l = Left l.text l.initial.self (drop l.b-index l.text) l.self
