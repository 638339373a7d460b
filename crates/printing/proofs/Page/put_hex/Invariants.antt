-- What is left are the digits from the byte on that comes next.
use Rattle.std.proofs.Common.{drop}
use Rattle.printing.specs.Text.{hexadecimal}
use Rattle.printing.proofs.TextLaws.{Left}
use Rattle.printing.proofs.Page.put_hex.Given as goal

abbrev pub invariant-loop-b : goal.invariant-loop-b
invariant-loop-b l = Left (hexadecimal l.bytes) l.initial.self (hexadecimal (drop l.b-index l.bytes)) l.self
