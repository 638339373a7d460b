-- `entries::copy` meets its contract. Assumes nothing.
use Rattle.entries.proofs.StoringLaws.{SoFar}
use Rattle.entries.proofs.copy.Given as goal

abbrev pub invariant-loop-i : goal.invariant-loop-i
invariant-loop-i l = SoFar l.entries l.initial.numbers l.i l.numbers
