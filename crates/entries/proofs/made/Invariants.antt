-- `entries::made` meets its contract. Assumes nothing.
use Rattle.entries.proofs.NumbersLaws.{Here}
use Rattle.entries.proofs.made.Given as goal

abbrev pub invariant-loop-i : goal.invariant-loop-i
invariant-loop-i l = Here l.numbers l.initial.room l.i l.room
