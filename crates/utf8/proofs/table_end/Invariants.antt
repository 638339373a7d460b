-- `utf8::table_end` meets its contract. The loop's invariant: from i up to j stand whole characters. The measure is what is left of the length.
-- Assumes nothing.
use Prim.Native.Nat.{◌-◌}
use lib.ListN.{length}
use Rattle.utf8.specs.Text.{Passed}
use Rattle.utf8.proofs.table_end.Given as goal

abbrev pub invariant-loop-j : goal.invariant-loop-j
invariant-loop-j l = Passed l.s l.i l.j

abbrev pub decreases-loop-j : goal.decreases-loop-j
decreases-loop-j l = length l.s - l.j
