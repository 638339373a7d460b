-- `skip::document::is_run` meets its contract. The loop's invariant: what is to be said of all the bytes is what is said from here, with
-- no group open. Assumes nothing.
use Prim.Native.Nat.{◌-◌}
use mathlib.Core.List.{[]}
use lib.ListN.{length}
use Rattle.skip.proofs.DocumentTurn.{From, run}
use Rattle.skip.proofs.document.is_run.Given as goal

abbrev pub invariant-loop-at : goal.invariant-loop-at
invariant-loop-at l = From (run l.s) l.s [] l.at

abbrev pub decreases-loop-at : goal.decreases-loop-at
decreases-loop-at l = length l.s - l.at
