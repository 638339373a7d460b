-- The cycle of calls {below_size, run_size}: the loop over a run of records calls below_size for what lies below a head, which calls run_size for a
-- message's fields. What falls is the rest of the list. The loop's invariant: what the run takes in all is what was added, and the rest of it.
-- Assumes nothing.
use Rattle.std.proofs.Common.{length, ◌-◌, ◌+◌, ◌*◌, true}
use Rattle.write.proofs.Turn.{Here}
use Rattle.write.proofs.measure.+below_size_run_size.Given as goal

abbrev pub decreases-below_size : goal.decreases-below_size
decreases-below_size l = 2 * (length l.list.now - l.from) + 1

abbrev pub decreases-run_size : goal.decreases-run_size
decreases-run_size l = 2 * (length l.list.now - l.from)

abbrev pub invariant-run_size-loop-at : goal.invariant-run_size-loop-at
invariant-run_size-loop-at l = Here true l.list l.from l.depth l.at l.size

abbrev pub decreases-run_size-loop-at : goal.decreases-run_size-loop-at
decreases-run_size-loop-at l = length l.list - l.at
