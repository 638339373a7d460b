-- The cycle of calls {put_inner, put_run}: the loop over a run calls put_inner for the run in a record, which calls put_run where that run has tags.
-- The measure is how many records are left to be written: those before `upto`, less the heads around the run, of which there is one for each level
-- and which the callers write. Assumes nothing.
use Rattle.std.proofs.Common.{◌-◌, ◌+◌, ◌*◌}
use Rattle.spec.specs.Record.{stride}
use Rattle.write.proofs.BackTurn.{Back}
use Rattle.write.proofs.bytes.+put_inner_put_run.Given as goal

abbrev pub decreases-put_inner : goal.decreases-put_inner
decreases-put_inner l = l.upto - stride * l.depth + 1

abbrev pub decreases-put_run : goal.decreases-put_run
decreases-put_run l = l.upto - stride * l.depth

abbrev pub invariant-put_run-loop-b : goal.invariant-put_run-loop-b
invariant-put_run-loop-b l = Back l.list l.payload l.initial.out l.depth l.upto l.pos l.b l.p l.out

abbrev pub decreases-put_run-loop-b : goal.decreases-put_run-loop-b
decreases-put_run-loop-b l = l.b
