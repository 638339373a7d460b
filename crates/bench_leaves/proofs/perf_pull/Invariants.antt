-- `bench_leaves::perf_pull` meets its contract. The loop's invariant: the whole answer is what the steps from here add.
-- Assumes nothing.
use Prim.Native.Nat.{◌-◌}
use lib.ListN.{length}
use Rattle.bench_leaves.proofs.LoopLaws.{Pulled}
use Rattle.bench_leaves.proofs.perf_pull.Given as goal

abbrev pub invariant-loop-at : goal.invariant-loop-at
invariant-loop-at l = Pulled l.s l.at l.acc

abbrev pub decreases-loop-at : goal.decreases-loop-at
decreases-loop-at l = length l.s - l.at
