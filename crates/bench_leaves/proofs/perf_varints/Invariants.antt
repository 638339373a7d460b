-- `bench_leaves::perf_varints` meets its contract. The loop's invariant: the whole answer is what the rest adds from here.
-- Assumes nothing.
use Prim.Native.Nat.{◌-◌}
use lib.ListN.{length}
use Rattle.bench_leaves.proofs.LoopLaws.{Xored}
use Rattle.bench_leaves.proofs.perf_varints.Given as goal

abbrev pub invariant-loop-at : goal.invariant-loop-at
invariant-loop-at l = Xored l.s l.at l.acc

abbrev pub decreases-loop-at : goal.decreases-loop-at
decreases-loop-at l = length l.s - l.at
