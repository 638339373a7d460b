-- `bench_leaves::perf_put_varints` meets its contract. The loop's invariant: what is to be stored in all is what the rest stores from here.
-- Assumes nothing.
use mathlib.Core.Path.{◌≡◌}
use lib.ListN.{length}
use Rattle.bench_leaves.proofs.LoopLaws.{Putting}
use Rattle.bench_leaves.proofs.perf_put_varints.Given as goal

abbrev pub invariant-loop-value : goal.invariant-loop-value
invariant-loop-value l = Putting l.values l.initial.out l.at l.value-index l.out × (length l.out ≡ length l.initial.out)
