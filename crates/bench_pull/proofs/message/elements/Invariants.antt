-- `bench_pull::message::elements` meets its contract. The loop's invariant: the whole answer is what the elements from here add.
-- Assumes nothing.
use Prim.Native.Nat.{◌-◌}
use lib.ListN.{length}
use Rattle.bench_pull.proofs.FieldLaws.{Rest}
use Rattle.bench_pull.proofs.message.elements.Given as goal

abbrev pub invariant-loop-at : goal.invariant-loop-at
invariant-loop-at l = Rest l.s l.from l.at l.acc

abbrev pub decreases-loop-at : goal.decreases-loop-at
decreases-loop-at l = length l.s - l.at
