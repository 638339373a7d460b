-- `bench_pull::message::root` meets its contract. The loop's invariant: the whole answer is the answer for the fields from here on. Assumes nothing.
use Prim.Native.Nat.{◌-◌}
use lib.ListN.{length}
use Rattle.bench_pull.specs.Fields as spec
use Rattle.bench_pull.specs.Fields.{root_way}
use Rattle.bench_pull.proofs.FieldLaws.{Here}
use Rattle.bench_pull.proofs.message.root.Given as goal

abbrev pub invariant-loop-at : goal.invariant-loop-at
invariant-loop-at l = Here root_way (spec.root l.s) l.s l.at l.acc

abbrev pub decreases-loop-at : goal.decreases-loop-at
decreases-loop-at l = length l.s - l.at
