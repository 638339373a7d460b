-- `segment::reading::quick` meets its contract. Assumes nothing.
use Prim.Native.Nat.{◌-◌}
use lib.ListN.{length}
use Rattle.segment.specs.Emit.{Further}
use Rattle.segment.proofs.reading.quick.Given as goal

abbrev pub invariant-loop-at : goal.invariant-loop-at
invariant-loop-at l = Further l.s l.most l.initial.room l.from l.used l.room l.at l.to

abbrev pub decreases-loop-at : goal.decreases-loop-at
decreases-loop-at l = length l.s - l.at
