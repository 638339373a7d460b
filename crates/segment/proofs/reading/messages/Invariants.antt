-- `segment::reading::messages` meets its contract. Assumes nothing.
use Prim.Native.Nat.{◌-◌}
use lib.ListN.{length}
use Rattle.segment.specs.Segment.{front_size}
use Rattle.segment.specs.Emit.{Further}
use Rattle.segment.proofs.reading.messages.Given as goal

abbrev pub invariant-loop-at : goal.invariant-loop-at
invariant-loop-at l = Further l.s l.most l.initial.room front_size 0 l.room l.at l.to

abbrev pub decreases-loop-at : goal.decreases-loop-at
decreases-loop-at l = length l.s - l.at
