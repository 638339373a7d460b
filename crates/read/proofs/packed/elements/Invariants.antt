-- `read::packed::elements` meets its contract. Assumes nothing.
use Prim.Native.Nat.{◌-◌}
use lib.ListN.{length}
use Rattle.spec.specs.Kind.{shape}
use Rattle.spec.specs.Reading.{contents}
use Rattle.read.proofs.Turn.{Here}
use Rattle.read.proofs.packed.elements.Given as goal

abbrev pub invariant-loop-at : goal.invariant-loop-at
invariant-loop-at g l = Here (contents (shape l.kind) l.depth l.number l.kind l.tag) l.p l.off l.initial.room 0 l.from l.room l.at l.to

abbrev pub decreases-loop-at : goal.decreases-loop-at
decreases-loop-at g l = length l.p - l.at
