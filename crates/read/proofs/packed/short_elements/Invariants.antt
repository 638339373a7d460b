-- `read::packed::short_elements` meets its contract. Assumes nothing.
use Prim.Native.Nat.{◌+◌, ◌-◌}
use mathlib.Core.Path.{◌≡◌}
use lib.ListN.{length}
use Rattle.spec.specs.Kind.{shape}
use Rattle.spec.specs.Reading.{contents}
use Rattle.read.proofs.Turn.{Here}
use Rattle.read.proofs.packed.short_elements.Given as goal

abbrev pub invariant-loop-at : goal.invariant-loop-at
invariant-loop-at l =
    Here (contents (shape l.kind) l.depth l.number l.kind l.tag) l.p l.off l.initial.room l.initial.at l.initial.to l.room l.at l.to × (l.start ≡ l.off + l.at)

abbrev pub decreases-loop-at : goal.decreases-loop-at
decreases-loop-at l = length l.p - l.at
