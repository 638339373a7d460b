-- `read::message::short_ints` meets its contract. Assumes nothing.
use Prim.Native.Nat.{◌+◌, ◌-◌}
use mathlib.Core.Path.{◌≡◌}
use lib.ListN.{length}
use Rattle.spec.specs.declared.Mode.{Mode}
use Rattle.spec.specs.Reading.{read}
use Rattle.read.specs.Prepared.{prepared}
use Rattle.read.proofs.Turn.{Here}
use Rattle.read.proofs.message.short_ints.Given as goal

abbrev pub invariant-loop-at : goal.invariant-loop-at
invariant-loop-at l =
    ((mode : Mode) → Here (read (prepared mode l.keys l.info) l.depth l.ty) l.s l.off l.initial.room l.initial.at l.initial.to l.room l.at l.to) × (l.here ≡ l.off + l.at)

abbrev pub decreases-loop-at : goal.decreases-loop-at
decreases-loop-at l = length l.s - l.at
