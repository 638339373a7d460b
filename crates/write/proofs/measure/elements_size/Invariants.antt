-- `write::measure::elements_size` meets its contract. The loop's invariant: what the values take in all is what was added, and the rest of them.
-- Assumes nothing.
use Prim.Native.Nat.{ℕ, ◌-◌}
use mathlib.Core.Bool.{false}
use lib.ListN.{length}
use Rattle.spec.specs.Record.{records_from}
use Rattle.spec.proofs.RunLaws.{Row}
use Rattle.write.proofs.Turn.{Here}
use Rattle.write.proofs.measure.elements_size.Given as goal

abbrev pub invariant-loop-at : goal.invariant-loop-at
invariant-loop-at l = Here false l.list l.from l.depth l.at l.size × ((m : ℕ) × Row l.depth m l.kind (records_from l.list l.at))

abbrev pub decreases-loop-at : goal.decreases-loop-at
decreases-loop-at l = length l.list - l.at
