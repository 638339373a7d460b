-- `list::run::list_fault` meets its contract. The loop's invariant: the answer for the list is the answer for the records from here on. Assumes nothing.
use Prim.Native.Nat.{◌-◌}
use lib.ListN.{length}
use Rattle.list.proofs.RunTurn.{Going}
use Rattle.list.proofs.run.list_fault.Given as goal

abbrev pub invariant-loop-at : goal.invariant-loop-at
invariant-loop-at l =
    Going l.keys l.info l.list l.payload l.open l.owner.ty l.depth l.at

abbrev pub decreases-loop-at : goal.decreases-loop-at
decreases-loop-at l = length l.list - l.at
