-- `skip::document::is_rest` meets its contract. The loop's invariant: what is to be said of all the bytes is what is said from here, with
-- the groups that are open. Assumes nothing.
use Rattle.std.proofs.Common.{◌-◌, [], ◌∷◌, length, drop, reverse}
use Rattle.spec.proofs.DocumentLaws.{walk}
use Rattle.skip.proofs.DocumentTurn.{From}
use Rattle.skip.proofs.document.is_rest.Given as goal

abbrev pub invariant-loop-at : goal.invariant-loop-at
invariant-loop-at l = From (walk (l.first ∷ []) (drop l.from l.s)) l.s (reverse l.numbers.items) l.at

abbrev pub decreases-loop-at : goal.decreases-loop-at
decreases-loop-at l = length l.s - l.at
