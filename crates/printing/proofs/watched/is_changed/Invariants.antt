-- Of the elements before the one that comes next, one is not the pattern.
use Rattle.std.specs.Prelude.{◌≡◌, not, take}
use Rattle.std.specs.List.{list_any}
use Rattle.printing.proofs.watched.is_changed.Given as goal

abbrev pub invariant-loop-x : goal.invariant-loop-x
invariant-loop-x g l = l.changed ≡ list_any (λ x. not (g.T.PartialEq.eq x l.pattern)) (take l.x-index l.list)
