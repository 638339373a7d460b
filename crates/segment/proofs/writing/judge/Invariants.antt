-- `segment::writing::judge` meets its contract. The loop's invariant: what is judged in all is what the numbers that are left give from here.
-- Assumes nothing.
use mathlib.Core.Path.{◌≡◌}
use Rattle.segment.specs.Segment.{range_stride}
use Rattle.segment.proofs.JudgeLaws.{Here}
use Rattle.segment.proofs.writing.judge.Given as goal

abbrev pub invariant-loop-index : goal.invariant-loop-index
invariant-loop-index l =
    let numbers = l.index-iterator.iter in
    (numbers.size ≡ range_stride) × Here l.ranges l.payload l.size l.index-iterator.count numbers.rest.now
