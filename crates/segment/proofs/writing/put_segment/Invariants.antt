-- `segment::writing::put_segment` meets its contract. The loop's invariant: storing the messages of the ranges that are left gives what storing all
-- of them gives. Assumes nothing.
use mathlib.Core.Path.{◌≡◌}
use Rattle.segment.specs.Segment.{range_stride}
use Rattle.segment.proofs.PutLaws.{Going}
use Rattle.segment.proofs.writing.put_segment.Given as goal

abbrev pub invariant-loop-range : goal.invariant-loop-range
invariant-loop-range l = (l.range-iterator.size ≡ range_stride) × Going l.ranges l.payload l.initial.out l.out l.at l.range-iterator.rest.now
