-- The cycle of calls {skip_field, skip_group}: the loop over the fields of a group calls skip_field for a group within, which calls
-- skip_group for it, one level deeper. The measure is how many bytes are left: after a tag they are fewer. Assumes nothing.
use Rattle.std.proofs.Common.{length, ◌-◌, ◌+◌, ◌*◌}
use Rattle.skip.specs.Passed.{at_end}
use Rattle.skip.proofs.GroupTurn.{Here}
use Rattle.skip.proofs.unknown_or_group.+skip_field_skip_group.Given as goal

abbrev pub decreases-skip_field : goal.decreases-skip_field
decreases-skip_field l = 2 * (length l.s.now - l.at) + 1

abbrev pub decreases-skip_group : goal.decreases-skip_group
decreases-skip_group l = 2 * (length l.s.now - l.from)

abbrev pub invariant-skip_group-loop-at : goal.invariant-skip_group-loop-at
invariant-skip_group-loop-at l = Here (at_end l.outer) l.level l.s l.from l.at

abbrev pub decreases-skip_group-loop-at : goal.decreases-skip_group-loop-at
decreases-skip_group-loop-at l = length l.s - l.at
