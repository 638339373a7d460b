-- The cycle of calls {message, store}: the loop over the fields of a message calls `store` for each record, which calls `message` for the content
-- of a message, one level deeper. The measure is how many levels are left below. Assumes nothing.
use Rattle.std.proofs.Common.{length, ◌-◌, ◌+◌, ◌*◌}
use Rattle.spec.specs.Names.{deepest}
use Rattle.spec.specs.Reading.{read}
use Rattle.read.specs.Prepared.{prepared}
use Rattle.read.proofs.Turn.{Here}
use Rattle.read.proofs.message.+message_store.Given as goal

abbrev pub decreases-message : goal.decreases-message
decreases-message l = 2 * (deepest - l.depth) + 1

abbrev pub decreases-store : goal.decreases-store
decreases-store l = 2 * (deepest - l.depth)

abbrev pub invariant-message-loop-at : goal.invariant-message-loop-at
invariant-message-loop-at l = Here (read (prepared l.mode l.keys l.info) l.depth l.ty) l.s l.off l.initial.room 0 l.from l.room l.at l.to

abbrev pub decreases-message-loop-at : goal.decreases-message-loop-at
decreases-message-loop-at l = length l.s - l.at
