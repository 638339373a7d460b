-- `segment::reading::read` meets its contract. Assumes nothing.
use mathlib.Core.Path.{refl}
use Rattle.segment.specs.Segment.{number, place, listed, stored}
use Rattle.segment.proofs.reading.read.Goals as goal

-- the front is refused: the room is as it was
pub returns-in-Err : goal.returns-in-Err
unfolding number place listed stored
returns-in-Err c = rw (c.in-Err.ensures.reads _, c.stopped.ensures) (refl, refl, refl, refl)

pub messages-requires : goal.messages-requires
messages-requires c = c.in_default.ensures.long

pub returns : goal.returns
returns c =
    let t = c.messages.ensures in
    rw (c.in_default.ensures.reads _) (t.refusal, t.at, t.count, t.leaves)
