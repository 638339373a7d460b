-- `segment::reading::messages` meets its contract. Assumes nothing.
use native.Mathlib.Omega.{arith}
use mathlib.Core.Path.{refl}
use lib.ListN.{length-set}
use Rattle.wire.specs.Answers.{value_at}
use Rattle.wire.proofs.FoundLaws.{varint_placed}
use Rattle.segment.proofs.EmitLaws.{message_there, message_short, message_bad, message_none, on_by, ends, stops, full, stores}
use Rattle.segment.proofs.reading.messages.Goals as goal
use Rattle.segment.proofs.reading.messages.Goals.{else-loop-at-test, then-loop-at-test+then-s-at}

pub returns-in-Err : goal.returns-in-Err
returns-in-Err c = stops (on_by c.loop-at.invariant c.quick-q.ensures) (message_bad _ _ _ c.in-Err.ensures c.if-s-at.false) c.stopped.ensures

pub overflow_sub-s : goal.overflow_sub-s
overflow_sub-s c = omega (arith, (varint_placed 4 15 _ _ {f = value_at c.in-Ok.f.value c.in-Ok.f.next} c.in-Ok.ensures refl).inside)

pub returns-then-s-f : goal.returns-then-s-f
returns-then-s-f c =
    stops (on_by c.loop-at.invariant c.quick-q.ensures) (message_short _ _ _ _ c.in-Ok.ensures c.if-s-f.true) c.stopped-then-s-f.ensures

pub returns-then-most-to : goal.returns-then-most-to
returns-then-most-to c =
    full (on_by c.loop-at.invariant c.quick-q.ensures) (message_there _ _ _ _ c.in-Ok.ensures c.if-s-f.false) c.if-most-to.true
    c.stopped-then-most-to.ensures

pub bounds-room-to-in-loop-at : goal.bounds-room-to-in-loop-at
bounds-room-to-in-loop-at c = simp length-set (omega (arith, c.quick-q.ensures.even, c.quick-q.ensures.kept, c.loop-at.invariant.kept, c.if-most-to.false))

pub loop-at-smaller : goal.loop-at-smaller
loop-at-smaller c =
    let there = varint_placed 4 15 _ _ {f = value_at c.in-Ok.f.value c.in-Ok.f.next} c.in-Ok.ensures refl in
    omega (arith, c.quick-q.ensures.on, c.if-s-f.false, there.past, there.inside)

pub loop-at-preserved : goal.loop-at-preserved
loop-at-preserved c =
    let there = varint_placed 4 15 _ _ {f = value_at c.in-Ok.f.value c.in-Ok.f.next} c.in-Ok.ensures refl in
    stores (on_by c.loop-at.invariant c.quick-q.ensures) (message_there _ _ _ _ c.in-Ok.ensures c.if-s-f.false) (omega (arith, there.past))
    (omega (arith, there.inside, c.if-s-f.false)) c.if-most-to.false (omega arith)

pub returns : goal.returns
returns c =
    elim c.loop-at-test.branch [
      | else-loop-at-test w ↦ rw (w.room-is, w.to-is) (ends c.loop-at.invariant (message_none _ _ w.loop-at-test.false))
      | then-loop-at-test+then-s-at w ↦ rw (w.room-is, w.to-is) (ends (on_by c.loop-at.invariant w.quick-q.ensures) (message_none _ _ w.if-s-at.true))
    ]
