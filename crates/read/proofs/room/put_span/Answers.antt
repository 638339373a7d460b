-- `read::room::put_span` meets its contract. Assumes nothing.
use native.Mathlib.Omega.{arith}
use Rattle.read.proofs.FieldTurn.{span_passed, span_full, span_stored}
use Rattle.read.proofs.room.put_span.Goals as goal

pub returns-then-room-from-lt-STRIDE : goal.returns-then-room-from-lt-STRIDE
returns-then-room-from-lt-STRIDE c = span_full _ _ _ _ _ _ _ c.if-mode.true (omega arith) c.if-room-from-lt-STRIDE.true

pub put-requires : goal.put-requires
put-requires c = omega (arith, c.if-room-from-lt-STRIDE.false)

pub returns-then-mode : goal.returns-then-mode
returns-then-mode c = span_stored _ _ _ _ _ _ _ c.if-mode.true (omega arith) (omega (arith, c.if-room-from-lt-STRIDE.false)) c.put.ensures.0 c.put.ensures.1

pub returns : goal.returns
returns c = span_passed _ _ _ _ _ _ _ c.if-mode.false
