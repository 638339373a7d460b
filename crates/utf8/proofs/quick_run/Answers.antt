-- `utf8::quick_run` meets its contract: each run has passed whole characters, and ASCII the byte before it.
-- Assumes nothing.
use native.Mathlib.Omega.{arith}
use Rattle.utf8.proofs.TextLaws.{stay, onward, ascii_byte}
use Rattle.utf8.proofs.quick_run.Goals as goal

pub returns-then-b-lt128 : goal.returns-then-b-lt128
returns-then-b-lt128 c = onward (ascii_byte (stay _ (omega arith)) (omega arith) (omega arith)) c.ascii_run.ensures
