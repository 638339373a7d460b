-- `utf8::ascii_run` meets its contract. The loop's invariant: from i up to j stand whole characters. The measure is what is left of the length.
-- Assumes nothing.
use native.Mathlib.Omega.{arith}
use Rattle.utf8.proofs.TextLaws.{ascii_byte}
use Rattle.utf8.proofs.ascii_run.Goals as goal

pub loop-j-preserved : goal.loop-j-preserved
loop-j-preserved c = ascii_byte c.loop-j.invariant (omega arith) (omega arith)
