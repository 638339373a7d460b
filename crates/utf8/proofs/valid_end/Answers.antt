-- `utf8::valid_end` meets its contract. The loop's invariant: from i up to j stand whole characters. The measure is what is left of the length.
-- Assumes nothing.
use native.Mathlib.Omega.{arith}
use Rattle.utf8.proofs.TextLaws.{stay, onward, ends, whole}
use Rattle.utf8.proofs.valid_end.Goals as goal

pub loop-j-init : goal.loop-j-init
loop-j-init c = stay _ c.requires

pub returns-then-k-j : goal.returns-then-k-j
returns-then-k-j c = ends c.loop-j.invariant c.table_end.ensures

pub loop-j-preserved : goal.loop-j-preserved
loop-j-preserved c = onward c.loop-j.invariant c.quick_run-k.ensures

pub returns : goal.returns
returns c = whole c.loop-j.invariant (omega arith)
