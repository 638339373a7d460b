-- `utf8::utf8_prefix` meets its contract: the ASCII in front, which may be all, and the end of what is valid after it.
-- Assumes nothing.
use native.Mathlib.Nat.{zero-add}
use native.Mathlib.Omega.{arith}
use mathlib.Core.Path.{◌∙◌}
use Rattle.utf8.proofs.TextLaws.{ends, whole}
use Rattle.utf8.proofs.utf8_prefix.Goals as goal

pub returns-then-i-s : goal.returns-then-i-s
returns-then-i-s c = whole c.ascii_run-i.ensures (omega arith) ∙ zero-add _

pub returns : goal.returns
returns c = ends c.ascii_run-i.ensures c.valid_end.ensures ∙ zero-add _
