-- `write::bytes::packed_from` meets its contract: where the run's head is packed, all records of the run stand at one depth and have one number.
-- Assumes nothing.
use Prim.Native.Nat.{ℕ, ◌*◌, ◌/◌, ◌≤◌}
use mathlib.Core.Path.{◌≡◌}
use mathlib.Core.List.{List}
use Rattle.spec.specs.Record.{stride}
use Rattle.write.specs.Backward.{start}
use Rattle.write.proofs.bytes.packed_from.Given as goal

-- the loop is at the place b, in the run
pub record Back (list : List ℕ) (d upto b : ℕ) : Type 0 where
  pub aligned : b ≡ stride * (b / stride)
  pub low : start list d (upto / stride) ≤ b / stride
  pub high : b ≤ upto

abbrev pub invariant-loop-b : goal.invariant-loop-b
invariant-loop-b l = Back l.list l.depth l.upto l.b

abbrev pub decreases-loop-b : goal.decreases-loop-b
decreases-loop-b l = l.b
