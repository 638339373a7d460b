-- `write::bytes::put_values` meets its contract: the values from the place b on are stored, and the one before it goes in front of them.
-- Assumes nothing.
use Prim.Native.Nat.{ℕ, ◌*◌, ◌/◌, ◌≤◌}
use mathlib.Core.Path.{◌≡◌}
use mathlib.Core.Bool.{false}
use mathlib.Core.List.{List}
use Rattle.spec.specs.Record.{stride}
use Rattle.spec.proofs.WritingLaws.{bytes_in}
use Rattle.write.specs.Backward.{Stored, span}
use Rattle.write.proofs.bytes.put_values.Given as goal

-- the bytes of the values from index j on
abbrev pub rest : List ℕ → List ℕ → ℕ → ℕ → List ℕ
rest list payload upto j = bytes_in false payload (span list j (upto / stride))

-- those from the place b on are stored
pub record Back (list payload out : List ℕ) (first upto pos b p : ℕ) (now : List ℕ) : Type 0 where
  pub aligned : b ≡ stride * (b / stride)
  pub low : first ≤ b
  pub high : b ≤ upto
  pub stored : Stored (rest list payload upto (b / stride)) pos out p now

abbrev pub invariant-loop-b : goal.invariant-loop-b
invariant-loop-b l = Back l.list l.payload l.initial.out l.first l.upto l.pos l.b l.p l.out

abbrev pub decreases-loop-b : goal.decreases-loop-b
decreases-loop-b l = l.b
