-- `wire::varint::decode::by_bytes` meets its contract, at any width. The loop's invariant: n bytes are passed, and `scale` is what the next one counts.
-- Assumes nothing.
use Prim.Native.Nat.{ℕ, ◌-◌, ◌^◌, ◌≤◌}
use mathlib.Core.Path.{◌≡◌}
use mathlib.Core.List.{List}
use Rattle.wire.specs.Reached.{Reached}
use Rattle.wire.proofs.varint.decode.by_bytes.Given as goal

-- `at` and the bytes passed, and what they make
pub record Passed (more last : ℕ) (s : List ℕ) (at n value scale : ℕ) : Type 0 where
  pub some : n ≤ more
  pub scaled : scale ≡ 128 ^ n
  pub reached : Reached more last s at n (more - n) value

abbrev pub invariant-loop-n : goal.invariant-loop-n
invariant-loop-n l = Passed l.more l.last l.s l.at l.n l.value l.scale
