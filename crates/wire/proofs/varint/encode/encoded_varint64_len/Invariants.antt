-- `wire::varint::encode::encoded_varint64_len` meets its contract: the loop climbs while the next power of 128 is not above the value.
-- Assumes nothing.
use Prim.Native.Nat.{ℕ, ◌+◌, ◌-◌, ◌^◌, ◌≤◌}
use mathlib.Core.Path.{◌≡◌}
use Rattle.wire.proofs.varint.encode.encoded_varint64_len.Given as goal

-- v takes n bytes or more, and the next rung is 128 to the n
pub record Climbed (v n rung : ℕ) : Type 0 where
  pub low : 1 ≤ n
  pub reached : 128 ^ (n - 1) ≤ v
  pub next : rung ≡ 128 ^ n

abbrev pub invariant-loop-rung : goal.invariant-loop-rung
invariant-loop-rung l = Climbed l.value l.bytes l.rung

abbrev pub decreases-loop-rung : goal.decreases-loop-rung
decreases-loop-rung l = l.value + 1 - l.rung
