-- `write::bytes::long_varint` meets its contract: the loop stores the varint's bytes but the last, and what is left is the varint of what is left of
-- the number. Assumes nothing.
use Prim.Native.Nat.{◌^◌, ◌<◌}
use Rattle.spec.specs.Varint.{encode}
use Rattle.write.proofs.StoreLaws.{Going}
use Rattle.write.proofs.bytes.long_varint.Given as goal

abbrev pub invariant-loop-x : goal.invariant-loop-x
invariant-loop-x l = Going (encode l.v) (encode l.x) l.initial.out l.q l.p l.out l.i × (l.x < 2 ^ 64)

abbrev pub decreases-loop-x : goal.decreases-loop-x
decreases-loop-x l = l.x
