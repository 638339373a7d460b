-- `write::bytes::long_varint` meets its contract: the loop stores the varint's bytes but the last, and what is left is the varint of what is left of
-- the number. Assumes nothing.
use Prim.Native.Nat.{ℕ, ◌+◌, ◌/◌, ◌%◌}
use mathlib.Core.Path.{◌≡◌, refl, ap}
use mathlib.Core.List.{[], ◌∷◌}
use native.Mathlib.Omega.{arith}
use lib.ListN.{length}
use Rattle.spec.specs.Varint.{encode}
use Rattle.spec.proofs.VarintLaws.{length_encode}
use Rattle.write.proofs.EncodeLaws.{encode_ends, encode_goes_on}
use Rattle.write.proofs.StoreLaws.{going, gone_on, gone}
use Rattle.write.proofs.bytes.long_varint.Goals as goal
use Rattle.write.proofs.bytes.long_varint.Goals.{In-loop-x, After-loop-x}

pub overflow_sub-q : goal.overflow_sub-q
overflow_sub-q c = omega (arith, length_encode c.args.v)

pub loop-x-init : goal.loop-x-init
loop-x-init c =
    let a = c.args in
    (going (encode a.v) a.out.now _ a.p _ refl (omega (arith, length_encode a.v)) (omega arith), omega arith)

-- the next byte
more : (c : In-loop-x) → let x : ℕ = c.loop-x.x in encode x ≡ (128 + x % 128) ∷ encode (x / 128)
more c = encode_goes_on c.loop-x.x c.loop-x-test.true c.loop-x.invariant.1

last : (c : After-loop-x) → encode c.loop-x.x ≡ c.loop-x.x ∷ []
last c = encode_ends c.loop-x.x (omega arith)

pub bounds-out-i : goal.bounds-out-i
bounds-out-i c = omega (arith, ap length (more (goal.at.bounds-out-i c).In-loop-x))

pub overflow_add-i : goal.overflow_add-i
overflow_add-i c = omega (arith, ap length (more (goal.at.overflow_add-i c).In-loop-x))

pub loop-x-preserved : goal.loop-x-preserved
loop-x-preserved c = (gone_on c.loop-x.invariant.0 _ _ _ refl (more (goal.at.loop-x-preserved c).In-loop-x), omega arith)

pub bounds-out-i-2 : goal.bounds-out-i-2
bounds-out-i-2 c = omega (arith, ap length (last (goal.at.bounds-out-i-2 c).After-loop-x))

pub shape_of-out : goal.shape_of-out
shape_of-out c = (gone_on c.loop-x.invariant.0 _ _ _ refl (last (goal.at.shape_of-out c).After-loop-x)).long

pub returns : goal.returns
returns c = gone (gone_on c.loop-x.invariant.0 _ _ _ refl (last (goal.at.returns c).After-loop-x)) refl
