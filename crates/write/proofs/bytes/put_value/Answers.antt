-- `write::bytes::put_value` meets its contract, whatever the hint: one byte, or one of the general ways. Assumes nothing.
use Prim.Native.Nat.{ℕ, ◌+◌, ◌-◌}
use mathlib.Core.Path.{refl, ap}
use native.Mathlib.Omega.{arith}
use lib.ListN.{length}
use Rattle.spec.specs.Varint.{encode}
use Rattle.write.proofs.EncodeLaws.{encode_ends}
use Rattle.write.proofs.StoreLaws.{going, gone_on, gone}
use Rattle.write.proofs.bytes.put_value.Goals as goal

pub overflow_sub-pos : goal.overflow_sub-pos
overflow_sub-pos c = omega (arith, ap length (encode_ends c.args.v c.if-v-lt-TWO_BYTES.true))

pub bounds-out-pos : goal.bounds-out-pos
bounds-out-pos c = omega (arith, ap length (encode_ends c.args.v c.if-v-lt-TWO_BYTES.true))

pub returns-then-v-lt-TWO_BYTES : goal.returns-then-v-lt-TWO_BYTES
returns-then-v-lt-TWO_BYTES c =
    let v : ℕ = c.args.v in
    let e = encode_ends v c.if-v-lt-TWO_BYTES.true in
    let q : ℕ = c.args.p - 1 in
    let g = going (encode v) c.args.out.now q c.args.p q refl (omega (arith, ap length e)) c.requires.inside in
    gone (gone_on g (q + 1) _ _ refl e) refl
