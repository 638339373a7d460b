-- `write::bytes::put_varint` meets its contract: one byte, or two, or the general way. Assumes nothing.
use Prim.Native.Nat.{ℕ, ◌+◌, ◌-◌}
use mathlib.Core.Path.{refl, ap}
use native.Mathlib.Omega.{arith}
use lib.ListN.{length, length-set}
use Rattle.spec.specs.Varint.{encode}
use Rattle.write.proofs.EncodeLaws.{encode_ends, encode_two}
use Rattle.write.proofs.StoreLaws.{going, gone_on, gone}
use Rattle.write.proofs.bytes.put_varint.Goals as goal

pub overflow_sub-q : goal.overflow_sub-q
overflow_sub-q c = omega (arith, ap length (encode_ends c.args.v c.if-v-lt-TWO_BYTES.true))

pub bounds-out-q : goal.bounds-out-q
bounds-out-q c = omega (arith, ap length (encode_ends c.args.v c.if-v-lt-TWO_BYTES.true))

pub returns-then-v-lt-TWO_BYTES : goal.returns-then-v-lt-TWO_BYTES
returns-then-v-lt-TWO_BYTES c =
    let v : ℕ = c.args.v in
    let e = encode_ends v c.if-v-lt-TWO_BYTES.true in
    let q : ℕ = c.args.p - 1 in
    let g = going (encode v) c.args.out.now q c.args.p q refl (omega (arith, ap length e)) c.requires.inside in
    gone (gone_on g (q + 1) _ _ refl e) refl

pub overflow_sub-q-then-v-lt-THREE_BYTES : goal.overflow_sub-q-then-v-lt-THREE_BYTES
overflow_sub-q-then-v-lt-THREE_BYTES c = omega (arith, ap length (encode_two c.args.v (omega arith) c.if-v-lt-THREE_BYTES.true))

pub bounds-out-q-then-v-lt-THREE_BYTES : goal.bounds-out-q-then-v-lt-THREE_BYTES
bounds-out-q-then-v-lt-THREE_BYTES c = omega (arith, ap length (encode_two c.args.v (omega arith) c.if-v-lt-THREE_BYTES.true))

pub bounds-out-q-then-v-lt-THREE_BYTES-2 : goal.bounds-out-q-then-v-lt-THREE_BYTES-2
bounds-out-q-then-v-lt-THREE_BYTES-2 c = simp length-set (omega (arith, ap length (encode_two c.args.v (omega arith) c.if-v-lt-THREE_BYTES.true)))

pub returns-then-v-lt-THREE_BYTES : goal.returns-then-v-lt-THREE_BYTES
returns-then-v-lt-THREE_BYTES c =
    let v : ℕ = c.args.v in
    let e = encode_two v (omega arith) c.if-v-lt-THREE_BYTES.true in
    let q : ℕ = c.args.p - 2 in
    let g = going (encode v) c.args.out.now q c.args.p q refl (omega (arith, ap length e)) c.requires.inside in
    gone (gone_on (gone_on g (q + 1) _ _ refl e) (q + 1 + 1) _ _ refl refl) refl
