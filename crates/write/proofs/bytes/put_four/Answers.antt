-- `write::bytes::put_four` meets its contract: four bytes, one after the other. Assumes nothing.
use Prim.Native.Nat.{ℕ, ◌+◌, ◌-◌}
use mathlib.Core.Path.{refl}
use native.Mathlib.Omega.{arith}
use lib.ListN.{length-set}
use Rattle.write.specs.Backward.{four}
use Rattle.write.proofs.StoreLaws.{going, gone_on, gone}
use Rattle.write.proofs.bytes.put_four.Goals as goal

pub bounds-out-q-2 : goal.bounds-out-q-2
bounds-out-q-2 c = simp length-set (omega arith)

pub bounds-out-q-3 : goal.bounds-out-q-3
bounds-out-q-3 c = simp length-set (omega arith)

pub bounds-out-q-4 : goal.bounds-out-q-4
bounds-out-q-4 c = simp length-set (omega arith)

pub returns : goal.returns
returns c =
    let q : ℕ = c.args.p - 4 in
    let g = going (four c.args.v) c.args.out.now q c.args.p q refl (omega arith) c.requires.1 in
    let g₁ = gone_on g (q + 1) _ _ refl refl in
    let g₂ = gone_on g₁ (q + 2) _ _ (omega arith) refl in
    let g₃ = gone_on g₂ (q + 3) _ _ (omega arith) refl in
    let g₄ = gone_on g₃ (q + 4) _ _ (omega arith) refl in
    gone g₄ refl
