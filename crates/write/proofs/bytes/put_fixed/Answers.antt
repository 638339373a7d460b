-- `write::bytes::put_fixed` meets its contract: the bytes stand in their place. Assumes nothing.
use Prim.Native.Nat.{ℕ, ◌+◌, ◌-◌}
use mathlib.Core.Path.{◌≡◌, sym, ap, ap₂, ◌∙◌}
use mathlib.Core.List.{List, ◌++◌, append_assoc}
use native.Mathlib.Omega.{arith}
use lib.ListN.{length, take, drop}
use lib.Seq.{drop-drop}
use borrow.Rule.Slice.PartMut.{put_mid}
use Rattle.write.proofs.StoreLaws.{in_place}
use Rattle.write.proofs.bytes.put_fixed.Goals as goal

pub returns : goal.returns
returns g c =
    let out : List ℕ = c.args.out.now in
    let q : ℕ = c.args.p - g.row.N in
    let many : c.args.p - q ≡ length c.args.bytes.now = omega (arith, c.requires.few) in
    in_place c.args.bytes.now out q c.args.p (omega (arith, c.requires.few)) c.requires.inside
    (ap₂ (λ (k : ℕ) (new : List ℕ). put_mid q k out new) many c.copy_from_slice.ensures.after
    ∙ ap (λ (rest : List ℕ). take q out ++ (c.args.bytes.now ++ rest)) (drop-drop (length c.args.bytes.now) q out)
    ∙ sym (append_assoc (take q out) c.args.bytes.now (drop (q + length c.args.bytes.now) out)))
