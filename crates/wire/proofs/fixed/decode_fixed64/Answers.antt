-- `wire::fixed::decode_fixed64` meets its contract: eight bytes, or too few.
-- Assumes nothing.
use Prim.Native.Nat.{◌+◌, ◌*◌}
use native.Mathlib.Omega.{arith}
use mathlib.Core.Path.{sym, ap, ◌∙◌}
use Rattle.spec.specs.Base.{Took}
use Rattle.wire.proofs.FixedLaws.{fixed_short, eight_bytes}
use Rattle.wire.proofs.fixed.decode_fixed64.Goals as goal

pub returns-then-s-at : goal.returns-then-s-at
returns-then-s-at c = let a = c.args in fixed_short 8 a.s.now a.at (omega arith) (omega arith)

pub returns-then-s-at-lt8 : goal.returns-then-s-at-lt8
returns-then-s-at-lt8 c = let a = c.args in fixed_short 8 a.s.now a.at (omega arith) (omega arith)

pub returns : goal.returns
returns c =
    let a = c.args in
    let low = c.four-low in
    let high = c.four-high in
    ap (Took (low.result + high.result * 0x1_0000_0000)) (omega arith)
    ∙ sym (eight_bytes a.s.now a.at low.result high.result (omega arith) low.ensures.1 high.ensures.1)
