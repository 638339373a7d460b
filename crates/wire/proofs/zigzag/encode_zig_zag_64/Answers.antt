-- `wire::zigzag::encode_zig_zag_64` meets its contract: the number's sign decides, as in the definition.
-- Assumes nothing.
use native.Mathlib.Omega.{arith}
use mathlib.Core.Path.{sym, ap, ◌∙◌}
use lib.IntN.{ℤ}
use mir.Syntax.{w64}
use mir.Val.{of_z}
use Rattle.spec.specs.Varint.{zigzag}
use Rattle.wire.proofs.ZigzagLaws.{Minus, Plus, less_fits, below_zero, from_zero, zigzag_minus, zigzag_plus}
use Rattle.wire.proofs.zigzag.encode_zig_zag_64.Goals as goal
use Rattle.wire.proofs.zigzag.encode_zig_zag_64.Goals.{Else-n-lt0, Then-n-lt0}

pub overflow_sub-below : goal.overflow_sub-below
overflow_sub-below c = less_fits w64 c.args.n c.ranges.n

-- its size, on either side of 0
minus : (c : Then-n-lt0) → Minus w64 c.args.n
minus c = below_zero w64 c.args.n c.ranges.n c.if-n-lt0.true

plus : (c : Else-n-lt0) → Plus w64 c.args.n
plus c = from_zero w64 c.args.n c.ranges.n c.if-n-lt0.false

pub overflow_cast-below : goal.overflow_cast-below
overflow_cast-below c = let m = minus (goal.at.overflow_cast-below c).Then-n-lt0 in rw m.less (tt, omega (arith, m.low))

pub overflow_mul-result : goal.overflow_mul-result
overflow_mul-result c = let m = minus (goal.at.overflow_mul-result c).Then-n-lt0 in rw m.less (omega (arith, m.low))

pub overflow_add-result : goal.overflow_add-result
overflow_add-result c = let m = minus (goal.at.overflow_add-result c).Then-n-lt0 in rw m.less (omega (arith, m.low))

pub returns-then-n-lt0 : goal.returns-then-n-lt0
returns-then-n-lt0 c = let m = minus (goal.at.returns-then-n-lt0 c).Then-n-lt0 in rw m.less (sym (ap (λ (z : ℤ). zigzag (of_z w64 z)) m.is ∙ zigzag_minus m.k (omega (arith, m.low))))

pub overflow_cast-result : goal.overflow_cast-result
overflow_cast-result c = let p = plus (goal.at.overflow_cast-result c).Else-n-lt0 in rw p.itself (tt, omega (arith, p.low))

pub overflow_mul-result-2 : goal.overflow_mul-result-2
overflow_mul-result-2 c = let p = plus (goal.at.overflow_mul-result-2 c).Else-n-lt0 in rw p.itself (omega (arith, p.low))

pub returns : goal.returns
returns c = let p = plus (goal.at.returns c).Else-n-lt0 in rw p.itself (sym (ap (λ (z : ℤ). zigzag (of_z w64 z)) p.is ∙ zigzag_plus p.k (omega (arith, p.low))))
