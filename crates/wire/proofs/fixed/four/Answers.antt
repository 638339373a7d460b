-- `wire::fixed::four` meets its contract: what the bytes sum up to.
-- Assumes nothing.
use Prim.Native.Nat.{ℕ, ◌+◌}
use native.Mathlib.Omega.{arith}
use mathlib.Core.Path.{ap, ◌∙◌}
use Rattle.spec.specs.Base.{Took}
use Rattle.wire.proofs.FixedLaws.{four_bytes}
use Rattle.wire.proofs.fixed.four.Goals as goal

pub overflow_cast-b0 : goal.overflow_cast-b0
overflow_cast-b0 c = omega (arith, c.type_inv.s c.args.at)

pub overflow_cast-b1 : goal.overflow_cast-b1
overflow_cast-b1 c = omega (arith, c.type_inv.s (c.args.at + 1))

pub overflow_cast-b2 : goal.overflow_cast-b2
overflow_cast-b2 c = omega (arith, c.type_inv.s (c.args.at + 2))

pub overflow_cast-b3 : goal.overflow_cast-b3
overflow_cast-b3 c = omega (arith, c.type_inv.s (c.args.at + 3))

-- each sum is at most the last
pub overflow_add-result-3 : goal.overflow_add-result-3
overflow_add-result-3 c =
    let at = c.args.at in
    let byte = c.type_inv.s in
    omega (arith, byte at, byte (at + 1), byte (at + 2), byte (at + 3))

pub overflow_mul-result : goal.overflow_mul-result
overflow_mul-result c = omega (arith, overflow_add-result-3 c)

pub overflow_add-result : goal.overflow_add-result
overflow_add-result c = omega (arith, overflow_add-result-3 c)

pub overflow_mul-result-2 : goal.overflow_mul-result-2
overflow_mul-result-2 c = omega (arith, overflow_add-result-3 c)

pub overflow_add-result-2 : goal.overflow_add-result-2
overflow_add-result-2 c = omega (arith, overflow_add-result-3 c)

pub overflow_mul-result-3 : goal.overflow_mul-result-3
overflow_mul-result-3 c = omega (arith, overflow_add-result-3 c)

pub returns : goal.returns
returns c =
    let a = c.args in
    let byte = c.type_inv.s in
    (omega (arith, byte a.at, byte (a.at + 1), byte (a.at + 2), byte (a.at + 3)), four_bytes a.s.now a.at c.requires ∙ ap (λ (x : ℕ). Took x 4) (omega arith))
