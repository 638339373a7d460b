-- `pull::value::narrow_found` meets its contract: one byte after the other. Assumes nothing.
use Prim.Native.Nat.{◌+◌}
use native.Mathlib.Omega.{arith}
use mathlib.Core.Path.{refl}
use mathlib.Core.Bool.{true}
use Rattle.wire.proofs.VarintSteps.{begin, ended}
use Rattle.pull.proofs.StepLaws.{one_told, two_told}
use Rattle.pull.proofs.value.narrow_found.Goals as goal

pub returns-then-s-at : goal.returns-then-s-at
returns-then-s-at c = let a = c.args in ended (begin 4 15 a.s.now a.at) (omega (arith, c.if-s-at.true))

pub overflow_cast-c : goal.overflow_cast-c
overflow_cast-c c = omega (arith, c.type_inv.s c.args.at)

pub returns-then-c-lt128 : goal.returns-then-c-lt128
returns-then-c-lt128 c =
    let a = c.args in
    one_told true a.at a.s.now c.if-s-at.false c.if-c-lt128.true

pub overflow_cast-d : goal.overflow_cast-d
overflow_cast-d c = omega (arith, c.type_inv.s (c.args.at + 1))

pub returns-then-d-lt128 : goal.returns-then-d-lt128
returns-then-d-lt128 c =
    let a = c.args in
    two_told true a.at a.s.now c.if-s-at.false c.if-c-lt128.false (omega arith) c.if-d-lt128.true refl
