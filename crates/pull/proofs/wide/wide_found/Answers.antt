-- `pull::wide::wide_found` meets its contract: each byte by its law of `VarintSteps`. Assumes nothing.
use Prim.Native.Nat.{◌+◌}
use native.Mathlib.Omega.{arith}
use mathlib.Core.Bool.{false}
use Rattle.wire.proofs.VarintSteps.{begin, ended, first_byte, stopped, turned}
use Rattle.pull.proofs.StepLaws.{one_told}
use Rattle.pull.proofs.wide.wide_found.Goals as goal

pub returns-then-s-at : goal.returns-then-s-at
returns-then-s-at c = let a = c.args in ended (begin 9 1 a.s.now a.at) (omega (arith, c.if-s-at.true))

pub overflow_cast-c : goal.overflow_cast-c
overflow_cast-c c = omega (arith, c.type_inv.s c.args.at)

pub returns-then-c-lt128 : goal.returns-then-c-lt128
returns-then-c-lt128 c =
    let a = c.args in
    one_told false a.at a.s.now c.if-s-at.false c.if-c-lt128.true

pub overflow_cast-d : goal.overflow_cast-d
overflow_cast-d c = omega (arith, c.type_inv.s (c.args.at + 1))

pub returns-then-d-lt128 : goal.returns-then-d-lt128
returns-then-d-lt128 c =
    let a = c.args in
    stopped {s = a.s.now} {at = a.at} (omega arith) (first_byte 8 1 _ _ (omega arith) c.if-c-lt128.false) c.if-d-lt128.true

pub overflow_cast-e : goal.overflow_cast-e
overflow_cast-e c = omega (arith, c.type_inv.s (c.args.at + 2))

pub returns-then-e-lt128 : goal.returns-then-e-lt128
returns-then-e-lt128 c =
    let a = c.args in
    stopped {s = a.s.now} {at = a.at} (omega arith) (turned (omega arith) (first_byte 8 1 _ _ (omega arith) c.if-c-lt128.false) c.if-d-lt128.false) c.if-e-lt128.true
