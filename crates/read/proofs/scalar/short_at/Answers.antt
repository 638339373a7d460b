-- `read::scalar::short_at` meets its contract: one byte after the other. Assumes nothing.
use native.Mathlib.Omega.{arith}
use mathlib.Core.Path.{refl}
use Rattle.read.specs.Answers.{is_longer}
use Rattle.read.proofs.ClassifyLaws.{one_short, two_short, three_short}
use Rattle.read.proofs.scalar.short_at.Goals as goal

pub returns-then-c-lt128 : goal.returns-then-c-lt128
returns-then-c-lt128 c =
    let a = c.args in
    rw c.from-c.ensures (one_short a.at a.s.now (omega arith) (rw c.from-c.ensures at c.if-c-lt128.true))

pub returns-then-s-at-lt2 : goal.returns-then-s-at-lt2
returns-then-s-at-lt2 c = is_longer

pub returns-then-d-lt128 : goal.returns-then-d-lt128
returns-then-d-lt128 c =
    let a = c.args in
    two_short a.at a.s.now (omega arith) (rw c.from-c.ensures at c.if-c-lt128.false) (omega arith) (rw c.from-d.ensures at c.if-d-lt128.true) (rw (c.from-c.ensures, c.from-d.ensures) refl)

pub returns-then-s-at-lt3 : goal.returns-then-s-at-lt3
returns-then-s-at-lt3 c = is_longer

pub returns-then-e-lt128 : goal.returns-then-e-lt128
returns-then-e-lt128 c =
    let a = c.args in
    three_short a.at a.s.now (omega arith) (rw c.from-c.ensures at c.if-c-lt128.false) (omega arith) (rw c.from-d.ensures at c.if-d-lt128.false) (omega arith) (rw c.from-e.ensures at c.if-e-lt128.true)
    (rw (c.from-c.ensures, c.from-d.ensures, c.from-e.ensures) refl)

pub returns : goal.returns
returns c = is_longer
