-- `read::scalar::scalar_at` meets its contract, kind by kind. Assumes nothing.
use native.Mathlib.Omega.{arith}
use mathlib.Core.Path.{sym, ◌∙◌}
use mathlib.Core.Logic.{⊎_elim}
use borrow.Author.Rules.{rules}
use lib.ListN.{drop}
use Rattle.spec.specs.Kind.{shape, shapes, scalar}
use Rattle.read.specs.Answers.{scalar_of}
use Rattle.read.proofs.KindTests.{not_fixed, int_or_nothing}
use Rattle.read.proofs.scalar.scalar_at.Goals as goal

pub returns-in-1 : goal.returns-in-1
unfolding shape shapes scalar_of scalar
returns-in-1 c =
    let f = c.decode_fixed64.ensures in
    ⊎_elim (λ e. rw e f) (⊎_elim (λ e. rw e f) (⊎_elim (λ e. rw e f) (λ e. rw e f))) c.in-1.is

pub returns-in-2 : goal.returns-in-2
unfolding shape shapes scalar_of scalar
returns-in-2 c =
    let f = c.decode_fixed32.ensures in
    ⊎_elim (λ e. rw e f) (⊎_elim (λ e. rw e f) (λ e. rw e f)) c.in-2.is

pub returns-in-15 : goal.returns-in-15
unfolding shape shapes scalar_of scalar
returns-in-15 c = rw c.in-15.is c.sfixed32_at.ensures

pub returns-in_default : goal.returns-in_default
returns-in_default c =
    let a = c.args in
    let none = not_fixed a.kind (λ e. search rules) (λ e. search rules) (λ e. search rules) (λ e. search rules) (λ e. search rules) (λ e. search rules) (λ e. omega arith) (λ e. search rules) in
    c.int_or_none.ensures ∙ sym (int_or_nothing (shape a.kind) (drop a.at a.s.now) none)
