-- `read::classify::plain` meets its contract: the ends of a group, or a number. Assumes nothing.
use native.Mathlib.Omega.{arith}
use mathlib.Core.Path.{◌≡◌, ◌∙◌}
use lib.ListN.{drop}
use borrow.Author.Tests.{ne_eqb}
use Rattle.spec.specs.Names.{group_end, group_start}
use Rattle.spec.specs.Kind.{shape, shapes}
use Rattle.std.proofs.lemmas.Result.{err_from_is_err_and}
use Rattle.read.specs.Answers.{bodied}
use Rattle.read.proofs.KindTests.{sort_of, sort_kind}
use Rattle.read.proofs.ClassifyLaws.{value_body, refused_body}
use Rattle.read.proofs.classify.plain.Goals as goal
use Rattle.read.proofs.classify.plain.Goals.{After-scalar_at}

pub returns-in-25 : goal.returns-in-25
unfolding bodied shape shapes
returns-in-25 c = rw c.in-25.is

pub returns-in-26 : goal.returns-in-26
unfolding bodied shape shapes
returns-in-26 c = rw c.in-26.is

-- neither a length nor a group
number : (c : After-scalar_at) → sort_of (shape c.args.kind) ≡ 0
number c =
    let k = c.args.kind in
    sort_kind k ∙ rw (c.requires.1, ne_eqb k group_start (λ e. omega arith), ne_eqb k group_end (λ e. omega arith))

pub returns-in_ok-value-in_default : goal.returns-in_ok-value-in_default
returns-in_ok-value-in_default c =
    let a = c.args in
    value_body (shape a.kind) a.at (drop a.at a.s.now) (number (goal.at.returns-in_ok-value-in_default c).After-scalar_at) (let z = c.in_ok-value-in_default in z.ensures)

pub returns-in_err-value-in_default : goal.returns-in_err-value-in_default
returns-in_err-value-in_default c =
    let a = c.args in
    let p = err_from_is_err_and c.from_residual.result c.from_residual.ensures.1 in
    rw (p.1, p.2) (refused_body (shape a.kind) a.at (drop a.at a.s.now) (number (goal.at.returns-in_err-value-in_default c).After-scalar_at) (let z = c.in_err-value-in_default in z.ensures))
