-- `read::classify::field_at` meets its contract: the tag, and what comes after it. Assumes nothing.
use Rattle.std.proofs.lemmas.Result.{err_from_is_err_and}
use Rattle.schema.specs.Tables.{table_says}
use Rattle.read.specs.Answers.{from_body}
use Rattle.read.specs.Prepared.{prepared}
use Rattle.read.proofs.ClassifyLaws.{tag_inside}
use Rattle.read.proofs.AskedLaws.{body_answer, fault_answer}
use Rattle.read.proofs.classify.field_at.Goals as goal

pub body_at-requires : goal.body_at-requires
body_at-requires c =
    let a = c.args in
    tag_inside (table_says a.keys.now a.info.now a.ty) a.at a.s.now c.in_ok-tag.ensures

pub returns : goal.returns
unfolding from_body
returns c =
    let a = c.args in
    rw c.with_body.ensures (λ mode. body_answer (prepared mode a.keys.now a.info.now) a.depth a.ty a.at a.s.now c.in_ok-tag.ensures c.in_ok-body.ensures)

pub returns-in_err-tag : goal.returns-in_err-tag
returns-in_err-tag c =
    let a = c.args in
    let p = err_from_is_err_and c.from_residual.result c.from_residual.ensures.1 in
    rw (p.1, p.2) (λ mode. fault_answer (prepared mode a.keys.now a.info.now) a.depth a.ty a.at a.s.now c.in_err-tag.ensures)

pub returns-in_err-body : goal.returns-in_err-body
unfolding from_body
returns-in_err-body c =
    let a = c.args in
    let p = err_from_is_err_and c.from_residual-in_err-body.result c.from_residual-in_err-body.ensures.1 in
    rw (p.1, p.2) (λ mode. body_answer (prepared mode a.keys.now a.info.now) a.depth a.ty a.at a.s.now c.in_ok-tag.ensures c.in_err-body.ensures)
