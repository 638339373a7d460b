-- `read::classify::delimited` meets its contract: the content, and for a string whether it is UTF-8. Assumes nothing.
use Prim.Native.Nat.{◌≤◌}
use native.Mathlib.Omega.{arith}
use mathlib.Core.Bool.{not}
use Rattle.std.proofs.lemmas.Result.{err_from_is_err_and}
use Rattle.spec.specs.Kind.{head_kind}
use lib.ListN.{length}
use Rattle.skip.proofs.SpanLaws.{span_in}
use Rattle.read.proofs.ClassifyLaws.{content_answer, bad_answer, text_answer}
use Rattle.read.proofs.classify.delimited.Goals as goal
use Rattle.read.proofs.classify.delimited.Goals.{In_ok-start, else-kind-eq-STRING-via-then-kind-eq-STRING+else-not-is_utf8, else-kind-eq-STRING-via-else-kind-eq-STRING}

inside : (c : In_ok-start) →
    let a = c.args in
    let f = c.in_ok-start.field-0 in
    (a.at ≤ f.start) × (f.start ≤ f.end) × (f.end ≤ length a.s.now)
inside c = let a = c.args in span_in (not (head_kind a.kind)) a.at a.s.now c.in_ok-start.ensures

pub slice_bounds-is_utf8-count : goal.slice_bounds-is_utf8-count
slice_bounds-is_utf8-count c = (inside (goal.at.slice_bounds-is_utf8-count c).In_ok-start).1

pub slice_bounds-is_utf8-start : goal.slice_bounds-is_utf8-start
slice_bounds-is_utf8-start c = omega (arith, inside (goal.at.slice_bounds-is_utf8-start c).In_ok-start)

pub slice_bounds-is_utf8-end : goal.slice_bounds-is_utf8-end
slice_bounds-is_utf8-end c = omega (arith, inside (goal.at.slice_bounds-is_utf8-end c).In_ok-start)

-- a string, by what the check said of it
pub returns-then-not-is_utf8 : goal.returns-then-not-is_utf8
returns-then-not-is_utf8 c =
    let a = c.args in
    rw c.if-not-is_utf8.true at (text_answer a.at a.s.now a.kind c.if-kind-eq-STRING.true c.in_ok-start.ensures c.is_utf8.result c.is_utf8.ensures)

pub returns : goal.returns
returns c =
    let a = c.args in
    elim c.else-kind-eq-STRING.branch [
      | else-kind-eq-STRING-via-then-kind-eq-STRING+else-not-is_utf8 w ↦
          rw w.if-not-is_utf8.false at (text_answer a.at a.s.now a.kind w.if-kind-eq-STRING.true c.in_ok-start.ensures w.is_utf8.result w.is_utf8.ensures)
      | else-kind-eq-STRING-via-else-kind-eq-STRING w ↦ content_answer a.kind a.at a.s.now c.requires.1 w.if-kind-eq-STRING.false c.in_ok-start.ensures
    ]

pub returns-in_err-start : goal.returns-in_err-start
returns-in_err-start c =
    let a = c.args in
    let p = err_from_is_err_and c.from_residual.result c.from_residual.ensures.1 in
    rw (p.1, p.2) (bad_answer a.kind a.at a.s.now c.requires.1 c.in_err-start.ensures)
