-- `pull::value::span_at` meets its contract: the length, and whether as many bytes are left. Assumes nothing.
use Prim.Native.Nat.{◌-◌}
use native.Mathlib.Omega.{arith}
use mathlib.Core.Path.{◌≡◌, sym, ap, ◌∙◌}
use lib.ListN.{drop}
use Rattle.std.proofs.lemmas.Result.{err_from_is_err_and}
use Rattle.spec.specs.Base.{Took}
use Rattle.wire.specs.Answers.{as_read}
use Rattle.wire.specs.Reached.{varint_of}
use Rattle.skip.proofs.SpanLaws.{width_placed, span_refused, span_short, span_of}
use Rattle.pull.proofs.value.span_at.Goals as goal
use Rattle.pull.proofs.value.span_at.Goals.{In_ok-value}

found : (c : In_ok-value) →
    let a = c.args in
    Took c.in_ok-value.field-0.value (c.in_ok-value.field-0.next - a.at) ≡ varint_of a.narrow (drop a.at a.s.now)
found c = ap (as_read _) (sym c.in_ok-value.was) ∙ c.varint_found.ensures

pub overflow_sub-s : goal.overflow_sub-s
overflow_sub-s c =
    let a = c.args in
    (width_placed a.narrow a.s.now a.at (found (goal.at.overflow_sub-s c).In_ok-value)).1

pub returns-then-s-next : goal.returns-then-s-next
returns-then-s-next c =
    let here = found (goal.at.returns-then-s-next c).In_ok-value in
    let a = c.args in
    let w = width_placed a.narrow a.s.now a.at here in
    span_short (varint_of a.narrow) a.at a.s.now (sym here) (omega arith) (omega arith)

pub returns : goal.returns
returns c =
    let here = found (goal.at.returns c).In_ok-value in
    let a = c.args in
    let w = width_placed a.narrow a.s.now a.at here in
    span_of (varint_of a.narrow) a.at a.s.now (sym here) (omega arith) (omega arith) (omega arith)

pub returns-in_err-value : goal.returns-in_err-value
returns-in_err-value c =
    let a = c.args in
    let p = err_from_is_err_and c.from_residual.result c.from_residual.ensures.1 in
    rw (p.1, p.2) (span_refused (varint_of a.narrow) a.at a.s.now (sym c.in_err-value.ensures))
