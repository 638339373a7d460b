-- `read::classify::long_span` meets its contract: the length, and whether as many bytes are left. Assumes nothing.
use Prim.Native.Nat.{◌-◌}
use native.Mathlib.Omega.{arith}
use mathlib.Core.Path.{◌≡◌, sym, ap, ◌∙◌}
use mathlib.Core.Bool.{Bool, not}
use lib.ListN.{drop}
use Rattle.std.proofs.lemmas.Result.{err_from_is_err_and}
use Rattle.spec.specs.Base.{Took}
use Rattle.wire.specs.Reached.{varint_of}
use Rattle.spec.specs.Kind.{head_kind}
use Rattle.read.specs.Answers.{length_of}
use Rattle.skip.proofs.SpanLaws.{width_placed, span_refused, span_short, span_of}
use Rattle.read.proofs.classify.long_span.Goals as goal
use Rattle.read.proofs.classify.long_span.Goals.{In_ok-value}

-- the length, as the definition reads it
found : (c : In_ok-value) →
    let a = c.args in
    Took c.in_ok-value.field-0.value (c.in_ok-value.field-0.next - a.at) ≡ length_of a.kind (drop a.at a.s.now)
found c = let a = c.args in c.in_ok-value.ensures ∙ ap (λ (h : Bool). varint_of (not h) (drop a.at a.s.now)) c.is_head.ensures

pub overflow_sub-s : goal.overflow_sub-s
overflow_sub-s c =
    let a = c.args in
    (width_placed (not (head_kind a.kind)) a.s.now a.at (found (goal.at.overflow_sub-s c).In_ok-value)).1

pub returns-then-s-next : goal.returns-then-s-next
returns-then-s-next c =
    let places = goal.at.returns-then-s-next c in
    let a = c.args in
    let w = width_placed (not (head_kind a.kind)) a.s.now a.at (found places.In_ok-value) in
    span_short (length_of a.kind) a.at a.s.now (sym (found places.In_ok-value)) (omega arith) (omega arith)

pub returns : goal.returns
returns c =
    let places = goal.at.returns c in
    let a = c.args in
    let w = width_placed (not (head_kind a.kind)) a.s.now a.at (found places.In_ok-value) in
    span_of (length_of a.kind) a.at a.s.now (sym (found places.In_ok-value)) (omega arith) (omega arith) (omega arith)

pub returns-in_err-value : goal.returns-in_err-value
returns-in_err-value c =
    let a = c.args in
    let p = err_from_is_err_and c.from_residual.result c.from_residual.ensures.1 in
    rw (p.1, p.2) (span_refused (length_of a.kind) a.at a.s.now (sym (c.in_err-value.ensures ∙ ap (λ (h : Bool). varint_of (not h) (drop a.at a.s.now)) c.is_head.ensures)))
