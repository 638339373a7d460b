-- `bench_pull::message::root` meets its contract. The loop's invariant: the whole answer is the answer for the fields from here on. Assumes nothing.
use Prim.Native.Nat.{◌≤◌}
use native.Mathlib.Omega.{arith}
use mathlib.Core.Path.{refl, sym, ap, ◌∙◌}
use Rattle.std.specs.Prelude.{Ok}
use Rattle.std.proofs.lemmas.Result.{err_from_is_err_and}
use lib.ListN.{length}
use Rattle.bench_pull.specs.Fields as spec
use Rattle.bench_pull.specs.Fields.{root_way}
use Rattle.bench_pull.proofs.FieldLaws.{refused_no_number, said_no_number, refused_no_content, said_no_content, here_start, here_end, tag_refused, tag_small, enter_refused, content_placed, content_refused, content_turn, value_refused, value_placed, value_turn}
use Rattle.bench_pull.proofs.message.root.Goals as goal
use Rattle.bench_pull.proofs.message.root.Goals.{In-Content}

pub loop-at-init : goal.loop-at-init
unfolding spec.root
loop-at-init c = here_start root_way _ c.args.s.now 0 refl

pub returns-in_default : goal.returns-in_default
returns-in_default c = tag_refused c.tag_at-first.result c.loop-at.invariant (omega arith) c.tag_at-first.ensures (refused_no_number c.in_default.is)

pub returns-in_default-read : goal.returns-in_default-read
returns-in_default-read c = tag_refused c.tag_at-first.result c.loop-at.invariant (omega arith) c.tag_at-first.ensures (said_no_number c.in-Ok.is c.in_default-read.not-Number)

pub returns-in_default-said : goal.returns-in_default-said
returns-in_default-said c =
    enter_refused c.tag_at-first.result c.loop-at.invariant (omega arith) c.tag_at-first.ensures (c.in-Ok.is ∙ ap Ok c.in-Number.is) c.enter_at-entered.result c.enter_at-entered.ensures (sym c.holds.ensures ∙ c.if-holds.true)
    (refused_no_content c.in_default-said.is)

pub returns-in_default-held : goal.returns-in_default-held
returns-in_default-held c = enter_refused c.tag_at-first.result c.loop-at.invariant (omega arith) c.tag_at-first.ensures (c.in-Ok.is ∙ ap Ok c.in-Number.is) c.enter_at-entered.result c.enter_at-entered.ensures (sym c.holds.ensures ∙ c.if-holds.true) (said_no_content c.in-Ok-said.is c.in_default-held.not-Content)

-- the bounds of a content
within : (c : In-Content) →
    let a = c.args in
    (c.in-Content.start ≤ c.in-Content.end) × (c.in-Content.end ≤ length a.s.now)
within c =
    let p = content_placed c.tag_at-first.result c.loop-at.invariant (omega arith) c.tag_at-first.ensures (c.in-Ok.is ∙ ap Ok c.in-Number.is) c.enter_at-entered.result c.enter_at-entered.ensures (sym c.holds.ensures ∙ c.if-holds.true) (c.in-Ok-said.is ∙ ap Ok c.in-Content.is) in
    (p.0, p.1)

pub overflow_sub-size : goal.overflow_sub-size
overflow_sub-size c = (within (goal.at.overflow_sub-size c).In-Content).0

pub slice_bounds-content-count : goal.slice_bounds-content-count
slice_bounds-content-count c = (within (goal.at.slice_bounds-content-count c).In-Content).0

pub slice_bounds-content-start : goal.slice_bounds-content-start
slice_bounds-content-start c = omega (arith, within (goal.at.slice_bounds-content-start c).In-Content)

pub slice_bounds-content-end : goal.slice_bounds-content-end
slice_bounds-content-end c = omega (arith, within (goal.at.slice_bounds-content-end c).In-Content)

pub returns-in_err-acc : goal.returns-in_err-acc
returns-in_err-acc c =
    let p = err_from_is_err_and c.from_residual.result c.from_residual.ensures.1 in
    rw (p.1, p.2)
    (sym c.in_err-acc.was
    ∙ content_refused c.tag_at-first.result c.loop-at.invariant (omega arith) c.tag_at-first.ensures (c.in-Ok.is ∙ ap Ok c.in-Number.is) c.enter_at-entered.result c.enter_at-entered.ensures (sym c.holds.ensures ∙ c.if-holds.true)
    (c.in-Ok-said.is ∙ ap Ok c.in-Content.is) c.content.result c.content.ensures c.in_err-acc.was)

pub loop-at-smaller-then-holds : goal.loop-at-smaller-then-holds
loop-at-smaller-then-holds c =
    let p = content_placed c.tag_at-first.result c.loop-at.invariant (omega arith) c.tag_at-first.ensures (c.in-Ok.is ∙ ap Ok c.in-Number.is) c.enter_at-entered.result c.enter_at-entered.ensures (sym c.holds.ensures ∙ c.if-holds.true) (c.in-Ok-said.is ∙ ap Ok c.in-Content.is) in
    omega (arith, p)

pub loop-at-preserved-then-holds : goal.loop-at-preserved-then-holds
loop-at-preserved-then-holds c = content_turn c.tag_at-first.result c.loop-at.invariant (omega arith) c.tag_at-first.ensures (c.in-Ok.is ∙ ap Ok c.in-Number.is) c.enter_at-entered.result c.enter_at-entered.ensures (sym c.holds.ensures ∙ c.if-holds.true) (c.in-Ok-said.is ∙ ap Ok c.in-Content.is) c.content.result c.content.ensures c.in_ok-acc.was

-- a value
pub root_value-requires : goal.root_value-requires
root_value-requires c = tag_small c.tag_at-first.result c.loop-at.invariant (omega arith) c.tag_at-first.ensures (c.in-Ok.is ∙ ap Ok c.in-Number.is)

pub returns-in_default-root_value : goal.returns-in_default-root_value
returns-in_default-root_value c = value_refused c.tag_at-first.result c.loop-at.invariant (omega arith) c.tag_at-first.ensures (c.in-Ok.is ∙ ap Ok c.in-Number.is) c.root_value.result c.root_value.ensures (sym c.holds.ensures ∙ c.if-holds.false) c.in_default-root_value.is

pub loop-at-smaller : goal.loop-at-smaller
loop-at-smaller c =
    let p = value_placed c.tag_at-first.result c.loop-at.invariant (omega arith) c.tag_at-first.ensures (c.in-Ok.is ∙ ap Ok c.in-Number.is) c.root_value.result c.root_value.ensures (sym c.holds.ensures ∙ c.if-holds.false) c.in-Some.is in
    omega (arith, p)

pub loop-at-preserved : goal.loop-at-preserved
loop-at-preserved c = value_turn c.tag_at-first.result c.loop-at.invariant (omega arith) c.tag_at-first.ensures (c.in-Ok.is ∙ ap Ok c.in-Number.is) c.root_value.result c.root_value.ensures (sym c.holds.ensures ∙ c.if-holds.false) c.in-Some.is

pub returns : goal.returns
returns c = here_end c.loop-at.invariant (omega arith)
