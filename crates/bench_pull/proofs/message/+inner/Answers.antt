-- `bench_pull::message::inner` meets its contract, a field at a time. Assumes nothing.
use Rattle.std.proofs.Common.{arith, length, ◌≤◌, ◌<◌, ℕ, sym, ap, ◌∙◌, Ok}
use Rattle.std.proofs.lemmas.Result.{err_from_is_err_and}
use borrow.Author.Tests.{eq-eqb, ne_eqb}
use Rattle.spec.specs.Names.{most_levels}
use Rattle.bench_pull.specs.Fields.{inner_message}
use Rattle.bench_pull.proofs.FieldLaws.{refused_no_number, said_no_number, refused_no_content, said_no_content, here_start, here_end, tag_refused, tag_small, enter_refused, content_placed, content_refused, content_turn, value_refused, value_placed, value_turn}
use Rattle.bench_pull.proofs.FieldLaws.{entered_below, inner_turns, inner_deeper}
use Rattle.bench_pull.proofs.message.+inner.Goals as goal

pub loop-at-init : goal.loop-at-init
loop-at-init t c = let a = c.args in here_start _ _ a.s.now a.from (inner_turns a.level a.from a.s.now c.requires)

pub returns-in_default : goal.returns-in_default
returns-in_default t c = tag_refused c.tag_at-first.result c.loop-at.invariant c.loop-at-test.true c.tag_at-first.ensures (refused_no_number c.in_default.is)

pub returns-in_default-read : goal.returns-in_default-read
returns-in_default-read t c = tag_refused c.tag_at-first.result c.loop-at.invariant c.loop-at-test.true c.tag_at-first.ensures (said_no_number c.in-Ok.is c.in_default-read.not-Number)

pub returns-in_default-said : goal.returns-in_default-said
returns-in_default-said t c =
    enter_refused c.tag_at-first.result c.loop-at.invariant c.loop-at-test.true c.tag_at-first.ensures (c.in-Ok.is ∙ ap Ok c.in-Number.is) c.enter_at-entered.result c.enter_at-entered.ensures (eq-eqb _ inner_message c.if-tag-eq-INNER_MESSAGE.true)
    (refused_no_content c.in_default-said.is)

pub returns-in_default-held : goal.returns-in_default-held
returns-in_default-held t c =
    enter_refused c.tag_at-first.result c.loop-at.invariant c.loop-at-test.true c.tag_at-first.ensures (c.in-Ok.is ∙ ap Ok c.in-Number.is) c.enter_at-entered.result c.enter_at-entered.ensures (eq-eqb _ inner_message c.if-tag-eq-INNER_MESSAGE.true) (said_no_content c.in-Ok-said.is c.in_default-held.not-Content)

-- the content of a message within: its bounds, and that its level is no more than the last
within : (t : ℕ) (c : goal.In-Content t) → (c.in-Content.start ≤ c.in-Content.end) × (c.in-Content.end ≤ length c.args.s.now) × (c.args.level < most_levels)
within t c =
    let p = content_placed c.tag_at-first.result c.loop-at.invariant c.loop-at-test.true c.tag_at-first.ensures (c.in-Ok.is ∙ ap Ok c.in-Number.is) c.enter_at-entered.result c.enter_at-entered.ensures (eq-eqb _ inner_message c.if-tag-eq-INNER_MESSAGE.true) (c.in-Ok-said.is ∙ ap Ok c.in-Content.is) in
    (p.0, p.1, entered_below c.args.s.now c.tag_at-first.result.at c.args.level c.enter_at-entered.result c.enter_at-entered.ensures (c.in-Ok-said.is ∙ ap Ok c.in-Content.is))

pub overflow_sub-size : goal.overflow_sub-size
overflow_sub-size t c = (within t c).0

pub slice_bounds-inner-count : goal.slice_bounds-inner-count
slice_bounds-inner-count t c = (within t c).0

pub slice_bounds-inner-start : goal.slice_bounds-inner-start
slice_bounds-inner-start t c = omega (arith, within t c)

pub slice_bounds-inner-end : goal.slice_bounds-inner-end
slice_bounds-inner-end t c = omega (arith, within t c)

pub inner-requires : goal.inner-requires
inner-requires t c =
    let l = entered_below c.args.s.now c.tag_at-first.result.at c.args.level c.enter_at-entered.result c.enter_at-entered.ensures (c.in-Ok-said.is ∙ ap Ok c.in-Content.is) in
    (omega (arith, l), omega (arith, l))

-- a message within
pub returns-in_err-acc : goal.returns-in_err-acc
returns-in_err-acc t c =
    let p = err_from_is_err_and c.from_residual.result c.from_residual.ensures.1 in
    rw (p.1, p.2)
    (sym c.in_err-acc.was
    ∙ content_refused c.tag_at-first.result c.loop-at.invariant c.loop-at-test.true c.tag_at-first.ensures (c.in-Ok.is ∙ ap Ok c.in-Number.is) c.enter_at-entered.result c.enter_at-entered.ensures (eq-eqb _ inner_message c.if-tag-eq-INNER_MESSAGE.true)
    (c.in-Ok-said.is ∙ ap Ok c.in-Content.is) c.inner.result (inner_deeper c.args.level _ _ c.inner.ensures) c.in_err-acc.was)

pub loop-at-smaller-then-tag-eq-INNER_MESSAGE : goal.loop-at-smaller-then-tag-eq-INNER_MESSAGE
loop-at-smaller-then-tag-eq-INNER_MESSAGE t c =
    let p = content_placed c.tag_at-first.result c.loop-at.invariant c.loop-at-test.true c.tag_at-first.ensures (c.in-Ok.is ∙ ap Ok c.in-Number.is) c.enter_at-entered.result c.enter_at-entered.ensures (eq-eqb _ inner_message c.if-tag-eq-INNER_MESSAGE.true) (c.in-Ok-said.is ∙ ap Ok c.in-Content.is) in
    omega (arith, p)

pub loop-at-preserved-then-tag-eq-INNER_MESSAGE : goal.loop-at-preserved-then-tag-eq-INNER_MESSAGE
loop-at-preserved-then-tag-eq-INNER_MESSAGE t c =
    content_turn c.tag_at-first.result c.loop-at.invariant c.loop-at-test.true c.tag_at-first.ensures (c.in-Ok.is ∙ ap Ok c.in-Number.is) c.enter_at-entered.result c.enter_at-entered.ensures (eq-eqb _ inner_message c.if-tag-eq-INNER_MESSAGE.true) (c.in-Ok-said.is ∙ ap Ok c.in-Content.is) c.inner.result (inner_deeper c.args.level _ _ c.inner.ensures) c.in_ok-acc.was

-- a value
pub inner_value-requires : goal.inner_value-requires
inner_value-requires t c = tag_small c.tag_at-first.result c.loop-at.invariant c.loop-at-test.true c.tag_at-first.ensures (c.in-Ok.is ∙ ap Ok c.in-Number.is)

pub returns-in_default-inner_value : goal.returns-in_default-inner_value
returns-in_default-inner_value t c =
    value_refused c.tag_at-first.result c.loop-at.invariant c.loop-at-test.true c.tag_at-first.ensures (c.in-Ok.is ∙ ap Ok c.in-Number.is) c.inner_value.result c.inner_value.ensures (ne_eqb _ inner_message c.if-tag-eq-INNER_MESSAGE.false) c.in_default-inner_value.is

pub loop-at-smaller : goal.loop-at-smaller
loop-at-smaller t c =
    let p = value_placed c.tag_at-first.result c.loop-at.invariant c.loop-at-test.true c.tag_at-first.ensures (c.in-Ok.is ∙ ap Ok c.in-Number.is) c.inner_value.result c.inner_value.ensures (ne_eqb _ inner_message c.if-tag-eq-INNER_MESSAGE.false) c.in-Some.is in
    omega (arith, p)

pub loop-at-preserved : goal.loop-at-preserved
loop-at-preserved t c =
    value_turn c.tag_at-first.result c.loop-at.invariant c.loop-at-test.true c.tag_at-first.ensures (c.in-Ok.is ∙ ap Ok c.in-Number.is) c.inner_value.result c.inner_value.ensures (ne_eqb _ inner_message c.if-tag-eq-INNER_MESSAGE.false) c.in-Some.is

pub returns : goal.returns
returns t c = here_end c.loop-at.invariant (omega (arith, c.loop-at-test.false))
