-- `segment::writing::judge` meets its contract. Assumes nothing.
use native.Mathlib.Omega.{arith}
use mathlib.Core.Path.{ap, ◌∙◌}
use Rattle.segment.specs.Judging.{outside}
use Rattle.segment.proofs.JudgeLaws.{here_first, judged_half, judged_all, judged_reversed, judged_far, here_next}
use Rattle.segment.proofs.writing.judge.Goals as goal
use Rattle.segment.proofs.writing.judge.Goals.{then-end-start-via-then-end-start, then-end-start-via-else-end-start+then-all-end}

pub loop-index-init : goal.loop-index-init
loop-index-init c =
    rw (c.into_iter-index-iterator.ensures.into_iter_gives, c.enumerate-index-items.ensures.source) (
      c.chunks.ensures.size,
      here_first c.args.ranges.now c.args.payload.now c.enumerate-index-items.ensures.count c.chunks.ensures.rest,
    )

pub returns-in_default : goal.returns-in_default
returns-in_default c =
    let s = c.in-Some.ensures.steps in
    judged_half c.loop-index.invariant.1 (c.outside.ensures ∙ ap outside s.1) (omega (arith, s.0.1.1))

pub returns-then-end-start : goal.returns-then-end-start
returns-then-end-start c =
    let s = c.in-Some.ensures.steps in
    let here = c.loop-index.invariant.1 in
    let pair = c.in-Some.range.now in
    let is = c.outside-then-end-start.ensures ∙ ap outside s.1 in
    elim c.then-end-start.branch [
      | then-end-start-via-then-end-start w ↦ judged_reversed here pair _ s.0.1.0 (omega (arith, s.0.1.1)) is w.if-end-start.true
      | then-end-start-via-else-end-start+then-all-end w ↦ judged_far here pair _ s.0.1.0 (omega (arith, s.0.1.1)) is w.if-all-end.true
    ]

pub grown-size-requires : goal.grown-size-requires
grown-size-requires c = c.loop-index.invariant.1.small

pub loop-index-preserved : goal.loop-index-preserved
loop-index-preserved c =
    let s = c.in-Some.ensures.steps in
    let i = c.loop-index.invariant in (
      s.0.0 ∙ i.0,
      here_next i.1 c.in-Some.range.now _ s.0.1.0 (omega (arith, s.0.1.1)) s.2 c.if-end-start.false c.if-all-end.false c.grown-size.ensures,
    )

pub returns : goal.returns
returns c = judged_all c.loop-index.invariant.1 c.in-None.ensures.steps.0.1.0
