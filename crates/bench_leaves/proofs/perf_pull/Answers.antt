-- `bench_leaves::perf_pull` meets its contract. The loop's invariant: the whole answer is what the steps from here add.
-- Assumes nothing.
use native.Mathlib.Omega.{arith}
use mathlib.Core.Path.{ap, ◌∙◌}
use Rattle.std.specs.Prelude.{Ok}
use Rattle.bench_leaves.proofs.LoopLaws.{pulled_start, pulled_end, tag_other, value_other, refused_other, said_other, field_placed, pulled_turn}
use Rattle.bench_leaves.proofs.perf_pull.Goals as goal

pub loop-at-init : goal.loop-at-init
loop-at-init c = pulled_start _

-- the tag is refused, or is none
pub returns-in_default : goal.returns-in_default
returns-in_default c = tag_other c.tag_at-tag.result c.loop-at.invariant c.tag_at-tag.ensures (refused_other c.in_default.is)

pub returns-in_default-read : goal.returns-in_default-read
returns-in_default-read c = tag_other c.tag_at-tag.result c.loop-at.invariant c.tag_at-tag.ensures (said_other c.in-Ok.is c.in_default-read.not-Number)

-- and the value
pub returns-in_default-said : goal.returns-in_default-said
returns-in_default-said c =
    value_other c.tag_at-tag.result c.loop-at.invariant c.tag_at-tag.ensures c.uint64_at-value.result c.uint64_at-value.ensures
    (c.in-Ok.is ∙ ap Ok c.in-Number.is) (refused_other c.in_default-said.is)

pub returns-in_default-said-2 : goal.returns-in_default-said-2
returns-in_default-said-2 c =
    value_other c.tag_at-tag.result c.loop-at.invariant c.tag_at-tag.ensures c.uint64_at-value.result c.uint64_at-value.ensures
    (c.in-Ok.is ∙ ap Ok c.in-Number.is) (said_other c.in-Ok-said.is c.in_default-said-2.not-Number)

pub loop-at-smaller : goal.loop-at-smaller
loop-at-smaller c =
    let p = field_placed c.tag_at-tag.result c.loop-at.invariant c.tag_at-tag.ensures c.uint64_at-value.result c.uint64_at-value.ensures
    (c.in-Ok.is ∙ ap Ok c.in-Number.is) (c.in-Ok-said.is ∙ ap Ok c.in-Number-said.is) in
    omega (arith, p)

pub loop-at-preserved : goal.loop-at-preserved
loop-at-preserved c =
    pulled_turn c.tag_at-tag.result c.loop-at.invariant c.tag_at-tag.ensures c.uint64_at-value.result c.uint64_at-value.ensures
    (c.in-Ok.is ∙ ap Ok c.in-Number.is) (c.in-Ok-said.is ∙ ap Ok c.in-Number-said.is)

pub returns : goal.returns
returns c = pulled_end c.loop-at.invariant (omega arith)
