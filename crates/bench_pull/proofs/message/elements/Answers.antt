-- `bench_pull::message::elements` meets its contract. The loop's invariant: the whole answer is what the elements from here add.
-- Assumes nothing.
use native.Mathlib.Omega.{arith}
use mathlib.Core.Path.{ap, ◌∙◌}
use Rattle.std.specs.Prelude.{Ok}
use Rattle.bench_pull.proofs.FieldLaws.{refused_no_number, said_no_number, rest_start, rest_end, rest_refused, rest_placed, rest_turn}
use Rattle.bench_pull.proofs.message.elements.Goals as goal

pub loop-at-init : goal.loop-at-init
loop-at-init c = rest_start _ _

pub returns-in_default : goal.returns-in_default
returns-in_default c = rest_refused c.sint32_at-element.result c.loop-at.invariant (omega arith) c.sint32_at-element.ensures (refused_no_number c.in_default.is)

pub returns-in_default-said : goal.returns-in_default-said
returns-in_default-said c =
    rest_refused c.sint32_at-element.result c.loop-at.invariant (omega arith) c.sint32_at-element.ensures (said_no_number c.in-Ok.is c.in_default-said.not-Number)

pub loop-at-smaller : goal.loop-at-smaller
loop-at-smaller c =
    let p = rest_placed c.sint32_at-element.result c.loop-at.invariant (omega arith) c.sint32_at-element.ensures (c.in-Ok.is ∙ ap Ok c.in-Number.is) in
    omega (arith, p)

pub loop-at-preserved : goal.loop-at-preserved
loop-at-preserved c = rest_turn c.sint32_at-element.result c.loop-at.invariant (omega arith) c.sint32_at-element.ensures (c.in-Ok.is ∙ ap Ok c.in-Number.is)

pub returns : goal.returns
returns c = rest_end c.loop-at.invariant (omega arith)
