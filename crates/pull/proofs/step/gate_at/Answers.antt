-- `pull::step::gate_at` meets its contract: 7, then the length, then the bytes that are left. Assumes nothing.
use native.Mathlib.Omega.{arith}
use mathlib.Core.Path.{sym, ◌∙◌}
use Rattle.pull.proofs.StepLaws.{deep_gated, bad_gated, content_gated}
use Rattle.pull.proofs.step.gate_at.Goals as goal

pub returns-then-level-ge-MOST_LEVELS : goal.returns-then-level-ge-MOST_LEVELS
returns-then-level-ge-MOST_LEVELS c =
    let a = c.args in
    rw c.shut.ensures (deep_gated a.s.now a.at a.level (omega (arith, c.if-level-ge-MOST_LEVELS.true)))

pub returns-in-Ok : goal.returns-in-Ok
returns-in-Ok c =
    let a = c.args in
    content_gated a.s.now a.at a.level (omega (arith, c.if-level-ge-MOST_LEVELS.false)) (sym c.in-Ok.is ∙ c.span_at.ensures)

pub returns-in-Err : goal.returns-in-Err
returns-in-Err c =
    let a = c.args in
    rw c.shut-in-Err.ensures (bad_gated a.s.now a.at a.level (omega (arith, c.if-level-ge-MOST_LEVELS.false)) (sym c.in-Err.is ∙ c.span_at.ensures))
