-- `pull::step::uint32_at` meets its contract: the number that was found. Assumes nothing.
use mathlib.Core.Path.{ap, ◌∙◌}
use lib.ListN.{drop}
use Rattle.spec.specs.Kind.{uint32, scalar}
use Rattle.spec.specs.Pull.{step_at}
use Rattle.spec.proofs.Laws.{takes_scalar}
use Rattle.pull.specs.Told.{as_moved}
use Rattle.pull.proofs.StepLaws.{number_told}
use Rattle.pull.proofs.step.uint32_at.Goals as goal

pub returns : goal.returns
unfolding step_at scalar
returns c =
    let a = c.args in
    ap as_moved c.number_of.ensures ∙ number_told a.at c.narrow_found.result (takes_scalar uint32 (drop a.at a.s.now)) c.narrow_found.ensures
