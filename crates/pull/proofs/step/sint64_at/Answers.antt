-- `pull::step::sint64_at` meets its contract: the number that was found. Assumes nothing.
use mathlib.Core.Path.{ap, ◌∙◌}
use lib.ListN.{drop}
use Rattle.spec.specs.Kind.{sint64, scalar}
use Rattle.spec.specs.Pull.{step_at}
use Rattle.spec.proofs.Laws.{takes_scalar}
use Rattle.pull.specs.Told.{as_moved}
use Rattle.pull.proofs.StepLaws.{number_told}
use Rattle.pull.proofs.step.sint64_at.Goals as goal

pub returns : goal.returns
unfolding step_at scalar
returns c =
    let a = c.args in
    ap as_moved c.number_of.ensures ∙ number_told a.at c.sint_found.result (takes_scalar sint64 (drop a.at a.s.now)) c.sint_found.ensures
