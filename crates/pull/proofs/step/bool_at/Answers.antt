-- `pull::step::bool_at` meets its contract: the number that was found. Assumes nothing.
use mathlib.Core.Path.{ap, ◌∙◌}
use lib.ListN.{drop}
use Rattle.spec.specs.Kind.{bool}
use Rattle.spec.specs.Pull.{step_at}
use Rattle.spec.proofs.Laws.{takes_scalar}
use Rattle.pull.specs.Told.{as_moved}
use Rattle.pull.proofs.StepLaws.{number_told}
use Rattle.pull.proofs.step.bool_at.Goals as goal

pub returns : goal.returns
unfolding step_at
returns c =
    let a = c.args in
    ap as_moved c.number_of.ensures ∙ number_told a.at c.bool_found.result (takes_scalar bool (drop a.at a.s.now)) c.bool_found.ensures
