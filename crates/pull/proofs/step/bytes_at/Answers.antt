-- `pull::step::bytes_at` meets its contract: the content that was found. Assumes nothing.
use mathlib.Core.Path.{ap, ◌∙◌}
use lib.ListN.{drop}
use Rattle.spec.specs.Pull.{step_at}
use Rattle.pull.specs.Told.{as_moved, content_of}
use Rattle.std.specs.Prelude.{Result}
use Rattle.spec.specs.declared.refusals.Refusal.{Refusal}
use Rattle.skip.specs.declared.content.Span.{Span}
use Rattle.skip.proofs.KnownLaws.{known_content}
use Rattle.pull.proofs.StepLaws.{content_told}
use Rattle.pull.proofs.step.bytes_at.Goals as goal

pub returns : goal.returns
unfolding step_at
returns c =
    let a = c.args in
    ap as_moved c.content_of.ensures ∙ ap (λ (x : Result Span Refusal). as_moved (content_of a.at x)) c.span_at.ensures ∙ content_told a.at (known_content 4 15 (drop a.at a.s.now))
