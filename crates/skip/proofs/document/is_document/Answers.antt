-- `skip::document::is_document` meets its contract. Assumes nothing.
use mathlib.Core.Path.{◌∙◌}
use Rattle.skip.proofs.DocumentTurn.{too_long, short_enough}
use Rattle.skip.proofs.document.is_document.Goals as goal

pub returns-then-s-gt-MOST_BYTES : goal.returns-then-s-gt-MOST_BYTES
returns-then-s-gt-MOST_BYTES c = too_long _ c.if-s-gt-MOST_BYTES.true

pub returns : goal.returns
returns c = c.is_run.ensures ∙ short_enough _ c.if-s-gt-MOST_BYTES.false
