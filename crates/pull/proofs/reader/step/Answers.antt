-- The reader's step is the step at its position and level. Assumes nothing.
use Rattle.std.proofs.Common.{refl}
use Rattle.pull.proofs.ReaderLaws.{step_says}
use Rattle.pull.proofs.reader.step.Goals as goal

pub returns : goal.returns
returns c = (step_says c.args.r c.args.ask c.step_at-t.result c.step_at-t.ensures, refl)
