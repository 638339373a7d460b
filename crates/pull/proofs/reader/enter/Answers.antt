-- Entering is what the gate says, over the content. Assumes nothing.
use Rattle.std.proofs.Common.{refl}
use Rattle.pull.proofs.ReaderLaws.{enter_says}
use Rattle.pull.proofs.reader.enter.Goals as goal

pub returns : goal.returns
returns c = (enter_says c.args.r c.gate_at-e.result c.content-p.result c.gate_at-e.ensures c.content-p.ensures, refl)
