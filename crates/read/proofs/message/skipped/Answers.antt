-- `read::message::skipped` meets its contract. Assumes nothing.
use mathlib.Core.Path.{refl}
use Rattle.read.proofs.message.skipped.Goals as goal

pub returns : goal.returns
returns c = refl
