-- `list::run::fault` meets its contract. Assumes nothing.
use Rattle.std.proofs.Common.{refl}
use Rattle.list.specs.Told.{as_verdict}
use Rattle.list.proofs.run.fault.Goals as goal

pub returns : goal.returns
unfolding as_verdict
returns c = refl
