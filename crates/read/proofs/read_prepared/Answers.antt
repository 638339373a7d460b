-- `read::read_prepared` meets its contract. Assumes nothing.
use Rattle.read.proofs.read_prepared.Goals as goal

pub returns : goal.returns
returns c = c.read_prepared_as.ensures
