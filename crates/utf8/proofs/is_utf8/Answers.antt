-- `utf8::is_utf8` meets its contract.
-- Assumes nothing.
use Rattle.utf8.proofs.is_utf8.Goals as goal

pub returns : goal.returns
returns c = rw c.utf8_prefix.ensures
