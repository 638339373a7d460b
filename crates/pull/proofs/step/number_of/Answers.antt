-- `pull::step::number_of` meets its contract: a value, or a refusal. Assumes nothing.
use Rattle.pull.proofs.step.number_of.Goals as goal

pub returns-in-Ok : goal.returns-in-Ok
returns-in-Ok c = rw c.in-Ok.is

pub returns-in-Err : goal.returns-in-Err
returns-in-Err c = rw (c.in-Err.is, c.refuse.ensures)
