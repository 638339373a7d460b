-- A step of a reader with these parts. Assumes nothing.
use Rattle.pull.proofs.ReaderLaws.{step_moves}
use Rattle.pull.proofs.reader.step_once.Goals as goal

pub returns : goal.returns
returns c = step_moves (record { s = c.args.s; at = c.args.at; level = c.args.level }) c.args.ask c.step-n.result c.step-n.ensures.0
