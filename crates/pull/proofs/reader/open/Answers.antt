-- What opening answers, by its two parts. Assumes nothing.
use Rattle.pull.proofs.ReaderLaws.{open_says}
use Rattle.pull.proofs.reader.open.Goals as goal

pub returns : goal.returns
returns c = open_says c.args.s.now c.open_number.result c.first_part.result c.open_number.ensures c.first_part.ensures
