-- `utf8::ascii_end` meets its contract.
-- Assumes nothing.
use Rattle.utf8.proofs.TextLaws.{stay, ascii_last}
use Rattle.utf8.proofs.ascii_end.Goals as goal

pub returns-then-ascii8 : goal.returns-then-ascii8
returns-then-ascii8 c = ascii_last c.args.s.now c.args.i c.requires.0 c.requires.1 (c.ascii8.ensures c.if-ascii8.true)

pub returns : goal.returns
returns c = stay _ c.requires.0
