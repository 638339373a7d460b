-- `pull::reader::first_part` meets its contract: the limit. Assumes nothing.
use borrow.Author.Tests.{lt-ltb, le-ltb}
use Rattle.pull.proofs.reader.first_part.Goals as goal

pub returns-then-s-gt-MOST_BYTES : goal.returns-then-s-gt-MOST_BYTES
returns-then-s-gt-MOST_BYTES c = rw (lt-ltb _ _ c.if-s-gt-MOST_BYTES.true)

pub returns : goal.returns
returns c = rw (le-ltb _ _ c.if-s-gt-MOST_BYTES.false)
