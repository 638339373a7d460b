-- `printing::Page::put_touched` meets its contract. Assumes nothing.
use Rattle.printing.proofs.WatchedLaws.{touched_added, untouched_added}
use Rattle.printing.proofs.Page.put_touched.Goals as goal

pub returns-then-touched : goal.returns-then-touched
returns-then-touched c = touched_added c.if-touched.true c.put_text.ensures

pub returns-else-touched : goal.returns-else-touched
returns-else-touched c = untouched_added c.if-touched.false
