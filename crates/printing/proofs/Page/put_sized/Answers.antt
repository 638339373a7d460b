-- `printing::Page::put_sized` meets its contract, for a size and for a refusal. Assumes nothing.
use Rattle.printing.proofs.WatchedLaws.{size_added, refusal_added}
use Rattle.printing.proofs.Page.put_sized.Goals as goal

pub returns-in-Ok : goal.returns-in-Ok
returns-in-Ok c = rw c.in-Ok.is (size_added c.in-Ok.size c.put_decimal.ensures)

pub returns-in-Err : goal.returns-in-Err
returns-in-Err c =
    rw c.in-Err.is (refusal_added c.in-Err.refusal c.put_text.ensures (rw (c.from.ensures, c.number.ensures) at c.put_decimal-in-Err.ensures))
