-- `printing::Page::put_three` meets its contract. Assumes nothing.
use Rattle.printing.proofs.WatchedLaws.{three_added}
use Rattle.printing.proofs.Page.put_three.Goals as goal

pub returns : goal.returns
returns c =
    let a = c.args in
    three_added a.a a.b a.c c.put_decimal.ensures c.put_byte.ensures c.put_decimal-2.ensures c.put_byte-2.ensures c.put_decimal-3.ensures
