-- `printing::Page::put_rows_or_none` meets its contract. Assumes nothing.
use Rattle.std.proofs.Common.{◌≡◌, ◌<◌, length, arith}
use Rattle.printing.proofs.WatchedLaws.{no_rows_added, rows_added}
use Rattle.printing.proofs.Page.put_rows_or_none.Goals as goal

pub returns-then-is_empty : goal.returns-then-is_empty
returns-then-is_empty c =
    let e : length c.args.rows.now ≡ 0 = grind arith in
    no_rows_added c.args.layout c.args.rows.now e c.put_text.ensures

pub returns-else-is_empty : goal.returns-else-is_empty
returns-else-is_empty c =
    let e : 0 < length c.args.rows.now = grind arith in
    rows_added c.args.layout c.args.rows.now e c.put_rows.ensures
