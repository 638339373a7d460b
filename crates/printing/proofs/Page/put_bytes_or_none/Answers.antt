-- `printing::Page::put_bytes_or_none` meets its contract. Assumes nothing.
use Rattle.std.proofs.Common.{◌≡◌, ◌<◌, length, arith}
use Rattle.printing.proofs.WatchedLaws.{no_bytes_added, bytes_added}
use Rattle.printing.proofs.Page.put_bytes_or_none.Goals as goal

pub returns-then-is_empty : goal.returns-then-is_empty
returns-then-is_empty c =
    let e : length c.args.bytes.now ≡ 0 = grind arith in
    no_bytes_added c.args.bytes.now e c.put_text.ensures

pub returns-else-is_empty : goal.returns-else-is_empty
returns-else-is_empty c =
    let e : 0 < length c.args.bytes.now = grind arith in
    bytes_added c.args.bytes.now e c.put_byte.ensures c.put_hex.ensures
