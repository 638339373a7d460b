-- `printing::Page::put_lines` meets its contract. Assumes nothing.
use Rattle.printing.proofs.TextLaws.{lined}
use Rattle.printing.proofs.Page.put_lines.Goals as goal

pub returns : goal.returns
returns c =
    let e = c.args.ending in
    lined e.number e.count e.place c.args.list.now c.args.last c.put_rows.ensures c.put_byte.ensures c.put_verdict.ensures
