-- `printing::Page::put_listing` meets its contract: the header, and the lines after it. Assumes nothing.
use Rattle.printing.specs.Text.{header}
use Rattle.printing.proofs.TextLaws.{listed}
use Rattle.printing.proofs.Page.put_listing.Goals as goal

pub returns : goal.returns
unfolding header
returns c =
    let e = c.args.ending in
    listed e.number e.count e.place c.args.list.now c.args.line_end c.put_text.ensures c.put_lines.ensures
