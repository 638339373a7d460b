-- `printing::Page::put_rows` meets its contract: a row goes on, or the next begins. Assumes nothing.
use Rattle.printing.proofs.TextLaws.{rows_on, rows_anew, rows_done}
use Rattle.printing.proofs.Page.put_rows.Goals as goal
use Rattle.printing.proofs.Page.put_rows.Goals.{then-column-layout, else-column-layout}

pub loop-n-preserved : goal.loop-n-preserved
loop-n-preserved c =
    let i = c.loop-n.invariant in
    let h = c.loop-n-test.true in
    elim c.if-column-layout.branch [
      | then-column-layout w ↦ rw (w.before-is, w.column-is) (rows_on i h c.put_byte.ensures c.put_decimal.ensures w.if-column-layout.true)
      | else-column-layout w ↦ rw (w.before-is, w.column-is) (rows_anew i h c.put_byte.ensures c.put_decimal.ensures w.if-column-layout.false)
    ]

pub returns : goal.returns
returns c = rows_done c.loop-n.invariant c.loop-n-test.false
