-- `printing::Page::put_text` meets its contract. Assumes nothing.
use Rattle.printing.proofs.TextLaws.{text_step, text_done}
use Rattle.printing.proofs.Page.put_text.Goals as goal

pub loop-b-preserved : goal.loop-b-preserved
loop-b-preserved c = text_step _ _ c.loop-b.invariant c.loop-b-test.true c.put_byte.ensures

pub returns : goal.returns
returns c = text_done _ _ c.loop-b.invariant c.loop-b-test.false
