-- `printing::Page::put_hex` meets its contract. Assumes nothing.
use Rattle.printing.proofs.TextLaws.{hex_step, hex_done}
use Rattle.printing.proofs.Page.put_hex.Goals as goal

pub loop-b-preserved : goal.loop-b-preserved
loop-b-preserved c =
    hex_step _ _ c.loop-b.invariant c.loop-b-test.true c.glyph.ensures c.glyph-in-loop-b.ensures c.put_byte.ensures c.put_byte-in-loop-b.ensures

pub returns : goal.returns
returns c = hex_done _ _ c.loop-b.invariant c.loop-b-test.false
