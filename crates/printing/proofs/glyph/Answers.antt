-- `printing::glyph` meets its contract. Assumes nothing.
use Rattle.printing.proofs.TextLaws.{glyph_low, glyph_high}
use Rattle.printing.proofs.glyph.Goals as goal

pub returns-then-digit-lt10 : goal.returns-then-digit-lt10
returns-then-digit-lt10 c = glyph_low c.if-digit-lt10.true

pub returns-else-digit-lt10 : goal.returns-else-digit-lt10
returns-else-digit-lt10 c = glyph_high c.if-digit-lt10.false
