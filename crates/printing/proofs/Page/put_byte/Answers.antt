-- `printing::Page::put_byte` meets its contract, with room and without. Assumes nothing.
use Rattle.std.proofs.Common.{refl}
use Rattle.printing.proofs.TextLaws.{shown_byte, shown_full}
use Rattle.printing.proofs.Page.put_byte.Goals as goal

pub returns-then-self : goal.returns-then-self
returns-then-self c = record { shown = shown_byte c.if-self.true; same_slice = refl }

pub returns-else-self : goal.returns-else-self
returns-else-self c = record { shown = shown_full c.if-self.false; same_slice = refl }
