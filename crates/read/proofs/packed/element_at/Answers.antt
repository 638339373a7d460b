-- `read::packed::element_at` meets its contract. Assumes nothing.
use mathlib.Core.Path.{sym, ap, ◌∙◌}
use mathlib.Core.Bool.{not}
use borrow.Author.Tests.{ne_eqb}
use Rattle.read.proofs.KindTests.{int_kind}
use Rattle.read.proofs.packed.element_at.Goals as goal

pub returns-then-this-ne0 : goal.returns-then-this-ne0
returns-then-this-ne0 g c = c.int_at.ensures ∙ int_kind _ _ (sym c.requires ∙ ap not (ne_eqb g.row.VARINTS 0 c.if-this-ne0.true))
