-- `wire::zigzag::unzigzag` meets its contract: the remainder decides, as in the definition.
-- Assumes nothing.
use native.Mathlib.Omega.{arith}
use borrow.Author.Tests.{eq-eqb, ne_eqb}
use Rattle.spec.specs.Varint.{unzigzag}
use Rattle.wire.proofs.zigzag.unzigzag.Goals as goal

pub returns-then-n-eq0 : goal.returns-then-n-eq0
unfolding unzigzag
returns-then-n-eq0 c = simp (eq-eqb _ _ c.if-n-eq0.true)

pub returns-else-n-eq0 : goal.returns-else-n-eq0
unfolding unzigzag
returns-else-n-eq0 c = simp (ne_eqb _ _ c.if-n-eq0.false) (omega arith)
