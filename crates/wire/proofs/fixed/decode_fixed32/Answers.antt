-- `wire::fixed::decode_fixed32` meets its contract: four bytes, or too few.
-- Assumes nothing.
use native.Mathlib.Omega.{arith}
use mathlib.Core.Path.{sym, ap, ◌∙◌}
use Rattle.spec.specs.Base.{Took}
use Rattle.wire.proofs.FixedLaws.{fixed_short}
use Rattle.wire.proofs.fixed.decode_fixed32.Goals as goal

pub returns-then-s-at : goal.returns-then-s-at
returns-then-s-at c = let a = c.args in fixed_short 4 a.s.now a.at (omega arith) (omega arith)

pub returns-then-s-at-lt4 : goal.returns-then-s-at-lt4
returns-then-s-at-lt4 c = let a = c.args in fixed_short 4 a.s.now a.at (omega arith) (omega arith)

pub returns : goal.returns
returns c = ap (Took c.four-value.result) (omega arith) ∙ sym c.four-value.ensures.1
