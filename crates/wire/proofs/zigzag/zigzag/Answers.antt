-- `wire::zigzag::zigzag` meets its contract: the test is the definition's.
-- Assumes nothing.
use native.Mathlib.Omega.{arith}
use borrow.Author.Tests.{lt-ltb, le-ltb}
use Rattle.spec.specs.Varint.{zigzag}
use Rattle.wire.proofs.zigzag.zigzag.Goals as goal

pub returns-then-pattern-lt9223372036854775808 : goal.returns-then-pattern-lt9223372036854775808
unfolding zigzag
returns-then-pattern-lt9223372036854775808 c = simp (lt-ltb _ _ c.if-pattern-lt9223372036854775808.true) (omega arith)

pub returns-else-pattern-lt9223372036854775808 : goal.returns-else-pattern-lt9223372036854775808
unfolding zigzag
returns-else-pattern-lt9223372036854775808 c = simp (le-ltb _ _ c.if-pattern-lt9223372036854775808.false) (omega arith)
