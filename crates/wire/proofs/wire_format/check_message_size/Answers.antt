-- `wire::wire_format::check_message_size` meets its contract: the test is the definition's. Assumes nothing.
use native.Mathlib.Omega.{arith}
use borrow.Author.Tests.{le-leb, lt-leb}
use Rattle.spec.specs.Base.{limit, limited}
use Rattle.wire.proofs.wire_format.check_message_size.Goals as goal

pub returns-then-size-le-MAX_MESSAGE_SIZE : goal.returns-then-size-le-MAX_MESSAGE_SIZE
unfolding limited
returns-then-size-le-MAX_MESSAGE_SIZE c = simp (le-leb c.args.size limit (omega arith))

pub returns-else-size-le-MAX_MESSAGE_SIZE : goal.returns-else-size-le-MAX_MESSAGE_SIZE
unfolding limited
returns-else-size-le-MAX_MESSAGE_SIZE c = simp (lt-leb c.args.size limit (omega arith))
