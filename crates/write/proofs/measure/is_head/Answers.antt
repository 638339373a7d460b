-- `write::measure::is_head` meets its contract. Assumes nothing.
use mathlib.Core.Path.{refl}
use borrow.Author.Tests.{eq-eqb, ne_eqb}
use Rattle.spec.specs.Names.{message_kind}
use Rattle.write.proofs.measure.is_head.Goals as goal

pub returns-then-kind-eq-MESSAGE : goal.returns-then-kind-eq-MESSAGE
returns-then-kind-eq-MESSAGE c = rw (eq-eqb c.args.kind message_kind c.if-kind-eq-MESSAGE.true) refl

pub returns-else-kind-eq-MESSAGE : goal.returns-else-kind-eq-MESSAGE
returns-else-kind-eq-MESSAGE c = rw (ne_eqb c.args.kind message_kind c.if-kind-eq-MESSAGE.false) refl
