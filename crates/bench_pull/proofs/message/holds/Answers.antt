-- `bench_pull::message::holds` meets its contract. Assumes nothing.
use mathlib.Core.Path.{refl}
use borrow.Author.Tests.{ne_eqb}
use Rattle.bench_pull.specs.Fields.{root_message, root_holds}
use Rattle.bench_pull.proofs.message.holds.Goals as goal

pub returns-then-tag-eq-ROOT_MESSAGE : goal.returns-then-tag-eq-ROOT_MESSAGE
unfolding root_holds
returns-then-tag-eq-ROOT_MESSAGE c = rw c.if-tag-eq-ROOT_MESSAGE.true refl

pub returns : goal.returns
unfolding root_holds
returns c = rw (ne_eqb c.args.tag root_message c.if-tag-eq-ROOT_MESSAGE.false) refl
