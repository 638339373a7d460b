-- `bench_pull::message::content` meets its contract: a message, or packed elements. Assumes nothing.
use mathlib.Core.Path.{◌∙◌}
use Rattle.bench_pull.proofs.FieldLaws.{root_message_lem, root_packed_lem}
use Rattle.bench_pull.proofs.message.content.Goals as goal

pub returns-then-tag-eq-ROOT_MESSAGE : goal.returns-then-tag-eq-ROOT_MESSAGE
returns-then-tag-eq-ROOT_MESSAGE c = let a = c.args in c.inner.ensures ∙ root_message_lem a.from a.s.now c.if-tag-eq-ROOT_MESSAGE.true

pub returns : goal.returns
returns c = let a = c.args in c.elements.ensures ∙ root_packed_lem a.from a.s.now c.if-tag-eq-ROOT_MESSAGE.false
