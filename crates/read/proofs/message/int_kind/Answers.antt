-- `read::message::int_kind` meets its contract: the entry of the tag is the guess, where it is right. Assumes nothing.
use native.Mathlib.Omega.{arith}
use mathlib.Core.Path.{sym, ap, ◌∙◌}
use Rattle.spec.specs.Schema.{Says}
use Rattle.schema.proofs.AskingLaws.{Right, says_guessed}
use Rattle.read.specs.Answers.{tells, tells_not}
use Rattle.read.proofs.message.int_kind.Goals as goal

pub returns-then-number-gt0 : goal.returns-then-number-gt0
returns-then-number-gt0 c =
    let a = c.args in
    let i = rw c.from.ensures at c.from-i.ensures in
    let right : Right a.keys.now a.info.now a.ty a.c = (c.if-c-lt128.true, c.requires, rw (i, c.from-then-c-lt128.ensures, c.from-then-c-lt128-2.ensures) at c.if-keys-i.true) in
    tells (omega (arith, c.if-number-gt0.true)) c.if-c-lt128.true c.if-c-eq-VARINT.true
    (ap (λ (x : Says). x.kind) (says_guessed a.keys.now a.info.now a.ty a.c right (omega (arith, c.fits-info)))
    ∙ sym (rw i at c.from-then-number-gt0.ensures))

pub returns-else-keys-i : goal.returns-else-keys-i
returns-else-keys-i c = tells_not

pub returns-else-c-eq-VARINT : goal.returns-else-c-eq-VARINT
returns-else-c-eq-VARINT c = tells_not
