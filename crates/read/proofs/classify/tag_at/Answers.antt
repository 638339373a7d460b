-- `read::classify::tag_at` meets its contract: by the guess where it is right, and else by the long way. Assumes nothing.
use native.Mathlib.Omega.{arith}
use mathlib.Core.Path.{ap, ◌∙◌}
use Rattle.std.specs.Prelude.{Ok}
use Rattle.schema.proofs.AskingLaws.{Right}
use Rattle.read.proofs.ClassifyLaws.{byte, guessed_tag}
use Rattle.read.proofs.classify.tag_at.Goals as goal

pub returns-then-c-lt-WIRE_TYPES : goal.returns-then-c-lt-WIRE_TYPES
returns-then-c-lt-WIRE_TYPES c =
    let a = c.args in
    let b = c.from-c.ensures in
    let i = rw b at c.from-i.ensures in
    let right : Right a.keys.now a.info.now a.ty (byte a.at a.s.now) = (rw b at c.if-c-lt128.true, c.if-ty-lt-MOST_TYPES.true, rw (i, c.from.ensures, b) at c.if-keys-i.true) in
    ap Ok c.quick_tag.ensures
    ∙ rw (i, b)
    (guessed_tag a.keys.now a.info.now a.ty a.at a.s.now c.if-at-s.true right (omega (arith, c.fits-info))
    (rw b at c.if-c-ge8.true)
    (rw b at c.if-c-lt-WIRE_TYPES.true))
