-- `read::classify::long_tag` meets its contract: the varint, whether it is a good tag, and what the tables say of it. Assumes nothing.
use Prim.Native.Nat.{◌/◌}
use native.Mathlib.Omega.{arith}
use mathlib.Core.Path.{refl, ap, ◌∙◌}
use Rattle.std.specs.Prelude.{Ok}
use Rattle.std.proofs.lemmas.Result.{err_from_is_err_and}
use Rattle.spec.specs.Schema.{Says}
use Rattle.spec.proofs.SkipLaws.{good_tag_lem, bad_wire, bad_number}
use Rattle.wire.proofs.FoundLaws.{varint_placed}
use Rattle.read.specs.Answers.{tag_said}
use Rattle.read.proofs.ClassifyLaws.{refused_tag, bad_tag_lem, told_tag}
use Rattle.read.proofs.classify.long_tag.Goals as goal
use Rattle.read.proofs.classify.long_tag.Goals.{then-value-lt8-via-then-value-lt8, then-value-lt8-via-else-value-lt8+then-value-gt-LAST_WIRE}

pub returns-then-value-lt8 : goal.returns-then-value-lt8
returns-then-value-lt8 c =
    let v = c.in_ok-value.field-0.value in
    bad_tag_lem _ _ _ c.in_ok-value.field-0.next c.in_ok-value.ensures
    (elim c.then-value-lt8.branch [
      | then-value-lt8-via-then-value-lt8 w ↦ bad_number v (omega (arith, w.if-value-lt8.true))
      | then-value-lt8-via-else-value-lt8+then-value-gt-LAST_WIRE w ↦ bad_wire v (omega (arith, w.if-value-gt-LAST_WIRE.true))
    ])

pub overflow_cast-value : goal.overflow_cast-value
overflow_cast-value c = let p = varint_placed 4 15 _ _ c.in_ok-value.ensures refl in omega (arith, p.small)

pub returns : goal.returns
returns c =
    rw (c.from.ensures, c.from-2.ensures)
    (ap (λ (x : Says). Ok (tag_said (c.in_ok-value.field-0.value / 8) x.kind x.inner c.in_ok-value.field-0.next)) c.says-said.ensures
    ∙ told_tag _ _ _ c.in_ok-value.field-0.next c.in_ok-value.ensures (good_tag_lem c.in_ok-value.field-0.value (omega arith) (omega arith)))

pub returns-in_err-value : goal.returns-in_err-value
returns-in_err-value c =
    let p = err_from_is_err_and c.from_residual.result c.from_residual.ensures.1 in
    rw (p.1, p.2) (refused_tag _ _ _ c.in_err-value.ensures)
