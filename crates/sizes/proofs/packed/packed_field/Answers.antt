-- `sizes::packed::packed_field` meets its contract: a part that is cut off above the limit does not change the answer. Assumes nothing.
use Prim.Native.Nat.{◌+◌, ◌*◌}
use mathlib.Core.Path.{ap, ap₂, ◌∙◌}
use native.Mathlib.Omega.{arith}
use borrow.Author.Tests.{eq-eqb, ne_eqb}
use Rattle.spec.specs.Base.{limited}
use Rattle.spec.specs.Varint.{tag_size}
use Rattle.spec.specs.Sizes.{prefixed_size}
use Rattle.sizes.proofs.ValueSizes.{size_most, limited_capped}
use Rattle.sizes.proofs.packed.packed_field.Goals as goal

pub returns-then-count-eq0 : goal.returns-then-count-eq0
returns-then-count-eq0 c = simp (eq-eqb c.args.count 0 c.if-count-eq0.true)

pub overflow_add-head : goal.overflow_add-head
overflow_add-head c = record { fits = omega (arith, size_most (c.args.number * 8)) }

pub returns : goal.returns
returns c =
    simp (ne_eqb c.args.count 0 c.if-count-eq0.false)
    (c.check_message_size.ensures
    ∙ ap limited (ap₂ ◌+◌ c.tag_size-head.ensures c.prefixed_size-body.ensures)
    ∙ limited_capped (tag_size c.args.number) (prefixed_size c.args.content))
