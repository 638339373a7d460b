-- `sizes::singular::field_size` meets its contract: a value that is cut off above the limit does not change the answer. Assumes nothing.
use Prim.Native.Nat.{◌+◌, ◌*◌}
use mathlib.Core.Path.{ap, ap₂, ◌∙◌}
use native.Mathlib.Omega.{arith}
use Rattle.spec.specs.Base.{limited}
use Rattle.spec.specs.Varint.{tag_size}
use Rattle.spec.specs.Kind.{shape}
use Rattle.spec.specs.Sizes.{value_size, field_size}
use Rattle.sizes.proofs.ValueSizes.{size_most, limited_capped}
use Rattle.sizes.proofs.singular.field_size.Goals as goal

pub overflow_add-head : goal.overflow_add-head
overflow_add-head c = record { fits = omega (arith, size_most (c.args.number * 8)) }

pub returns : goal.returns
unfolding field_size
returns c =
    c.check_message_size.ensures
    ∙ ap limited (ap₂ ◌+◌ c.tag_size-head.ensures c.value_size-body.ensures)
    ∙ limited_capped (tag_size c.args.number) (value_size (shape c.args.kind) c.args.value)
