-- `sizes::singular::int64_size` meets its contract: the kind is a varint of the pattern. Assumes nothing.
use mathlib.Core.Path.{sym, ap}
use mir.Syntax.{w64}
use mir.Val.{of_z}
use mir.ValLaws.{to_z-of_z}
use Rattle.spec.specs.Names.{int64_kind}
use Rattle.spec.specs.Varint.{size}
use Rattle.spec.specs.Kind.{shapes, shape}
use Rattle.spec.specs.Sizes.{scalar_size, value_size}
use Rattle.sizes.proofs.ValueSizes.{number_field}
use Rattle.sizes.proofs.singular.int64_size.Goals as goal

pub returns : goal.returns
unfolding shapes shape scalar_size value_size
returns c = number_field int64_kind c.args.number _ _ _ c.varint_size.ensures (ap (λ z. size (of_z w64 z)) (sym (to_z-of_z w64 c.args.value c.ranges.value)))
