-- `sizes::singular::uint64_size` meets its contract: the kind is a varint of the pattern. Assumes nothing.
use mathlib.Core.Path.{refl}
use Rattle.spec.specs.Names.{uint64_kind}
use Rattle.spec.specs.Kind.{shapes, shape}
use Rattle.spec.specs.Sizes.{scalar_size, value_size}
use Rattle.sizes.proofs.ValueSizes.{number_field}
use Rattle.sizes.proofs.singular.uint64_size.Goals as goal

pub returns : goal.returns
unfolding shapes shape scalar_size value_size
returns c = number_field uint64_kind c.args.number _ _ _ c.varint_size.ensures refl
