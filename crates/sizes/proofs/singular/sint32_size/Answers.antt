-- `sizes::singular::sint32_size` meets its contract: the kind is a varint of the zigzag number. Assumes nothing.
use mathlib.Core.Path.{sym, ap, ◌∙◌}
use mir.Syntax.{w32, w64}
use mir.Val.{of_z}
use mir.ValLaws.{to_z-of_z}
use Rattle.spec.specs.Names.{sint32_kind}
use Rattle.spec.specs.Varint.{size, zigzag}
use Rattle.spec.specs.Kind.{shapes, shape}
use Rattle.spec.specs.Sizes.{scalar_size, value_size}
use Rattle.sizes.proofs.ValueSizes.{number_field}
use Rattle.sizes.proofs.singular.sint32_size.Goals as goal

pub returns : goal.returns
unfolding shapes shape scalar_size value_size
returns c = number_field sint32_kind c.args.number _ _ _ c.varint_size.ensures (ap size (sym (c.zigzag.ensures ∙ ap zigzag (c.pattern.ensures ∙ ap (of_z w64) (to_z-of_z w32 c.args.value c.ranges.value)))))
