-- `sizes::packed::packed_values` meets its contract: the content is what was summed up. Assumes nothing.
use mathlib.Core.Path.{◌∙◌}
use Rattle.sizes.proofs.PackedLaws.{packed_mapped}
use Rattle.sizes.proofs.packed.packed_values.Goals as goal

pub returns : goal.returns
returns g c = c.packed_field.ensures ∙ packed_mapped c.args.kind c.args.number _ g.T.Pattern.pattern_of c.args.values.now c.values_size.ensures
