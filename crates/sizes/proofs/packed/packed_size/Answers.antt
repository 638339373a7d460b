-- `sizes::packed::packed_size` meets its contract: each value is its own pattern. Assumes nothing.
use mathlib.Core.Path.{ap, ◌∙◌}
use mathlib.Core.List.{map-id}
use Rattle.spec.specs.Sizes.{packed_size}
use Rattle.sizes.proofs.packed.packed_size.Goals as goal

pub returns : goal.returns
returns c = c.packed_values.ensures ∙ ap (packed_size c.args.kind c.args.number) (map-id c.args.values.now)
