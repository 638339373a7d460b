-- `sizes::packed::vec_packed_sfixed32_size` meets its contract: each value takes 4 bytes. Assumes nothing.
use mathlib.Core.Path.{refl, ◌∙◌}
use mir.Syntax.{w64}
use mir.Val.{of_z}
use Rattle.spec.specs.Names.{sfixed32_kind}
use Rattle.spec.specs.Kind.{shapes, shape}
use Rattle.spec.specs.Sizes.{scalar_size, value_size}
use Rattle.sizes.proofs.PackedLaws.{packed_same}
use Rattle.sizes.proofs.packed.vec_packed_sfixed32_size.Goals as goal

pub returns : goal.returns
unfolding shapes shape scalar_size value_size
returns c = c.packed_fixed.ensures ∙ packed_same sfixed32_kind c.args.number 4 (of_z w64) (λ v. refl) c.args.values.now
