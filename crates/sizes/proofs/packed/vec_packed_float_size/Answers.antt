-- `sizes::packed::vec_packed_float_size` meets its contract: each value takes 4 bytes. Assumes nothing.
use mathlib.Core.Path.{refl, ◌∙◌}
use lib.Ieee.{binary32, to_bits}
use Rattle.spec.specs.Names.{float_kind}
use Rattle.spec.specs.Kind.{shapes, shape}
use Rattle.spec.specs.Sizes.{scalar_size, value_size}
use Rattle.sizes.proofs.PackedLaws.{packed_same}
use Rattle.sizes.proofs.packed.vec_packed_float_size.Goals as goal

pub returns : goal.returns
unfolding shapes shape scalar_size value_size
returns c = c.packed_fixed.ensures ∙ packed_same float_kind c.args.number 4 (to_bits binary32) (λ v. refl) c.args.values.now
