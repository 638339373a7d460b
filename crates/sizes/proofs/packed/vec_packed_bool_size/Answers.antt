-- `sizes::packed::vec_packed_bool_size` meets its contract: 0 and 1 take one byte each. Assumes nothing.
use mathlib.Core.Path.{◌≡◌, refl, ◌∙◌}
use mathlib.Core.Bool.{Bool, true, false}
use lib.Count.{count_leading_zeros}
use mir.Val.{bool_byte}
use Rattle.spec.specs.Names.{bool_kind}
use Rattle.spec.specs.Varint.{size}
use Rattle.spec.specs.Kind.{shapes, shape}
use Rattle.spec.specs.Sizes.{scalar_size, value_size}
use Rattle.sizes.proofs.PackedLaws.{packed_same}
use Rattle.sizes.proofs.packed.vec_packed_bool_size.Goals as goal

one_byte : (b : Bool) → value_size (shape bool_kind) (bool_byte b) ≡ 1
unfolding shapes shape scalar_size value_size size count_leading_zeros
one_byte true = refl
one_byte false = refl

pub returns : goal.returns
returns c = c.packed_fixed.ensures ∙ packed_same bool_kind c.args.number 1 bool_byte one_byte c.args.values.now
