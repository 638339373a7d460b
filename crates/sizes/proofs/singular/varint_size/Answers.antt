-- `sizes::singular::varint_size` meets its contract: both sizes are small. Assumes nothing.
use native.Mathlib.Omega.{arith}
use Rattle.sizes.proofs.ValueSizes.{size_most}
use Rattle.sizes.proofs.singular.varint_size.Goals as goal

pub overflow_add-result : goal.overflow_add-result
overflow_add-result g c = record { fits = omega (arith, size_most) }
