-- `sizes::prefixed_size` meets its contract: a length's own size is small, so that nothing wraps. Assumes nothing.
use native.Mathlib.Omega.{arith}
use Rattle.sizes.proofs.ValueSizes.{size_most, capped_prefixed}
use Rattle.sizes.proofs.prefixed_size.Goals as goal

pub overflow_add-compute_raw_varint64_size : goal.overflow_add-compute_raw_varint64_size
overflow_add-compute_raw_varint64_size c = record { fits = omega (arith, size_most) }

pub returns : goal.returns
returns c = rw (c.cut.ensures, c.compute_raw_varint64_size.ensures, c.cut-length.ensures) (capped_prefixed c.args.length)
