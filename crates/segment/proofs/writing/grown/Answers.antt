-- `segment::writing::grown` meets its contract. Assumes nothing.
use native.Mathlib.Omega.{arith}
use Rattle.spec.proofs.VarintLaws.{length_encode}
use Rattle.sizes.proofs.ValueSizes.{size_most}
use Rattle.segment.proofs.writing.grown.Goals as goal

pub overflow_add-compute_raw_varint64_size : goal.overflow_add-compute_raw_varint64_size
overflow_add-compute_raw_varint64_size c = omega (arith, size_most c.args.n)

pub overflow_add-size : goal.overflow_add-size
overflow_add-size c = omega (arith, size_most c.args.n)

pub returns : goal.returns
returns c = omega (arith, length_encode c.args.n)
