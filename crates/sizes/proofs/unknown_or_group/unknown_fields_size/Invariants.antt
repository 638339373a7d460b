-- `sizes::unknown_or_group::unknown_fields_size` meets its contract. The loop's invariant: what is summed up and what is left are the whole.
-- Assumes nothing.
use Rattle.std.specs.Slice.Iter.{chunks_exact_rest, chunks_exact_size}
use Rattle.std.proofs.Common.{◌≡◌}
use Rattle.spec.specs.Record.{records_of, stride}
use Rattle.spec.specs.Sizes.{unknowns_size}
use Rattle.sizes.proofs.Sums.{Summed}
use Rattle.sizes.proofs.unknown_or_group.unknown_fields_size.Given as goal

abbrev pub invariant-loop-record : goal.invariant-loop-record
invariant-loop-record l =
    (chunks_exact_size l.record-iterator ≡ stride)
    × Summed (unknowns_size (records_of (chunks_exact_rest l.record-iterator))) (unknowns_size (records_of l.records)) l.sum
