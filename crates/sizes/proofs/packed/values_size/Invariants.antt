-- `sizes::packed::values_size` meets its contract. The loop's invariant: what is summed up and what is left are the whole. Assumes nothing.
use Rattle.spec.specs.Kind.{shape}
use Rattle.sizes.proofs.Sums.{Summed, from}
use Rattle.sizes.proofs.packed.values_size.Given as goal

abbrev pub invariant-loop-value : goal.invariant-loop-value
invariant-loop-value g l = Summed (from (shape l.kind) g.T.Pattern.pattern_of l.values l.value-index) (from (shape l.kind) g.T.Pattern.pattern_of l.values 0) l.sum
