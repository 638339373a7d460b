-- `inner` calls itself for a message within, one level up: the measure is how many levels are left. The loop's invariant: the whole answer is
-- the answer for the fields from here on. Assumes nothing.
use Rattle.std.proofs.Common.{length, ◌-◌, ◌+◌}
use Rattle.spec.specs.Names.{most_levels}
use Rattle.bench_pull.specs.Fields as spec
use Rattle.bench_pull.specs.Fields.{inner_way}
use Rattle.bench_pull.proofs.FieldLaws.{Here}
use Rattle.bench_pull.proofs.message.+inner.Given as goal

abbrev pub decreases-inner : goal.decreases-inner
decreases-inner l = most_levels - l.level

abbrev pub invariant-loop-at : goal.invariant-loop-at
invariant-loop-at l = Here (inner_way l.level (spec.inner (most_levels - l.level))) (spec.inner (most_levels + 1 - l.level) l.from l.s) l.s l.at l.acc

abbrev pub decreases-loop-at : goal.decreases-loop-at
decreases-loop-at l = length l.s - l.at
