-- `bench_leaves::perf_put_varints` meets its contract. The loop's invariant: what is to be stored in all is what the rest stores from here.
-- Assumes nothing.
use native.Mathlib.Omega.{arith}
use mathlib.Core.Path.{refl}
use borrow.Author.Rules.{rules}
use Rattle.bench_leaves.proofs.LoopLaws.{putting_start, putting_end, putting_next, putting_none}
use Rattle.bench_leaves.proofs.perf_put_varints.Goals as goal

pub loop-value-init : goal.loop-value-init
loop-value-init c = (putting_start, refl)

pub returns-in_default : goal.returns-in_default
returns-in_default c = putting_none c.loop-value.invariant.0 (omega arith) c.put_varint64.ensures c.in_default.is

pub loop-value-preserved : goal.loop-value-preserved
loop-value-preserved c = (putting_next c.loop-value.invariant.0 (omega arith) c.put_varint64.ensures c.in-Some.is, search rules)

pub returns : goal.returns
returns c = putting_end c.loop-value.invariant.0 (omega arith)
