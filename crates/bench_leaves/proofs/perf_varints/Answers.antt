-- `bench_leaves::perf_varints` meets its contract. The loop's invariant: the whole answer is what the rest adds from here.
-- Assumes nothing.
use native.Mathlib.Omega.{arith}
use Rattle.bench_leaves.proofs.LoopLaws.{xored_start, xored_end, xored_refused, xored_turn, value_placed}
use Rattle.bench_leaves.proofs.perf_varints.Goals as goal

pub loop-at-init : goal.loop-at-init
loop-at-init c = xored_start _

pub loop-at-smaller : goal.loop-at-smaller
loop-at-smaller c =
    let p = value_placed c.loop-at.invariant c.decode_varint64.ensures c.in-Ok.is in
    omega (arith, p.past, p.inside)

pub loop-at-preserved : goal.loop-at-preserved
loop-at-preserved c = xored_turn c.loop-at.invariant c.decode_varint64.ensures c.in-Ok.is

pub returns-in_default : goal.returns-in_default
returns-in_default c = xored_refused c.loop-at.invariant c.decode_varint64.ensures c.in_default.is

pub returns : goal.returns
returns c = xored_end c.loop-at.invariant (omega arith)
