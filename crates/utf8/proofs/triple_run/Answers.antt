-- `utf8::triple_run` meets its contract. The loop's invariant: from i up to j stand whole characters. The measure is what is left of the length.
-- Assumes nothing.
use native.Mathlib.Omega.{arith}
use Rattle.utf8.proofs.TextLaws.{stay, triple, rest_first, rest_long, rest_at}
use Rattle.utf8.proofs.triple_run.Goals as goal

pub loop-j-init : goal.loop-j-init
loop-j-init c = stay _ c.requires

pub loop-j-preserved : goal.loop-j-preserved
loop-j-preserved c =
    let s = c.args.s.now in
    let j = c.loop-j.j in
    triple c.loop-j.invariant
    (omega (arith, rest_first s j, rest_long s j, rest_at s j 1, rest_at s j 2))
    (omega (arith, rest_first s j, rest_long s j, rest_at s j 1, rest_at s j 2))
    (omega (arith, rest_first s j, rest_long s j, rest_at s j 1, rest_at s j 2))
    (omega (arith, rest_first s j, rest_long s j, rest_at s j 1, rest_at s j 2))
    (omega (arith, rest_first s j, rest_long s j, rest_at s j 1, rest_at s j 2))
    (omega (arith, rest_first s j, rest_long s j, rest_at s j 1, rest_at s j 2))
    (omega (arith, rest_first s j, rest_long s j, rest_at s j 1, rest_at s j 2))
