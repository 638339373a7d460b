-- `wire::fixed::put_fixed32` meets its contract: four bytes where there is room for them.
-- Assumes nothing.
use native.Mathlib.Omega.{arith}
use Rattle.spec.proofs.VarintLaws.{length_little}
use Rattle.wire.proofs.PutLaws.{no_room, in_place}
use Rattle.wire.proofs.fixed.put_fixed32.Goals as goal

pub returns-then-out-at : goal.returns-then-out-at
returns-then-out-at c = no_room (omega (arith, length_little 4 c.args.value))

pub returns-then-out-at-lt4 : goal.returns-then-out-at-lt4
returns-then-out-at-lt4 c = no_room (omega (arith, length_little 4 c.args.value))

pub returns : goal.returns
returns c =
    let long = length_little 4 c.args.value in
    in_place (omega (arith, long)) (omega (arith, long)) c.store_four.ensures
