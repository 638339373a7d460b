-- `wire::fixed::put_fixed64` meets its contract: the lower four bytes and the upper four after them, where there is room for both.
-- Assumes nothing.
use native.Mathlib.Omega.{arith}
use Rattle.spec.proofs.VarintLaws.{length_little}
use Rattle.wire.proofs.FixedLaws.{put_eight}
use Rattle.wire.proofs.PutLaws.{no_room, in_place}
use Rattle.wire.proofs.fixed.put_fixed64.Goals as goal

pub returns-then-out-at : goal.returns-then-out-at
returns-then-out-at c = no_room (omega (arith, length_little 8 c.args.value))

pub returns-then-out-at-lt8 : goal.returns-then-out-at-lt8
returns-then-out-at-lt8 c = no_room (omega (arith, length_little 8 c.args.value))

pub returns : goal.returns
returns c =
    let v = c.args.value in
    let long = length_little 8 v in
    in_place (omega (arith, long)) (omega (arith, long)) (put_eight v _ _ c.store_four.ensures c.store_four-2.ensures)
