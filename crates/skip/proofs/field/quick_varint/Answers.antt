-- `skip::field::quick_varint` meets its contract: the bytes are passed as by the loop of `past_varint`. Assumes nothing.
use native.Mathlib.Omega.{arith}
use Rattle.skip.proofs.VarintTurn.{Along, stopped, turned, first_stopped, first_turned}
use Rattle.skip.proofs.field.quick_varint.Goals as goal
use Rattle.skip.proofs.field.quick_varint.Goals.{Else-s-at-lt128, Else-s-at-lt128-2, Else-s-at-lt128-3, Else-s-at-lt128-4}

-- so many bytes are passed
along-1 : (c : Else-s-at-lt128) → let a = c.args in Along a.s.now a.at 1
along-1 c = first_turned _ _ (omega arith) c.if-s-at-lt128.false

along-2 : (c : Else-s-at-lt128-2) → let a = c.args in Along a.s.now a.at 2
along-2 c =
    let along-1 : let a = c.args in Along a.s.now a.at 1 = first_turned _ _ (omega arith) c.if-s-at-lt128.false in
    turned (along-1) (omega arith) (omega arith) c.if-s-at-lt128-2.false

along-3 : (c : Else-s-at-lt128-3) → let a = c.args in Along a.s.now a.at 3
along-3 c =
    let along-1 : let a = c.args in Along a.s.now a.at 1 = first_turned _ _ (omega arith) c.if-s-at-lt128.false in
    let along-2 : let a = c.args in Along a.s.now a.at 2 = turned (along-1) (omega arith) (omega arith) c.if-s-at-lt128-2.false in
    turned (along-2) (omega arith) (omega arith) c.if-s-at-lt128-3.false

along-4 : (c : Else-s-at-lt128-4) → let a = c.args in Along a.s.now a.at 4
along-4 c =
    let along-1 : let a = c.args in Along a.s.now a.at 1 = first_turned _ _ (omega arith) c.if-s-at-lt128.false in
    let along-2 : let a = c.args in Along a.s.now a.at 2 = turned (along-1) (omega arith) (omega arith) c.if-s-at-lt128-2.false in
    let along-3 : let a = c.args in Along a.s.now a.at 3 = turned (along-2) (omega arith) (omega arith) c.if-s-at-lt128-3.false in
    turned (along-3) (omega arith) (omega arith) c.if-s-at-lt128-4.false

pub returns-then-s-at-lt128 : goal.returns-then-s-at-lt128
returns-then-s-at-lt128 c = first_stopped _ _ (omega arith) c.if-s-at-lt128.true

pub returns-then-s-at-lt128-2 : goal.returns-then-s-at-lt128-2
returns-then-s-at-lt128-2 c = stopped (along-1 (goal.at.returns-then-s-at-lt128-2 c).Else-s-at-lt128) (omega arith) (omega arith) _ (omega arith) c.if-s-at-lt128-2.true

pub returns-then-s-at-lt128-3 : goal.returns-then-s-at-lt128-3
returns-then-s-at-lt128-3 c = stopped (along-2 (goal.at.returns-then-s-at-lt128-3 c).Else-s-at-lt128-2) (omega arith) (omega arith) _ (omega arith) c.if-s-at-lt128-3.true

pub returns-then-s-at-lt128-4 : goal.returns-then-s-at-lt128-4
returns-then-s-at-lt128-4 c = stopped (along-3 (goal.at.returns-then-s-at-lt128-4 c).Else-s-at-lt128-3) (omega arith) (omega arith) _ (omega arith) c.if-s-at-lt128-4.true

pub returns-then-s-at-lt128-5 : goal.returns-then-s-at-lt128-5
returns-then-s-at-lt128-5 c = stopped (along-4 (goal.at.returns-then-s-at-lt128-5 c).Else-s-at-lt128-4) (omega arith) (omega arith) _ (omega arith) c.if-s-at-lt128-5.true
