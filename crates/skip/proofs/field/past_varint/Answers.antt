-- `skip::field::past_varint` meets its contract. The loop passes one byte an iteration. Assumes nothing.
use Prim.Native.Nat.{ℕ, ◌≤◌}
use mathlib.Core.Path.{◌≡◌, refl}
use native.Mathlib.Omega.{arith}
use Rattle.skip.proofs.VarintTurn.{begin, ended, stopped, turned, ends_last, bad_last}
use Rattle.skip.proofs.field.past_varint.Goals as goal

-- all nine are passed
all : {n : ℕ} → n ≤ 9 → 9 ≤ n → n ≡ 9
all h i = omega arith

pub loop-n-init : goal.loop-n-init
loop-n-init c = begin _ _

pub returns-then-left-n : goal.returns-then-left-n
returns-then-left-n c = ended c.loop-n.invariant (omega arith)

pub returns-then-s-at-lt128 : goal.returns-then-s-at-lt128
returns-then-s-at-lt128 c = stopped c.loop-n.invariant (omega arith) (omega arith) _ refl c.if-s-at-lt128.true

pub loop-n-preserved : goal.loop-n-preserved
loop-n-preserved c = turned c.loop-n.invariant (omega arith) (omega arith) c.if-s-at-lt128.false

pub returns-then-left-le-MORE_OF_64 : goal.returns-then-left-le-MORE_OF_64
returns-then-left-le-MORE_OF_64 c = ended c.loop-n.invariant (omega arith)

pub returns-then-s-at-gt-LAST_OF_64 : goal.returns-then-s-at-gt-LAST_OF_64
returns-then-s-at-gt-LAST_OF_64 c = bad_last (rw (all c.loop-n.auto.n-end c.loop-n-test.false) at c.loop-n.invariant) (omega arith) (omega arith) c.if-s-at-gt-LAST_OF_64.true

pub returns : goal.returns
returns c = ends_last (rw (all c.loop-n.auto.n-end c.loop-n-test.false) at c.loop-n.invariant) (omega arith) (omega arith) c.if-s-at-gt-LAST_OF_64.false
