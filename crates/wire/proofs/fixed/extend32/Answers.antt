-- `wire::fixed::extend32` meets its contract: the test is the definition's.
-- Assumes nothing.
use Prim.Native.Nat.{◌^◌}
use native.Mathlib.Omega.{arith}
use borrow.Author.Tests.{lt-ltb, le-ltb}
use Rattle.spec.specs.Kind.{extend}
use Rattle.wire.proofs.fixed.extend32.Goals as goal

pub returns-then-v-lt2147483648 : goal.returns-then-v-lt2147483648
unfolding extend
returns-then-v-lt2147483648 c = simp (lt-ltb c.args.v (2 ^ 31) (omega arith))

pub returns : goal.returns
unfolding extend
returns c = simp (le-ltb c.args.v (2 ^ 31) (omega arith)) (omega arith)
