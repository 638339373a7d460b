-- `entries::made_whole` meets its contract. Assumes nothing.
use native.Mathlib.Omega.{arith}
use mathlib.Core.Path.{refl}
use borrow.Author.Tests.{eq-eqb, ne_eqb}
use Rattle.entries.specs.Copied.{one_more}
use Rattle.entries.proofs.NumbersLaws.{made_front}
use Rattle.entries.proofs.made_whole.Goals as goal

pub returns-then-numbers-eq0 : goal.returns-then-numbers-eq0
returns-then-numbers-eq0 c =
    let a = c.args in
    record {
      count = omega (arith, c.made.ensures.count);
      front = rw (eq-eqb _ _ c.if-numbers-eq0.true) (made_front a.numbers.now one_more c.made.result (omega (arith, c.made.ensures.count)) c.made.ensures.front);
    }

pub returns-else-numbers-eq0 : goal.returns-else-numbers-eq0
returns-else-numbers-eq0 c = record { count = omega arith; front = rw (ne_eqb _ _ c.if-numbers-eq0.false) refl }
