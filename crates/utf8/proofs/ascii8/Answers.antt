-- `utf8::ascii8` meets its contract: the number is the mask of eight bytes.
-- Assumes nothing.
use Prim.Native.Nat.{◌+◌, ◌-◌}
use native.Mathlib.Omega.{arith}
use mathlib.Core.Path.{◌≡◌}
use borrow.Author.Tests.{eqb-true}
use lib.Bits.{bit_and}
use lib.ListN.{take, drop}
use Rattle.utf8.proofs.Mask.{word, word_eight, highs, all_low}
use Rattle.utf8.proofs.ascii8.Goals as goal

pub returns : goal.returns
unfolding highs
returns c e =
    let a = c.args in
    let loaded : c.unwrap-word.result ≡ take (a.i + 8 - a.i) (drop a.i a.s.now) = (rw c.unwrap-word.ensures at c.try_from.ensures.1).same in
    let is : word 8 a.s.now a.i ≡ c.from_le_bytes.result = omega (arith, word_eight c.unwrap-word.result a.s.now a.i loaded, c.from_le_bytes.ensures) in
    let none : bit_and (word 8 a.s.now a.i) (highs 8) ≡ 0 = rw is (eqb-true _ 0 e) in
    all_low 8 a.s.now a.i (λ j. omega (arith, c.type_inv.s j)) none
