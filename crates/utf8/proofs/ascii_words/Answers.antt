-- `utf8::ascii_words` meets its contract. The loop's invariant: from i up to j stand whole characters. The measure is what is left of the length.
-- Assumes nothing.
use native.Mathlib.Omega.{arith}
use native.Mathlib.Nat.{add_assoc}
use Rattle.utf8.specs.Text.{Passed}
use Rattle.utf8.proofs.TextLaws.{stay, onward, ascii}
use Rattle.utf8.proofs.ascii_words.Goals as goal
use Rattle.utf8.proofs.ascii_words.Goals.{then-s-j-ge8+else-not-ascii8-3, else-s-j-ge8}

pub loop-j-init : goal.loop-j-init
loop-j-init c = stay _ c.requires

pub returns-then-not-ascii8 : goal.returns-then-not-ascii8
returns-then-not-ascii8 c = c.loop-j.invariant

pub returns-then-not-ascii8-2 : goal.returns-then-not-ascii8-2
returns-then-not-ascii8-2 c = ascii c.loop-j.invariant 8 (omega arith) (c.ascii8.ensures c.if-not-ascii8.false)

pub loop-j-preserved : goal.loop-j-preserved
loop-j-preserved c =
    let first = ascii c.loop-j.invariant 8 (omega arith) (c.ascii8.ensures c.if-not-ascii8.false) in
    rw add_assoc at (ascii first 8 (omega arith) (c.ascii8-in-loop-j.ensures c.if-not-ascii8-2.false))

-- past the loop
pub returns-then-not-ascii8-3 : goal.returns-then-not-ascii8-3
returns-then-not-ascii8-3 c = c.loop-j.invariant

pub returns : goal.returns
returns c =
    let near : Passed c.args.s.now c.args.i c.if-s-j-ge8.j = (elim c.if-s-j-ge8.branch [
      | then-s-j-ge8+else-not-ascii8-3 w ↦ rw w.j-is (ascii c.loop-j.invariant 8 (omega arith) (w.ascii8-then-s-j-ge8.ensures w.if-not-ascii8-3.false))
      | else-s-j-ge8 w ↦ rw w.j-is c.loop-j.invariant
    ]) in
    onward near c.ascii_end.ensures
