-- `entries::made` meets its contract: the entries before i are made, and the others are as they were. Assumes nothing.
use native.Mathlib.Omega.{arith}
use Rattle.entries.proofs.NumbersLaws.{here_first, here_next}
use Rattle.entries.proofs.made.Goals as goal

pub loop-i-init : goal.loop-i-init
loop-i-init c = here_first c.args.numbers.now c.args.room.now

pub loop-i-preserved : goal.loop-i-preserved
loop-i-preserved c = here_next c.args.numbers.now _ c.loop-i.i _ c.loop-i.room c.entry_at.result (omega arith) (omega arith) c.loop-i.invariant c.entry_at.ensures
