-- `sizes::by_size` meets its contract. Assumes nothing.
use native.Mathlib.Omega.{arith}
use Rattle.sizes.proofs.AnswerLaws.{told_above, told_short, told_fits}
use Rattle.sizes.proofs.by_size.Goals as goal

pub returns-then-size-gt-MAX_MESSAGE_SIZE : goal.returns-then-size-gt-MAX_MESSAGE_SIZE
returns-then-size-gt-MAX_MESSAGE_SIZE c s e = let a = c.args in told_above a.room s a.size e (omega arith)

pub returns-then-room-size : goal.returns-then-room-size
returns-then-room-size c s e = let a = c.args in told_short a.room s a.size e (omega arith) (omega arith)

pub returns : goal.returns
returns c s e = let a = c.args in told_fits a.room s a.size e (omega arith) (omega arith)
