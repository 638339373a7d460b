-- `skip::field::past_varint` meets its contract. The loop passes one byte an iteration. Assumes nothing.
use Rattle.skip.proofs.VarintTurn.{Along}
use Rattle.skip.proofs.field.past_varint.Given as goal

abbrev pub invariant-loop-n : goal.invariant-loop-n
invariant-loop-n l = Along l.s l.at l.n
