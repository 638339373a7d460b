-- `wire::varint::encode::store` meets its contract. The eight bytes at once and both loops keep `Storing`, whose laws answer each store; the loops' measure is what is
-- still to be stored.
-- Assumes nothing.
use Rattle.wire.proofs.VarintStores.{Storing}
use Rattle.wire.proofs.varint.encode.store.Given as goal

abbrev pub invariant-loop-v : goal.invariant-loop-v
invariant-loop-v l = Storing l.initial.v l.initial.out l.initial.i l.out l.v l.i

abbrev pub decreases-loop-v : goal.decreases-loop-v
decreases-loop-v l = l.v

abbrev pub invariant-loop-v-2 : goal.invariant-loop-v-2
invariant-loop-v-2 l = Storing l.initial.v l.initial.out l.initial.i l.out l.v l.i

abbrev pub decreases-loop-v-2 : goal.decreases-loop-v-2
decreases-loop-v-2 l = l.v
