-- `schema::check` meets its contract. The loop's invariant: the entries passed are good and rise, so that the rest decides. Assumes nothing.
use Rattle.schema.proofs.ValidLaws.{Here}
use Rattle.schema.proofs.check.Given as goal

abbrev pub invariant-loop-e : goal.invariant-loop-e
invariant-loop-e l = Here l.types l.numbers l.e l.last
