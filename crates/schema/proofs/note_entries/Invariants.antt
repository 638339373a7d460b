-- `schema::note_entries` meets its contract. The loop's invariant: the check stands before entry e, and both arrays hold the entries passed.
-- Assumes nothing.
use Rattle.schema.proofs.MakingLaws.{Made}
use Rattle.schema.proofs.note_entries.Given as goal

abbrev pub invariant-loop-e : goal.invariant-loop-e
invariant-loop-e l = Made l.types l.numbers l.e l.last l.initial.keys l.keys l.initial.info l.info
