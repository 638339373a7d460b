-- `schema::tables` meets its contract: the entries are noted in the arrays that it has just cleared. Assumes nothing.
use Rattle.schema.specs.Tables.{keys_of, info_of}
use Rattle.schema.proofs.tables.Goals as goal

pub returns : goal.returns
unfolding keys_of info_of
returns c = c.note_entries.ensures
