-- `entries::copy` meets its contract: storing the entries from i on gives the whole copy. Assumes nothing.
use mathlib.Core.Path.{refl, sym}
use Rattle.entries.proofs.CopyLaws.{copied_none}
use Rattle.entries.proofs.StoringLaws.{more, ends}
use Rattle.entries.proofs.copy.Goals as goal

pub loop-i-preserved : goal.loop-i-preserved
loop-i-preserved c = more c.args.entries.now c.args.numbers.now c.loop-i.numbers c.loop-i.i c.put.new.numbers c.loop-i-test.true c.loop-i.invariant c.put.ensures

pub returns-after-loop-i : goal.returns-after-loop-i
returns-after-loop-i c = (refl, ends c.args.entries.now c.args.numbers.now c.loop-i.numbers c.loop-i.i c.loop-i-test.false c.if-entries-le-MOST_ENTRIES.true c.loop-i.invariant)

pub returns-else-entries-le-MOST_ENTRIES : goal.returns-else-entries-le-MOST_ENTRIES
returns-else-entries-le-MOST_ENTRIES c = (refl, sym (copied_none c.args.entries.now c.args.numbers.now c.if-entries-le-MOST_ENTRIES.false))
