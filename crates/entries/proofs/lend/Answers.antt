-- `entries::lend` meets its contract: what is lent is the front of the copy. Assumes nothing.
use Rattle.entries.proofs.LentLaws.{front_few, front_many}
use Rattle.entries.proofs.lend.Goals as goal

pub returns-then-count-gt-MOST_ENTRIES : goal.returns-then-count-gt-MOST_ENTRIES
returns-then-count-gt-MOST_ENTRIES c = front_many c.args.entries.now c.args.numbers.now _ c.copy-count.result c.copy-count.ensures.0 c.if-count-gt-MOST_ENTRIES.true c.copy-count.ensures.1

pub returns : goal.returns
returns c = front_few c.args.entries.now c.args.numbers.now _ c.copy-count.result c.copy-count.ensures.0 c.if-count-gt-MOST_ENTRIES.false c.told-numbers c.copy-count.ensures.1
