-- `pull::value::varint_found` meets its contract: the width by the flag. Assumes nothing.
use Rattle.pull.proofs.value.varint_found.Goals as goal

pub returns-then-narrow : goal.returns-then-narrow
returns-then-narrow c = rw c.if-narrow.true c.narrow_found.ensures

pub returns : goal.returns
returns c = rw c.if-narrow.false c.wide_found.ensures
