-- `wire::wire_format::kind_wires` meets its contract: the table is the definition's, entry by entry.
-- Assumes nothing.
use mathlib.Core.Path.{refl}
use Rattle.spec.specs.Kind.{kind_wires}
use Rattle.wire.proofs.wire_format.kind_wires.Goals as goal

pub returns : goal.returns
unfolding kind_wires
returns c = refl
