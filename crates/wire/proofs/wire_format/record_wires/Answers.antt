-- `wire::wire_format::record_wires` meets its contract: the table of descriptor.proto's kinds, and our own after it. Assumes nothing.
use mathlib.Core.Path.{refl}
use Rattle.spec.specs.Kind.{kind_wires, own_wires, wires}
use Rattle.wire.proofs.wire_format.record_wires.Goals as goal

pub returns : goal.returns
unfolding kind_wires own_wires wires
returns c = refl
