-- `messages::read_message` meets its contract: the part that is handed on is the range's. Assumes nothing.
use Prim.Native.Nat.{ℕ, ◌/◌}
use mathlib.Core.Path.{subst}
use mathlib.Core.List.{List}
use lib.ListN.{length}
use Rattle.spec.specs.Record.{stride}
use Rattle.spec.specs.Schema.{schema_of}
use Rattle.spec.specs.Reading.{reading}
use Rattle.read.proofs.CallLaws.{Answers}
use Rattle.messages.proofs.StepLaws.{part_inside}
use Rattle.messages.proofs.read_message.Goals as goal

pub returns : goal.returns
returns c =
    let m = c.read in
    subst (λ (x : List ℕ). Answers (reading (schema_of c.args.types c.args.numbers.now) (length c.args.room.now / stride) x) m.result c.args.room.now m.new.room)
    (part_inside c.args.start c.args.end _ _ c.args.s.now c.min-end.ensures c.min-start.ensures) m.ensures
