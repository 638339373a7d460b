-- `entries::read_as` meets its contract: what is lent on of the copy is as good as the entries. Assumes nothing.
use Prim.Native.Nat.{ℕ, ◌/◌}
use native.Mathlib.Omega.{arith}
use mathlib.Core.Path.{ap, ◌∙◌}
use mathlib.Core.List.{List}
use lib.ListN.{length}
use Rattle.spec.specs.Record.{stride}
use Rattle.spec.specs.Schema.{schema_of}
use Rattle.spec.specs.Reading.{Reading, number, place, listed, room_after, reading_as}
use Rattle.entries.proofs.LentLaws.{lent_alike, alike_reading}
use Rattle.entries.proofs.read_as.Goals as goal

pub returns : goal.returns
returns c =
    let a = c.args in
    let h = c.read_as.ensures in
    let same =
    ap (λ (ns : List ℕ). reading_as a.mode (schema_of a.types ns) (length a.room.now / stride) a.s.now) c.lend-lent.ensures
    ∙ alike_reading (lent_alike a.types a.entries.now _ (omega arith)) a.mode (length a.room.now / stride) a.s.now in
    (h.0 ∙ ap number same, h.1 ∙ ap place same, h.2 ∙ ap (λ (q : Reading). length (listed q)) same, h.3 ∙ ap (λ (q : Reading). room_after q a.room.now) same)
