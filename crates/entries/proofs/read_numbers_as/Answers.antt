-- `entries::read_numbers_as` meets its contract. Assumes nothing.
use Prim.Native.Nat.{ℕ, ◌/◌}
use mathlib.Core.Path.{ap, ap₂, ◌∙◌}
use mathlib.Core.List.{List}
use lib.ListN.{length}
use Rattle.spec.specs.Record.{stride}
use Rattle.spec.specs.Reading.{Reading, number, place, listed, room_after, reading_as}
use Rattle.spec.specs.declared.Entry.{Entry}
use Rattle.entries.proofs.LentLaws.{alike_reading}
use Rattle.entries.proofs.NumbersLaws.{whole_alike}
use Rattle.entries.proofs.read_numbers_as.Goals as goal

pub returns : goal.returns
returns c =
    let a = c.args in
    let h = c.read_as.ensures in
    let under : ℕ → List Entry → Reading = λ types es. reading_as a.mode (record { types = types; entries = es }) (length a.room.now / stride) a.s.now in
    let same =
    ap₂ under c.type_count.ensures c.made_whole-count.ensures.front
    ∙ alike_reading (whole_alike a.types a.numbers.now) a.mode (length a.room.now / stride) a.s.now in
    (h.0 ∙ ap number same, h.1 ∙ ap place same, h.2 ∙ ap (λ (q : Reading). length (listed q)) same, h.3 ∙ ap (λ (q : Reading). room_after q a.room.now) same)
