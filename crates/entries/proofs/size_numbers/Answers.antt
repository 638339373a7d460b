-- `entries::size_numbers` meets its contract. Assumes nothing.
use Prim.Native.Nat.{ℕ}
use mathlib.Core.Path.{ap, ap₂, ◌∙◌}
use mathlib.Core.List.{List}
use Rattle.spec.specs.Record.{records_of}
use Rattle.spec.specs.Writing.{Writing, sizing, number, size, index}
use Rattle.spec.specs.declared.Entry.{Entry}
use Rattle.entries.proofs.LentLaws.{alike_sizing}
use Rattle.entries.proofs.NumbersLaws.{whole_alike}
use Rattle.entries.proofs.size_numbers.Goals as goal

pub returns : goal.returns
returns c =
    let a = c.args in
    let h = c.size.ensures in
    let under : ℕ → List Entry → Writing = λ types es. sizing (record { types = types; entries = es }) a.payload.now (records_of a.list.now) in
    let same =
    ap₂ under c.type_count.ensures c.made_whole-count.ensures.front
    ∙ alike_sizing (whole_alike a.types a.numbers.now) a.payload.now (records_of a.list.now) in
    record {
      number = h.number ∙ ap number same;
      size = h.size ∙ ap size same;
      index = h.index ∙ ap index same;
    }
