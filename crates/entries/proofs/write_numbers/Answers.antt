-- `entries::write_numbers` meets its contract. Assumes nothing.
use Prim.Native.Nat.{ℕ}
use mathlib.Core.Path.{ap, ap₂, ◌∙◌}
use mathlib.Core.List.{List}
use lib.ListN.{length}
use Rattle.spec.specs.Record.{records_of}
use Rattle.spec.specs.Writing.{Writing, writing, number, size, index, output}
use Rattle.spec.specs.declared.Entry.{Entry}
use Rattle.entries.proofs.LentLaws.{alike_writing}
use Rattle.entries.proofs.NumbersLaws.{whole_alike}
use Rattle.entries.proofs.write_numbers.Goals as goal

pub returns : goal.returns
returns c =
    let a = c.args in
    let h = c.write.ensures in
    let under : ℕ → List Entry → Writing = λ types es. writing (record { types = types; entries = es }) (length a.out.now) a.payload.now (records_of a.list.now) in
    let same =
    ap₂ under c.type_count.ensures c.made_whole-count.ensures.front
    ∙ alike_writing (whole_alike a.types a.numbers.now) (length a.out.now) a.payload.now (records_of a.list.now) in
    record {
      number = h.number ∙ ap number same;
      size = h.size ∙ ap size same;
      index = h.index ∙ ap index same;
      output = h.output ∙ ap (λ (w : Writing). output w a.out.now) same;
    }
