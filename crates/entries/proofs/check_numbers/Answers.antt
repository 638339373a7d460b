-- `entries::check_numbers` meets its contract. Assumes nothing.
use Prim.Native.Nat.{ℕ}
use mathlib.Core.Path.{ap₂, ◌∙◌}
use mathlib.Core.List.{List}
use Rattle.spec.specs.Record.{records_of}
use Rattle.spec.specs.Writing.{Verdict, list_check}
use Rattle.spec.specs.declared.Entry.{Entry}
use Rattle.entries.proofs.LentLaws.{alike_check}
use Rattle.entries.proofs.NumbersLaws.{whole_alike}
use Rattle.entries.proofs.check_numbers.Goals as goal

pub returns : goal.returns
returns c =
    let a = c.args in
    let under : ℕ → List Entry → Verdict = λ types es. list_check (record { types = types; entries = es }) a.payload.now (records_of a.list.now) in
    c.check.ensures
    ∙ ap₂ under c.type_count.ensures c.made_whole-count.ensures.front
    ∙ alike_check (whole_alike a.types a.numbers.now) a.payload.now (records_of a.list.now)
