-- `entries::size` meets its contract: what is lent on of the copy is as good as the entries. Assumes nothing.
use Prim.Native.Nat.{ℕ}
use native.Mathlib.Omega.{arith}
use mathlib.Core.Path.{ap, ◌∙◌}
use mathlib.Core.List.{List}
use Rattle.spec.specs.Record.{records_of}
use Rattle.spec.specs.Schema.{schema_of}
use Rattle.spec.specs.Writing.{sizing, number, size, index}
use Rattle.entries.proofs.LentLaws.{lent_alike, alike_sizing}
use Rattle.entries.proofs.size.Goals as goal

pub returns : goal.returns
returns c =
    let a = c.args in
    let h = c.size.ensures in
    let same =
    ap (λ (ns : List ℕ). sizing (schema_of a.types ns) a.payload.now (records_of a.list.now)) c.lend-lent.ensures
    ∙ alike_sizing (lent_alike a.types a.entries.now _ (omega arith)) a.payload.now (records_of a.list.now) in
    record {
      number = h.number ∙ ap number same;
      size = h.size ∙ ap size same;
      index = h.index ∙ ap index same;
    }
