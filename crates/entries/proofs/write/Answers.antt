-- `entries::write` meets its contract: what is lent on of the copy is as good as the entries. Assumes nothing.
use Prim.Native.Nat.{ℕ}
use native.Mathlib.Omega.{arith}
use mathlib.Core.Path.{ap, ◌∙◌}
use mathlib.Core.List.{List}
use lib.ListN.{length}
use Rattle.spec.specs.Record.{records_of}
use Rattle.spec.specs.Schema.{schema_of}
use Rattle.spec.specs.Writing.{Writing, writing, number, size, index, output}
use Rattle.entries.proofs.LentLaws.{lent_alike, alike_writing}
use Rattle.entries.proofs.write.Goals as goal

pub returns : goal.returns
returns c =
    let a = c.args in
    let h = c.write.ensures in
    let same =
    ap (λ (ns : List ℕ). writing (schema_of a.types ns) (length a.out.now) a.payload.now (records_of a.list.now)) c.lend-lent.ensures
    ∙ alike_writing (lent_alike a.types a.entries.now _ (omega arith)) (length a.out.now) a.payload.now (records_of a.list.now) in
    record {
      number = h.number ∙ ap number same;
      size = h.size ∙ ap size same;
      index = h.index ∙ ap index same;
      output = h.output ∙ ap (λ (w : Writing). output w a.out.now) same;
    }
