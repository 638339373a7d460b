-- `entries::check` meets its contract: what is lent on of the copy is as good as the entries. Assumes nothing.
use Prim.Native.Nat.{ℕ}
use native.Mathlib.Omega.{arith}
use mathlib.Core.Path.{ap, ◌∙◌}
use mathlib.Core.List.{List}
use Rattle.spec.specs.Record.{records_of}
use Rattle.spec.specs.Schema.{schema_of}
use Rattle.spec.specs.Writing.{list_check}
use Rattle.entries.proofs.LentLaws.{lent_alike, alike_check}
use Rattle.entries.proofs.check.Goals as goal

pub returns : goal.returns
returns c =
    let a = c.args in
    c.check.ensures
    ∙ ap (λ (ns : List ℕ). list_check (schema_of a.types ns) a.payload.now (records_of a.list.now)) c.lend-lent.ensures
    ∙ alike_check (lent_alike a.types a.entries.now _ (omega arith)) a.payload.now (records_of a.list.now)
