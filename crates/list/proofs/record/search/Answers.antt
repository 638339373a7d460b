-- `list::record::search` meets its contract. Assumes nothing.
use Rattle.std.proofs.Common.{ℕ, ◌+◌, ◌*◌, arith, sym, ◌∙◌}
use mathlib.Core.Path.{ap₂}
use Rattle.schema.specs.Tables.{table_says}
use Rattle.list.specs.Checking.{suits, differs}
use Rattle.list.proofs.RecordLaws.{no_number, large_number, no_type, search_other, search_so}
use Rattle.list.proofs.record.search.Goals as goal
use Rattle.list.proofs.record.search.Goals.{then-number-eq0-via-then-number-eq0, then-number-eq0-via-else-number-eq0+then-number-gt-LARGEST_NUMBER, then-number-eq0-via-else-number-eq0+else-number-gt-LARGEST_NUMBER+then-w-gt-FIXED32}

pub returns-then-number-eq0 : goal.returns-then-number-eq0
returns-then-number-eq0 c =
    differs (λ sch m few.
    elim c.then-number-eq0.branch [
      | then-number-eq0-via-then-number-eq0 w ↦ no_number sch _ _ _ w.if-number-eq0.true
      | then-number-eq0-via-else-number-eq0+then-number-gt-LARGEST_NUMBER w ↦ large_number sch _ _ _ w.if-number-gt-LARGEST_NUMBER.true
      | then-number-eq0-via-else-number-eq0+else-number-gt-LARGEST_NUMBER+then-w-gt-FIXED32 w ↦ no_type sch _ _ _ (omega (arith, c.requires.0))
    ])

pub returns-then-from-kind : goal.returns-then-from-kind
returns-then-from-kind c =
    let a = c.args in
    let p = c.requires in
    let told = c.says-said.ensures ∙ ap₂ (λ (type w : ℕ). table_says a.keys.now a.info.now type (a.number * 8 + w)) c.from.ensures c.from-2.ensures in
    differs (λ sch m few.
    search_other m few (omega (arith, c.if-number-eq0.false)) c.if-number-gt-LARGEST_NUMBER.false p.1 (omega (arith, c.if-w-gt-FIXED32.false, p.0)) p.0 told
    (λ e. c.if-from-kind.true (c.from-3.ensures ∙ e)))

pub returns : goal.returns
returns c =
    let a = c.args in
    let p = c.requires in
    let told = c.says-said.ensures ∙ ap₂ (λ (type w : ℕ). table_says a.keys.now a.info.now type (a.number * 8 + w)) c.from.ensures c.from-2.ensures in
    suits p.1 (λ sch m few.
    search_so m few (omega (arith, c.if-number-eq0.false)) c.if-number-gt-LARGEST_NUMBER.false p.1 (omega (arith, c.if-w-gt-FIXED32.false, p.0)) p.0 told
    (sym c.from-3.ensures ∙ c.if-from-kind.false))
