-- `bench_pull::perf_fields` meets its contract. Assumes nothing.
use mathlib.Core.Path.{sym, ap, ◌∙◌}
use Rattle.bench_pull.specs.Fields.{total, fields}
use Rattle.bench_pull.proofs.perf_fields.Goals as goal

pub returns-in-Ok : goal.returns-in-Ok
unfolding total fields
returns-in-Ok c = ap total (sym c.in-Ok.is ∙ c.root.ensures)

pub returns-in-Err : goal.returns-in-Err
unfolding total fields
returns-in-Err c = ap total (sym c.in-Err.is ∙ c.root.ensures)
