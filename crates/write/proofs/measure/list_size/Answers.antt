-- `write::measure::list_size` meets its contract: the whole list is one run, and a list of more numbers has more records than the limit has bytes.
-- Assumes nothing.
use mathlib.Core.Path.{ap, ◌∙◌}
use mathlib.Core.Bool.{true}
use mathlib.Core.List.{List}
use native.Mathlib.Omega.{arith}
use lib.ListN.{length}
use Rattle.spec.specs.Record.{Record, records_of}
use Rattle.spec.specs.Sizes.{size_of}
use Rattle.spec.proofs.SizeLaws.{size_in}
use Rattle.spec.proofs.RunLaws.{front_all, records_count}
use Rattle.sizes.specs.SizeParts.{capped}
use Rattle.write.proofs.measure.list_size.Goals as goal

pub returns-then-list-gt-NUMBERS_MAX : goal.returns-then-list-gt-NUMBERS_MAX
returns-then-list-gt-NUMBERS_MAX c =
    let n = records_count (length c.args.list.now) c.args.list.now (omega arith) in
    omega (arith, n.0, c.requires.long)

pub returns : goal.returns
unfolding size_of
returns c = c.cut.ensures ∙ c.run_size-r.ensures.exact ∙ ap (λ (rs : List Record). capped (size_in true rs)) (front_all (records_of c.args.list.now))
