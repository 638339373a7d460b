-- `schema::check` meets its contract. The loop's invariant: the entries passed are good and rise, so that the rest decides. Assumes nothing.
use Rattle.std.proofs.Common.{arith, sym, ◌∙◌}
use Rattle.schema.proofs.ValidLaws.{counts_wrong, chunk_five, here_first, here_end, here_bad, here_next}
use Rattle.schema.proofs.check.Goals as goal

pub returns-then-not-counts_ok : goal.returns-then-not-counts_ok
returns-then-not-counts_ok c = sym (counts_wrong c.args.types c.args.numbers.now (sym c.counts_ok.ensures ∙ c.if-not-counts_ok.true))

pub loop-e-init : goal.loop-e-init
loop-e-init c = here_first c.args.types c.args.numbers.now (sym c.counts_ok.ensures ∙ c.if-not-counts_ok.false)

pub returns-in_default : goal.returns-in_default
returns-in_default c =
    sym (here_bad c.loop-e.invariant (omega arith) (c.of.ensures ∙ chunk_five c.args.numbers.now c.as_chunks.ensures.front (omega arith)) c.in_default.ensures)

pub loop-e-preserved : goal.loop-e-preserved
loop-e-preserved c =
    here_next c.loop-e.invariant (omega arith) (c.of.ensures ∙ chunk_five c.args.numbers.now c.as_chunks.ensures.front (omega arith)) c.in-Some.ensures

pub returns : goal.returns
returns c = sym (here_end c.loop-e.invariant (omega arith))
