-- `schema::note_entries` meets its contract. The loop's invariant: the check stands before entry e, and both arrays hold the entries passed.
-- Assumes nothing.
use Rattle.std.proofs.Common.{ℕ, List, get_or, arith, sym, ap, ◌∙◌}
use Rattle.schema.proofs.ValidLaws.{chunk_five}
use Rattle.schema.proofs.MakingLaws.{made_none, made_first, made_all, made_bad, made_fits, made_childless, made_next}
use Rattle.schema.proofs.note_entries.Goals as goal

pub returns-then-not-counts_ok : goal.returns-then-not-counts_ok
returns-then-not-counts_ok c =
    let a = c.args in
    made_none a.types a.numbers.now a.keys.now a.info.now (sym c.counts_ok.ensures ∙ c.if-not-counts_ok.true)

pub loop-e-init : goal.loop-e-init
loop-e-init c =
    let a = c.args in
    made_first a.types a.numbers.now a.keys.now a.info.now (sym c.counts_ok.ensures ∙ c.if-not-counts_ok.false)

pub returns-in_default : goal.returns-in_default
returns-in_default c =
    made_bad c.loop-e.invariant (omega arith) (c.of-f.ensures ∙ chunk_five c.args.numbers.now c.as_chunks.ensures.front (omega arith)) c.in_default.ensures

pub bounds-wires-f : goal.bounds-wires-f
bounds-wires-f c =
    let at = c.of-f.ensures ∙ chunk_five c.args.numbers.now c.as_chunks.ensures.front (omega arith) in
    omega (arith, (made_fits c.loop-e.invariant (omega arith) at c.in-Some.ensures).2)

pub note-requires : goal.note-requires
note-requires c =
    let at = c.of-f.ensures ∙ chunk_five c.args.numbers.now c.as_chunks.ensures.front (omega arith) in
    let k : ℕ = c.of-f.result.kind in
    let ws = c.kind_wires-wires in
    let l = made_fits c.loop-e.invariant (omega arith) at c.in-Some.ensures in
    let z = made_childless c.loop-e.invariant (omega arith) at c.in-Some.ensures (get_or ws.result k 0) (ap (λ (xs : List ℕ). get_or xs k 0) ws.ensures) in
    (l.0, l.1, omega (arith, l.2), l.3, l.4, z, l.5)

pub loop-e-preserved : goal.loop-e-preserved
loop-e-preserved c =
    let at = c.of-f.ensures ∙ chunk_five c.args.numbers.now c.as_chunks.ensures.front (omega arith) in
    let k : ℕ = c.of-f.result.kind in
    let ws = c.kind_wires-wires in
    let n = made_next c.loop-e.invariant (omega arith) at c.in-Some.ensures (get_or ws.result k 0) (ap (λ (xs : List ℕ). get_or xs k 0) ws.ensures) in
    record { here = n.here; keys_so = c.note.ensures.0 ∙ n.keys_so; info_so = c.note.ensures.1 ∙ n.info_so }

pub returns : goal.returns
returns c = made_all c.loop-e.invariant (omega arith)
