-- `sizes::unknown_or_group::unknown_fields_size` meets its contract: a record more is summed up. Assumes nothing.
use Prim.Native.Nat.{ℕ, ◌+◌}
use mathlib.Core.Path.{◌≡◌, ap, ◌∙◌}
use mathlib.Core.List.{List}
use native.Mathlib.Omega.{arith}
use borrow.Author.Tests.{le-leb, lt-leb}
use Rattle.std.specs.Slice.Iter.{chunks_exact_rest}
use Rattle.spec.specs.Base.{limit, limited}
use Rattle.spec.specs.Record.{records_of}
use Rattle.spec.specs.Sizes.{unknowns_size, unknown_fields_size}
use Rattle.sizes.proofs.UnknownLaws.{unknown_step, unknown_end}
use Rattle.sizes.proofs.unknown_or_group.unknown_fields_size.Goals as goal
use Rattle.sizes.proofs.unknown_or_group.unknown_fields_size.Goals.{After-record_size-sum}

-- what is left is the record and what is left then
step : (c : After-record_size-sum)
    → unknowns_size (records_of (chunks_exact_rest c.loop-record.record-iterator))
    ≡ unknowns_size (records_of c.in-Some.record.now) + unknowns_size (records_of (chunks_exact_rest c.next.new.self))
step c =
    let cut = c.in-Some.ensures.steps.1 in
    ap (λ (ns : List ℕ). unknowns_size (records_of ns)) cut.0 ∙ unknown_step c.in-Some.record.now (chunks_exact_rest c.next.new.self) (cut.1 ∙ c.loop-record.invariant.0)

pub returns-then-sum-gt-MAX_MESSAGE_SIZE : goal.returns-then-sum-gt-MAX_MESSAGE_SIZE
unfolding unknown_fields_size limited
returns-then-sum-gt-MAX_MESSAGE_SIZE c =
    let more = step (goal.at.returns-then-sum-gt-MAX_MESSAGE_SIZE c).After-record_size-sum in
    simp (lt-leb (unknowns_size (records_of c.args.records.now)) limit (omega (arith, more, c.loop-record.invariant.1.total)))

pub loop-record-preserved : goal.loop-record-preserved
loop-record-preserved c =
    let more = step (goal.at.loop-record-preserved c).After-record_size-sum in
    (c.in-Some.ensures.steps.0 ∙ c.loop-record.invariant.0, record { small = c.if-sum-gt-MAX_MESSAGE_SIZE.false; total = omega (arith, more, c.loop-record.invariant.1.total) })

pub returns : goal.returns
unfolding unknown_fields_size limited
returns c =
    let none = unknown_end (chunks_exact_rest c.loop-record.record-iterator) (omega (arith, c.in-None.ensures.steps.1.0, c.loop-record.invariant.0)) in
    let whole : c.loop-record.sum ≡ unknowns_size (records_of c.args.records.now) = omega (arith, none, c.loop-record.invariant.1.total) in
    rw (← whole) (simp (le-leb c.loop-record.sum limit c.loop-record.invariant.1.small))
