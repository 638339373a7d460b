-- `list::record::delimited_fault` meets its contract. Assumes nothing.
use native.Mathlib.Omega.{arith}
use mathlib.Core.Path.{◌∙◌}
use Rattle.list.proofs.RecordLaws.{value_at, deep_at, shallow_at, last_at, jump_at, run_at, content_at}
use Rattle.list.proofs.record.delimited_fault.Goals as goal
use Rattle.list.proofs.record.delimited_fault.Goals.{then-list-at-lt-TWO_RECORDS-via-then-list-at-lt-TWO_RECORDS, then-list-at-lt-TWO_RECORDS-via-else-list-at-lt-TWO_RECORDS+then-list-at}

pub returns-then-list-at-ne0 : goal.returns-then-list-at-ne0
returns-then-list-at-ne0 c = value_at c.args.payload.now c.args.list.now c.args.at c.requires.0 c.requires.1 c.requires.2 c.requires.4 c.if-list-at-ne0.true

pub returns-then-depth-gt-DEEPEST_HEAD : goal.returns-then-depth-gt-DEEPEST_HEAD
returns-then-depth-gt-DEEPEST_HEAD c = deep_at c.args.payload.now c.args.list.now c.args.at c.requires.0 c.requires.1 c.requires.2 c.if-list-at-ne0.false c.if-kind-eq-MESSAGE.true (omega (arith, c.if-depth-gt-DEEPEST_HEAD.true))

pub returns-then-kind-eq-MESSAGE : goal.returns-then-kind-eq-MESSAGE
returns-then-kind-eq-MESSAGE c = shallow_at c.args.payload.now c.args.list.now c.args.at c.requires.0 c.requires.1 c.requires.2 c.if-list-at-ne0.false c.if-kind-eq-MESSAGE.true (omega (arith, c.if-depth-gt-DEEPEST_HEAD.false))

pub returns-then-list-at-lt-TWO_RECORDS : goal.returns-then-list-at-lt-TWO_RECORDS
returns-then-list-at-lt-TWO_RECORDS c =
    elim c.then-list-at-lt-TWO_RECORDS.branch [
      | then-list-at-lt-TWO_RECORDS-via-then-list-at-lt-TWO_RECORDS w ↦ last_at c.args.payload.now c.args.list.now c.args.at c.requires.0 c.requires.1 c.requires.2 c.if-list-at-ne0.false c.if-kind-eq-PACKED_HEAD.true w.if-list-at-lt-TWO_RECORDS.true
      | then-list-at-lt-TWO_RECORDS-via-else-list-at-lt-TWO_RECORDS+then-list-at w ↦ jump_at c.args.payload.now c.args.list.now c.args.at c.requires.0 c.requires.1 c.requires.2 c.if-list-at-ne0.false c.if-kind-eq-PACKED_HEAD.true w.if-list-at-lt-TWO_RECORDS.false w.if-list-at.true
    ]

pub returns-then-kind-eq-PACKED_HEAD : goal.returns-then-kind-eq-PACKED_HEAD
returns-then-kind-eq-PACKED_HEAD c = run_at c.args.payload.now c.args.list.now c.args.at c.requires.0 c.requires.1 c.requires.2 c.if-list-at-ne0.false c.if-kind-eq-PACKED_HEAD.true c.if-list-at-lt-TWO_RECORDS.false c.if-list-at.false

pub returns : goal.returns
returns c = c.range_fault.ensures ∙ content_at c.args.payload.now c.args.list.now c.args.at c.requires.0 c.requires.1 c.requires.2 c.if-list-at-ne0.false c.requires.4 c.if-kind-eq-MESSAGE.false c.if-kind-eq-PACKED_HEAD.false
