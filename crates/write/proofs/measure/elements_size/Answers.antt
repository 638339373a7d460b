-- `write::measure::elements_size` meets its contract. The loop's invariant: what the values take in all is what was added, and the rest of them.
-- Assumes nothing.
use Prim.Native.Nat.{ℕ, ◌+◌, ◌≤◌, ◌<◌}
use native.Mathlib.Omega.{arith}
use mathlib.Core.List.{List}
use lib.ListN.{length, get_or}
use Rattle.spec.specs.Names.{kind_column, record_kinds}
use Rattle.spec.specs.Record.{stride}
use Rattle.spec.proofs.RunLaws.{kind_small}
use Rattle.write.specs.Summing.{Elements}
use Rattle.list.proofs.FitLaws.{type_of}
use Rattle.write.proofs.Turn.{values_start, fit, ended, stopped, whole, rest_values, value_turn}
use Rattle.write.proofs.measure.elements_size.Goals as goal

-- the first value's kind: it stands in the list, and in the table
first_whole : {table list : List ℕ} {from d : ℕ} → Elements table list from d → from + stride ≤ length list
first_whole e = whole (values_start e) e.inside

first_small : {table list : List ℕ} {from d : ℕ} → Elements table list from d → get_or list (from + kind_column) 0 < record_kinds
first_small e = kind_small (fit (values_start e) e.inside)

pub offset_bounds-list-from : goal.offset_bounds-list-from
offset_bounds-list-from c = omega (arith, first_whole c.requires)

pub bounds-list-from : goal.bounds-list-from
bounds-list-from c = omega (arith, first_whole c.requires)

pub bounds-table-kind : goal.bounds-table-kind
bounds-table-kind c = omega (arith, first_small c.requires)

pub loop-at-init : goal.loop-at-init
loop-at-init c = let e = c.requires in (values_start e, (e.m, e.values))

pub returns-then-list-at : goal.returns-then-list-at
returns-then-list-at c = stopped c.loop-at.invariant.0 c.loop-at-test.true c.if-list-at.true

pub overflow_add-at : goal.overflow_add-at
overflow_add-at c = omega (arith, whole c.loop-at.invariant.0 c.loop-at-test.true)

pub offset_bounds-list-at-in-loop-at : goal.offset_bounds-list-at-in-loop-at
offset_bounds-list-at-in-loop-at c = omega (arith, whole c.loop-at.invariant.0 c.loop-at-test.true, c.requires.lent.few)

pub bounds-list-at-in-loop-at : goal.bounds-list-at-in-loop-at
bounds-list-at-in-loop-at c = omega (arith, whole c.loop-at.invariant.0 c.loop-at-test.true)

pub plain_size-size-requires : goal.plain_size-size-requires
plain_size-size-requires c =
    let e = c.requires in
    (type_of _ _ e.lent.types (first_small e), e.scalar)

pub overflow_add-size : goal.overflow_add-size
overflow_add-size c =
    let e = c.requires in
    let h = value_turn c.loop-at.invariant.0 c.loop-at-test.true c.if-list-at.false c.loop-at.invariant.1.1 e.scalar in
    omega (arith, h.bound, h.inside, e.lent.few, c.plain_size-size.ensures)

pub overflow_add-at-in-loop-at : goal.overflow_add-at-in-loop-at
overflow_add-at-in-loop-at c = omega (arith, whole c.loop-at.invariant.0 c.loop-at-test.true, c.requires.lent.few)

pub loop-at-smaller : goal.loop-at-smaller
loop-at-smaller c = omega (arith, whole c.loop-at.invariant.0 c.loop-at-test.true)

pub loop-at-preserved : goal.loop-at-preserved
loop-at-preserved c =
    let e = c.requires in
    let h = c.loop-at.invariant.0 in
    let w = c.loop-at.invariant.1.1 in
    let t = c.if-list-at.false in
    (rw c.plain_size-size.ensures (value_turn h c.loop-at-test.true t w e.scalar), (c.loop-at.invariant.1.0, rest_values h c.loop-at-test.true t w))

pub returns : goal.returns
returns c = ended c.loop-at.invariant.0 c.loop-at-test.false
