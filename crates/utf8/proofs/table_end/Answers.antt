-- `utf8::table_end` meets its contract. The loop's invariant: from i up to j stand whole characters. The measure is what is left of the length.
-- Assumes nothing.
use Prim.Native.Nat.{◌+◌}
use native.Mathlib.Omega.{arith}
use Rattle.utf8.specs.Text.{Passed}
use Rattle.utf8.proofs.Tables.{has_entry, no_entry, at_most_three}
use Rattle.utf8.proofs.TextLaws.{stay, onward, whole, no_lead, broken, judged}
use Rattle.utf8.proofs.table_end.Goals as goal
use Rattle.utf8.proofs.table_end.Goals.{After-from-in-loop-j}

pub loop-j-init : goal.loop-j-init
loop-j-init c = stay _ c.requires

pub returns-in_default : goal.returns-in_default
returns-in_default c = no_lead c.loop-j.invariant (omega arith) (rw c.from.ensures at (no_entry c.from.result (omega (arith, c.type_inv.s c.loop-j.j)) c.in_default.not-Some))

pub follows-requires : goal.follows-requires
follows-requires c = at_most_three c.from.result (omega (arith, c.type_inv.s c.loop-j.j)) c.in-Some.lead c.in-Some.is

pub returns-then-not-follows : goal.returns-then-not-follows
returns-then-not-follows c =
    let said = rw c.from.ensures at (has_entry c.from.result (omega (arith, c.type_inv.s c.loop-j.j)) c.in-Some.is) in
    broken c.loop-j.invariant (omega arith) said (rw c.follows.ensures at c.if-not-follows.true)

passed : (c : After-from-in-loop-j) → Passed c.args.s.now c.args.i (c.loop-j.j + 1 + c.from-in-loop-j.result)
passed c =
    let said = rw c.from.ensures at (has_entry c.from.result (omega (arith, c.type_inv.s c.loop-j.j)) c.in-Some.is) in
    rw c.from-in-loop-j.ensures (judged c.loop-j.invariant (omega arith) said (rw c.follows.ensures at c.if-not-follows.false))

pub overflow_add-j-in-loop-j-2 : goal.overflow_add-j-in-loop-j-2
overflow_add-j-in-loop-j-2 c = omega (arith, (passed c).within)

pub same_run-j-requires : goal.same_run-j-requires
same_run-j-requires c = (passed c).within

pub loop-j-preserved : goal.loop-j-preserved
loop-j-preserved c = onward (passed (goal.at.loop-j-preserved c).After-from-in-loop-j) c.same_run-j.ensures

pub returns : goal.returns
returns c = whole c.loop-j.invariant (omega arith)
