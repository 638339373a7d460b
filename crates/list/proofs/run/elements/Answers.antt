-- `list::run::elements` meets its contract. Assumes nothing.
use Rattle.list.proofs.ElementTurn.{ahead, elements_end, elements_left, elements_other, elements_value, elements_turn}
use Rattle.list.proofs.run.elements.Goals as goal
use Rattle.list.proofs.run.elements.Goals.{then-list-at-2-via-then-list-at-2, then-list-at-2-via-else-list-at-2+then-list-at-3}

-- the loop's fact and test, at each place in it
pub loop-at-init : goal.loop-at-init
loop-at-init c = ahead _ _ _ _ _ c.requires.0 c.requires.1

pub overflow_sub-list : goal.overflow_sub-list
overflow_sub-list c = c.loop-at.invariant.inside

pub returns-then-list-at : goal.returns-then-list-at
returns-then-list-at c = elements_left c.loop-at.invariant c.loop-at-test.true c.if-list-at.true

pub returns-then-list-at-2 : goal.returns-then-list-at-2
returns-then-list-at-2 c =
    elements_other c.loop-at.invariant c.loop-at-test.true c.if-list-at.false
    (λ n k. elim c.then-list-at-2.branch [ then-list-at-2-via-then-list-at-2 w ↦ w.if-list-at-2.true n | then-list-at-2-via-else-list-at-2+then-list-at-3 w ↦ w.if-list-at-3.true k ])

pub returns-then-not-value_fits : goal.returns-then-not-value_fits
returns-then-not-value_fits c = elements_value c.loop-at.invariant c.loop-at-test.true c.if-list-at.false c.if-list-at-2.false c.if-list-at-3.false c.value_fits.ensures c.if-not-value_fits.true

pub loop-at-preserved : goal.loop-at-preserved
loop-at-preserved c = elements_turn c.loop-at.invariant c.loop-at-test.true c.if-list-at.false c.if-list-at-2.false c.if-list-at-3.false c.value_fits.ensures c.if-not-value_fits.false

pub returns : goal.returns
returns c = elements_end c.loop-at.invariant c.loop-at-test.false
