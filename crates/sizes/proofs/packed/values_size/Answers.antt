-- `sizes::packed::values_size` meets its contract: a value more is summed up. Assumes nothing.
use native.Mathlib.Omega.{arith}
use Rattle.spec.specs.Kind.{shape}
use Rattle.sizes.proofs.Sums.{from_step, from_end}
use Rattle.sizes.proofs.packed.values_size.Goals as goal

pub returns-then-sum-gt-MAX_MESSAGE_SIZE : goal.returns-then-sum-gt-MAX_MESSAGE_SIZE
returns-then-sum-gt-MAX_MESSAGE_SIZE g c =
    let step = from_step (shape c.args.kind) g.T.Pattern.pattern_of c.args.values.now c.loop-value.value-index c.value-item.result c.loop-value-test.true c.value-item.is in
    omega (arith, step, rw c.pattern.ensures at c.value_size-sum.ensures)

pub loop-value-preserved : goal.loop-value-preserved
loop-value-preserved g c =
    let step = from_step (shape c.args.kind) g.T.Pattern.pattern_of c.args.values.now c.loop-value.value-index c.value-item.result c.loop-value-test.true c.value-item.is in
    record { small = omega arith; total = omega (arith, step, rw c.pattern.ensures at c.value_size-sum.ensures) }

pub returns : goal.returns
returns g c =
    let none = from_end (shape c.args.kind) g.T.Pattern.pattern_of c.args.values.now c.loop-value.value-index (omega arith) in
    omega (arith, none)
