-- `pull::value::sfixed32_found` meets its contract: four bytes, and their sign. Assumes nothing.
use native.Mathlib.Omega.{arith}
use Rattle.std.proofs.Common.{refl}
use Rattle.std.proofs.lemmas.Result.{err_from_is_err_and}
use Rattle.spec.specs.Base.{meaning}
use Rattle.spec.specs.Kind.{scalar}
use Rattle.wire.proofs.FoundLaws.{fixed_placed}
use Rattle.pull.proofs.value.sfixed32_found.Goals as goal

pub returns-in_err-value : goal.returns-in_err-value
unfolding scalar meaning
returns-in_err-value c =
    let p = err_from_is_err_and c.from_residual.result c.from_residual.ensures.1 in
    rw (p.1, p.2, ← c.in_err-value.ensures) refl

pub overflow_cast-value : goal.overflow_cast-value
overflow_cast-value c =
    let a = c.args in
    let p = fixed_placed 3 a.s.now a.at c.type_inv.s c.decode_fixed32.ensures c.in_ok-value.was in
    omega (arith, p.small)

pub returns : goal.returns
unfolding scalar meaning
returns c = rw (← c.in_ok-value.ensures, c.extend32.ensures) refl
