-- `pull::value::sint_found` meets its contract: the varint, and zigzag undone. Assumes nothing.
use Rattle.std.proofs.Common.{refl}
use Rattle.std.proofs.lemmas.Result.{err_from_is_err_and}
use Rattle.spec.specs.Base.{meaning}
use Rattle.pull.proofs.value.sint_found.Goals as goal

pub returns-in_err-value : goal.returns-in_err-value
unfolding meaning
returns-in_err-value c =
    let p = err_from_is_err_and c.from_residual.result c.from_residual.ensures.1 in
    rw (p.1, p.2, ← c.in_err-value.ensures) refl

pub returns : goal.returns
unfolding meaning
returns c = rw (← c.in_ok-value.ensures, c.unzigzag.ensures) refl
