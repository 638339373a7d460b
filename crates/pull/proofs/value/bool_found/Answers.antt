-- `pull::value::bool_found` meets its contract: nonzero gives 1. Assumes nothing.
use native.Mathlib.Omega.{arith}
use Rattle.std.proofs.Common.{ℕ, zero, suc, ◌-◌, min, ◌≡◌, refl, ap, not, eqb, ne_eqb}
use mir.Val.{bool_byte}
use Rattle.std.proofs.lemmas.Result.{err_from_is_err_and}
use Rattle.spec.specs.Base.{Took, meaning}
use Rattle.spec.specs.Kind.{scalar}
use Rattle.pull.proofs.value.bool_found.Goals as goal

one_if : (v : ℕ) → bool_byte (not (eqb v 0)) ≡ min 1 v
one_if zero = refl
one_if (suc v) = rw (ne_eqb (suc v) 0 (λ e. omega arith)) (omega arith)

pub returns-in_err-value : goal.returns-in_err-value
unfolding scalar meaning
returns-in_err-value c =
    let p = err_from_is_err_and c.from_residual.result c.from_residual.ensures.1 in
    rw (p.1, p.2, ← c.in_err-value.ensures) refl

pub returns : goal.returns
unfolding scalar meaning
returns c = rw (← c.in_ok-value.ensures, c.from.ensures) (ap (λ (v : ℕ). Took v (c.in_ok-value.field-0.next - c.args.at)) (one_if c.in_ok-value.field-0.value))
