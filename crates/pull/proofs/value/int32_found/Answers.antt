-- `pull::value::int32_found` meets its contract: the two ends of the range. Assumes nothing.
use Prim.Native.Nat.{◌-◌, ◌^◌}
use native.Mathlib.Omega.{arith}
use Rattle.std.proofs.Common.{refl}
use borrow.Author.Tests.{lt-ltb, le-ltb, le-leb, lt-leb}
use Rattle.std.proofs.lemmas.Result.{err_from_is_err_and}
use Rattle.wire.proofs.FoundLaws.{varint_placed}
use Rattle.spec.specs.Base.{require}
use Rattle.spec.specs.Kind.{scalar}
use Rattle.pull.proofs.value.int32_found.Goals as goal

pub returns-in_err-found : goal.returns-in_err-found
unfolding scalar require
returns-in_err-found c =
    let p = err_from_is_err_and c.from_residual.result c.from_residual.ensures.1 in
    rw (p.1, p.2, ← c.in_err-found.ensures) refl

pub returns-then-found-lt-BEYOND_INT32 : goal.returns-then-found-lt-BEYOND_INT32
unfolding scalar require
returns-then-found-lt-BEYOND_INT32 c = rw (← c.in_ok-found.ensures, lt-ltb c.in_ok-found.found.value (2 ^ 31) (omega (arith, c.if-found-lt-BEYOND_INT32.true))) refl

pub returns-then-found-ge-LEAST_INT32 : goal.returns-then-found-ge-LEAST_INT32
unfolding scalar require
returns-then-found-ge-LEAST_INT32 c =
    let v = c.in_ok-found.found.value in
    let p = varint_placed 9 1 _ _ c.wide_found.ensures c.in_ok-found.was in
    rw (← c.in_ok-found.ensures, le-ltb v (2 ^ 31) (omega (arith, c.if-found-lt-BEYOND_INT32.false)), le-leb (2 ^ 64 - 2 ^ 31) v (omega (arith, c.if-found-ge-LEAST_INT32.true)), le-leb v (2 ^ 64 - 1) (omega (arith, p.small))) refl

pub returns : goal.returns
unfolding scalar require
returns c =
    let v = c.in_ok-found.found.value in
    rw (← c.in_ok-found.ensures, le-ltb v (2 ^ 31) (omega (arith, c.if-found-lt-BEYOND_INT32.false)), lt-leb (2 ^ 64 - 2 ^ 31) v (omega (arith, c.if-found-ge-LEAST_INT32.false))) refl
