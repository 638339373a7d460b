-- `skip::field::past_bytes` meets its contract: the length, and whether as many bytes are left. Assumes nothing.
use Prim.Native.Nat.{◌-◌}
use mathlib.Core.Path.{◌≡◌, sym, ap, ◌∙◌}
use native.Mathlib.Omega.{arith}
use lib.ListN.{drop}
use Rattle.spec.specs.Base.{Took}
use Rattle.spec.specs.Varint.{varint32}
use Rattle.std.proofs.lemmas.Result.{err_from_is_err_and}
use Rattle.wire.specs.Answers.{as_read}
use Rattle.skip.proofs.PastLaws.{length_placed, content_behind, content_cut, content_refused, refused_behind}
use Rattle.skip.proofs.field.past_bytes.Goals as goal
use Rattle.skip.proofs.field.past_bytes.Goals.{In_ok-value}

-- the length that was read
told_here : (c : In_ok-value) →
    Took c.in_ok-value.field-0.value (c.in_ok-value.field-0.next - c.args.at) ≡ varint32 (drop c.args.at c.args.s.now)
told_here c =
    ap (as_read _) (sym c.in_ok-value.was) ∙ c.decode_varint32.ensures

pub overflow_sub-s : goal.overflow_sub-s
overflow_sub-s c = omega (arith, length_placed _ _ _ _ (told_here (goal.at.overflow_sub-s c).In_ok-value))

pub returns-then-s-next : goal.returns-then-s-next
returns-then-s-next c =
    let told = told_here (goal.at.returns-then-s-next c).In_ok-value in
    let b = length_placed _ _ _ _ told in content_cut _ _ _ _ told (omega arith)

pub returns : goal.returns
returns c =
    let told = told_here (goal.at.returns c).In_ok-value in
    let b = length_placed _ _ _ _ told in content_behind _ _ _ _ told (omega arith)

pub returns-in_err-value : goal.returns-in_err-value
returns-in_err-value c =
    let p = err_from_is_err_and c.from_residual.result c.from_residual.ensures.1 in
    rw (p.1, p.2) (refused_behind _ (content_refused varint32 _ (sym c.in_err-value.ensures)))
