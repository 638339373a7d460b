-- `pull::step::skip_at` meets its contract: the refusal or the bytes used, of the bytes from there on. Assumes nothing.
use Prim.Native.Nat.{◌-◌}
use native.Mathlib.Omega.{arith}
use mathlib.Core.Path.{◌≡◌, ap, ◌∙◌}
use lib.ListN.{length, drop, take, length-drop}
use lib.Seq.{take-length}
use Rattle.spec.specs.Base.{refusal, taken}
use Rattle.spec.specs.Skip.{skip_field_for_tag}
use Rattle.spec.specs.Pull.{step_at}
use Rattle.skip.specs.Passed.{skipped_number, skipped_used}
use Rattle.pull.specs.Told.{as_moved}
use Rattle.pull.proofs.SkipNumbers.{skip_refused, skip_told, skip_bound}
use Rattle.pull.proofs.step.skip_at.Goals as goal
use Rattle.pull.proofs.step.skip_at.Goals.{After-skip_field_for_tag}

-- the skip, of the bytes from the position on
rest : (c : After-skip_field_for_tag) →
    let a = c.args in
    let s = drop a.at a.s.now in
    let k = c.skip_field_for_tag.result in
    (skipped_number k ≡ refusal (skip_field_for_tag a.tag a.level s)) × (skipped_used k ≡ taken (skip_field_for_tag a.tag a.level s))
rest c =
    let a = c.args in
    let i = c.inside-from in
    let same : take (length a.s.now - i.result) (drop i.result a.s.now) ≡ drop a.at a.s.now = rw (← length-drop i.result a.s.now, take-length) i.ensures.1 in
    rw same at c.skip_field_for_tag.ensures

pub returns-in-Err : goal.returns-in-Err
unfolding step_at
returns-in-Err c =
    let told = rest (goal.at.returns-in-Err c).After-skip_field_for_tag in
    let a = c.args in
    ap as_moved c.refuse.ensures ∙ skip_refused a.at a.tag a.level (drop a.at a.s.now) _ (rw c.in-Err.is at told.0)

pub overflow_add-result : goal.overflow_add-result
overflow_add-result c =
    let told = rest (goal.at.overflow_add-result c).After-skip_field_for_tag in
    let a = c.args in
    omega (arith, skip_bound a.tag a.level (drop a.at a.s.now) (rw c.in-Ok.is at told.1), length-drop a.at a.s.now)

pub returns-in-Ok : goal.returns-in-Ok
unfolding step_at
returns-in-Ok c =
    let told = rest (goal.at.returns-in-Ok c).After-skip_field_for_tag in
    let a = c.args in
    skip_told a.at a.tag a.level (drop a.at a.s.now) (rw c.in-Ok.is at told.0) (rw c.in-Ok.is at told.1)
