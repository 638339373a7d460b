-- `bench_pull::value::amount` meets its contract: by what was said. Assumes nothing.
use Prim.Native.Nat.{ℕ}
use native.Mathlib.Omega.{arith}
use mathlib.Core.Path.{◌≡◌, refl, sym, ap, ◌∙◌}
use Rattle.std.specs.Prelude.{Option, Some, None, Result, Ok, Err}
use Rattle.std.specs.Result.{result_ok}
use Rattle.pull.specs.Told.{said_told}
use Rattle.pull.specs.declared.step.Refused.{Refused}
use Rattle.pull.specs.declared.step.Said.{Said}
use Rattle.bench_pull.specs.Fields.{amount}
use Rattle.bench_pull.proofs.value.amount.Goals as goal

-- what was said, or that it was refused
said_so : (x : Result Said Refused) {y : Said} → Some y ≡ result_ok x → x ≡ Ok y
said_so (Ok z) e = ap Ok (sym (cc))
said_so (Err r) e = let z : ◌≡◌ {A = ℕ} 0 1 = cc in absurd (omega arith)

refused_so : (x : Result Said Refused) → ◌≡◌ {A = Option Said} None (result_ok x) → (n : ℕ) → None ≡ amount (said_told x) n
unfolding amount
refused_so (Ok z) e n = let y : ◌≡◌ {A = ℕ} 0 1 = cc in absurd (omega arith)
refused_so (Err r) e n = refl

pub returns-in_err-said : goal.returns-in_err-said
returns-in_err-said c = c.from_residual.ensures ∙ refused_so c.args.m.said c.in_err-said.ensures.value c.args.m.at

pub overflow_sub-size : goal.overflow_sub-size
overflow_sub-size c = c.requires _ _ (said_so c.args.m.said c.in_ok-said.ensures.value ∙ ap Ok c.in-Content.is)

pub returns-in-Number : goal.returns-in-Number
unfolding amount
returns-in-Number c = ap (λ (x : Result Said Refused). amount (said_told x) c.args.m.at) (sym (said_so c.args.m.said c.in_ok-said.ensures.value ∙ ap Ok c.in-Number.is))

pub returns-in-Content : goal.returns-in-Content
unfolding amount
returns-in-Content c = ap (λ (x : Result Said Refused). amount (said_told x) c.args.m.at) (sym (said_so c.args.m.said c.in_ok-said.ensures.value ∙ ap Ok c.in-Content.is))

pub returns-in-End : goal.returns-in-End
unfolding amount
returns-in-End c = ap (λ (x : Result Said Refused). amount (said_told x) c.args.m.at) (sym (said_so c.args.m.said c.in_ok-said.ensures.value ∙ ap Ok c.in-End.is))
