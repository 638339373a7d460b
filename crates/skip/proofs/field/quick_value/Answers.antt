-- `skip::field::quick_value` meets its contract: one law for each wire type. Assumes nothing.
use Rattle.std.proofs.Common.{ℕ, ◌≡◌, refl, Result, Ok, Err, IfSome}
use Rattle.std.specs.Result.{result_ok}
use Rattle.spec.specs.declared.refusals.Refusal.{Refusal}
use Rattle.spec.proofs.SkipLaws.{plain_varint, plain_fixed64, plain_bytes, plain_fixed32}
use Rattle.skip.proofs.field.quick_value.Goals as goal

-- where a place was found, it is the answer
ok_or_none : (r : Result ℕ Refusal) → IfSome (result_ok r) (λ next. Ok next ≡ r)
ok_or_none (Ok n) = refl
ok_or_none (Err k) = tt

pub returns-in-0 : goal.returns-in-0
returns-in-0 c = rw (c.in-0.is, plain_varint) c.quick_varint.ensures

pub returns-in-1 : goal.returns-in-1
returns-in-1 c = rw (c.in-1.is, plain_fixed64, ← c.past_fixed.ensures, c.ok.ensures.value) (ok_or_none c.past_fixed.result)

pub returns-in-2 : goal.returns-in-2
returns-in-2 c = rw (c.in-2.is, plain_bytes) c.quick_bytes.ensures

pub returns-in-5 : goal.returns-in-5
returns-in-5 c = rw (c.in-5.is, plain_fixed32, ← c.past_fixed-in-5.ensures, c.ok-in-5.ensures.value) (ok_or_none c.past_fixed-in-5.result)
