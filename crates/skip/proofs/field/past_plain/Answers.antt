-- `skip::field::past_plain` meets its contract: one law for each wire type. Assumes nothing.
use native.Mathlib.Omega.{arith}
use Rattle.spec.proofs.SkipLaws.{plain_varint, plain_fixed64, plain_bytes, plain_fixed32, plain_other}
use Rattle.skip.proofs.PastLaws.{refused_behind}
use Rattle.skip.proofs.field.past_plain.Goals as goal

pub returns-in-0 : goal.returns-in-0
returns-in-0 c = rw (c.in-0.is, plain_varint) c.past_varint.ensures

pub returns-in-1 : goal.returns-in-1
returns-in-1 c = rw (c.in-1.is, plain_fixed64) c.past_fixed.ensures

pub returns-in-2 : goal.returns-in-2
returns-in-2 c = rw (c.in-2.is, plain_bytes) c.past_bytes.ensures

pub returns-in-5 : goal.returns-in-5
returns-in-5 c = rw (c.in-5.is, plain_fixed32) c.past_fixed-in-5.ensures

pub returns-in_default : goal.returns-in_default
returns-in_default c = refused_behind _ (plain_other _ _ (λ e. omega arith) (λ e. omega arith) (λ e. omega arith) (λ e. omega arith))
