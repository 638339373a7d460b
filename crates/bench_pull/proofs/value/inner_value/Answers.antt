-- `bench_pull::value::inner_value` meets its contract: what is asked after each tag. Assumes nothing.
use native.Mathlib.Omega.{arith}
use mathlib.Core.Path.{ap, ◌∙◌}
use Rattle.spec.specs.Kind.{uint32}
use Rattle.spec.specs.Pull.{value, bytes, skip}
use Rattle.bench_pull.specs.Fields.{amount_of}
use Rattle.bench_pull.proofs.FieldLaws.{ordered, inner_uint32_lem, inner_bytes_lem, inner_other}
use Rattle.bench_pull.proofs.value.inner_value.Goals as goal

pub amount-requires : goal.amount-requires
amount-requires c = let a = c.args in ordered a.s.now a.at 0 (value uint32) c.uint32_at.result c.uint32_at.ensures

pub amount-requires-in-18 : goal.amount-requires-in-18
amount-requires-in-18 c = let a = c.args in ordered a.s.now a.at 0 bytes c.bytes_at.result c.bytes_at.ensures

pub amount-requires-in_default : goal.amount-requires-in_default
amount-requires-in_default c = let a = c.args in ordered a.s.now a.at a.level (skip a.tag) c.skip_at.result c.skip_at.ensures

pub returns-in-8 : goal.returns-in-8
returns-in-8 c =
    let a = c.args in
    c.amount.ensures ∙ ap amount_of (c.uint32_at.ensures ∙ inner_uint32_lem a.s.now a.at a.level c.in-8.is)

pub returns-in-18 : goal.returns-in-18
returns-in-18 c =
    let a = c.args in
    c.amount-in-18.ensures ∙ ap amount_of (c.bytes_at.ensures ∙ inner_bytes_lem a.s.now a.at a.level c.in-18.is)

pub returns-in_default : goal.returns-in_default
returns-in_default c =
    let a = c.args in
    c.amount-in_default.ensures ∙ ap amount_of (c.skip_at.ensures ∙ inner_other a.s.now a.at a.level (λ e. omega arith) (λ e. omega arith))
