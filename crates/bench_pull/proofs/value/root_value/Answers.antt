-- `bench_pull::value::root_value` meets its contract: what is asked after each tag. Assumes nothing.
use native.Mathlib.Omega.{arith}
use mathlib.Core.Path.{ap, ◌∙◌}
use Rattle.spec.specs.Kind.{int32, fixed32, bool}
use Rattle.spec.specs.Pull.{value, string, skip}
use Rattle.bench_pull.specs.Fields.{amount_of}
use Rattle.bench_pull.proofs.FieldLaws.{ordered, root_int32_lem, root_string_lem, root_float_lem, root_bool_lem, root_other}
use Rattle.bench_pull.proofs.value.root_value.Goals as goal

pub amount-requires : goal.amount-requires
amount-requires c = let a = c.args in ordered a.s.now a.at 0 (value int32) c.int32_at.result c.int32_at.ensures

pub amount-requires-in-18 : goal.amount-requires-in-18
amount-requires-in-18 c = let a = c.args in ordered a.s.now a.at 0 string c.string_at.result c.string_at.ensures

pub amount-requires-in-45 : goal.amount-requires-in-45
amount-requires-in-45 c = let a = c.args in ordered a.s.now a.at 0 (value fixed32) c.fixed32_at.result c.fixed32_at.ensures

pub amount-requires-in-56 : goal.amount-requires-in-56
amount-requires-in-56 c = let a = c.args in ordered a.s.now a.at 0 (value bool) c.bool_at.result c.bool_at.ensures

pub amount-requires-in_default : goal.amount-requires-in_default
amount-requires-in_default c = let a = c.args in ordered a.s.now a.at 0 (skip a.tag) c.skip_at.result c.skip_at.ensures

pub returns-in-8 : goal.returns-in-8
returns-in-8 c =
    let a = c.args in
    c.amount.ensures ∙ ap amount_of (c.int32_at.ensures ∙ root_int32_lem a.s.now a.at c.in-8.is)

pub returns-in-18 : goal.returns-in-18
returns-in-18 c =
    let a = c.args in
    c.amount-in-18.ensures ∙ ap amount_of (c.string_at.ensures ∙ root_string_lem a.s.now a.at c.in-18.is)

pub returns-in-45 : goal.returns-in-45
returns-in-45 c =
    let a = c.args in
    c.amount-in-45.ensures ∙ ap amount_of (c.fixed32_at.ensures ∙ root_float_lem a.s.now a.at c.in-45.is)

pub returns-in-56 : goal.returns-in-56
returns-in-56 c =
    let a = c.args in
    c.amount-in-56.ensures ∙ ap amount_of (c.bool_at.ensures ∙ root_bool_lem a.s.now a.at c.in-56.is)

pub returns-in_default : goal.returns-in_default
returns-in_default c =
    let a = c.args in
    c.amount-in_default.ensures ∙ ap amount_of (c.skip_at.ensures ∙ root_other a.s.now a.at (λ e. omega arith) (λ e. omega arith) (λ e. omega arith) (λ e. omega arith))
