-- `read::scalar::meaning_of` meets its contract: its tests are those of the table. Assumes nothing.
use Rattle.read.proofs.scalar.meaning_of.Goals.{else-kind-gt-BYTES-via-then-kind-gt-BYTES+else-kind-lt-SFIXED32, else-kind-gt-BYTES-via-else-kind-gt-BYTES, else-kind-gt-SFIXED64-via-then-kind-gt-SFIXED64+else-kind-lt-OWN_KINDS, else-kind-gt-SFIXED64-via-else-kind-gt-SFIXED64, else-kind-gt-FLOAT-via-then-kind-gt-FLOAT+else-kind-lt-FIXED64, else-kind-gt-FLOAT-via-else-kind-gt-FLOAT}
use native.Mathlib.Omega.{arith}
use mathlib.Core.Path.{ap, ◌∙◌}
use Rattle.spec.specs.Kind.{shape, shapes}
use Rattle.read.specs.Answers.{meant_by, meant_as}
use Rattle.std.specs.Prelude.{Some}
use Rattle.read.proofs.KindTests.{meant_first, meant_zero, meant_low, meant_uint32_enum, meant_sfixed, meant_sint, meant_high}
use Rattle.read.proofs.scalar.meaning_of.Goals as goal

pub returns-then-kind-lt-FIXED64 : goal.returns-then-kind-lt-FIXED64
returns-then-kind-lt-FIXED64 c = let a = c.args in meant_first a.kind a.v (omega arith) (omega arith)

pub returns-then-kind-lt-OWN_KINDS : goal.returns-then-kind-lt-OWN_KINDS
returns-then-kind-lt-OWN_KINDS c =
    let a = c.args in
    ap Some c.unzigzag.ensures ∙ meant_sint a.kind a.v (omega arith) (λ e. omega arith) (λ e. omega arith) (omega arith) (omega arith)

pub returns-then-kind-lt-SFIXED32 : goal.returns-then-kind-lt-SFIXED32
returns-then-kind-lt-SFIXED32 c =
    let a = c.args in
    meant_uint32_enum a.kind a.v (omega arith) (λ e. omega arith) (λ e. omega arith) (omega arith) (omega arith)

pub returns-then-v-eq0 : goal.returns-then-v-eq0
unfolding shape shapes meant_by meant_as
returns-then-v-eq0 c = rw (c.in-8.is, c.if-v-eq0.true)

pub returns-else-v-eq0 : goal.returns-else-v-eq0
unfolding shape shapes meant_by meant_as
returns-else-v-eq0 c = rw c.in-8.is (ap Some (omega (arith, c.if-v-eq0.false)))

pub returns-in-21 : goal.returns-in-21
unfolding shape shapes meant_by meant_as
returns-in-21 c = rw c.in-21.is

-- our own kinds; sfixed32 and sfixed64; from fixed64 to bytes; below int64
pub returns-in_default : goal.returns-in_default
returns-in_default c =
    let a = c.args in
    elim c.else-kind-gt-BYTES.branch [
      | else-kind-gt-BYTES-via-then-kind-gt-BYTES+else-kind-lt-SFIXED32 u ↦ elim c.else-kind-gt-SFIXED64.branch [
        | else-kind-gt-SFIXED64-via-then-kind-gt-SFIXED64+else-kind-lt-OWN_KINDS w ↦ meant_high a.kind a.v (omega (arith, w.if-kind-lt-OWN_KINDS.false)) (λ e. omega arith) (λ e. omega arith) w.if-kind-lt-OWN_KINDS.false
        | else-kind-gt-SFIXED64-via-else-kind-gt-SFIXED64 w ↦ meant_sfixed a.kind a.v (omega (arith, u.if-kind-lt-SFIXED32.false)) (λ e. omega arith) (λ e. omega arith) u.if-kind-lt-SFIXED32.false (omega (arith, w.if-kind-gt-SFIXED64.false))
      ]
      | else-kind-gt-BYTES-via-else-kind-gt-BYTES u ↦ elim c.else-kind-gt-FLOAT.branch [
        | else-kind-gt-FLOAT-via-then-kind-gt-FLOAT+else-kind-lt-FIXED64 w ↦ meant_low a.kind a.v w.if-kind-lt-FIXED64.false (λ e. omega arith) (λ e. omega arith) (omega (arith, u.if-kind-gt-BYTES.false))
        | else-kind-gt-FLOAT-via-else-kind-gt-FLOAT w ↦ meant_zero a.kind a.v (omega (arith, w.if-kind-gt-FLOAT.false))
      ]
    ]
