-- `list::record::value_fits` meets its contract. Assumes nothing.
use native.Mathlib.Omega.{arith}
use mathlib.Core.Path.{sym, ◌∙◌}
use Rattle.list.proofs.FitLaws.{fits_least, fits_bool, fits_small, fits_signed32, fits_unsigned32, fits_wide}
use Rattle.list.proofs.record.value_fits.Goals as goal

pub returns-then-v-lt2 : goal.returns-then-v-lt2
returns-then-v-lt2 c = λ x e. fits_least _ _ x e c.if-v-lt2.true

pub returns-then-kind-eq-BOOL : goal.returns-then-kind-eq-BOOL
returns-then-kind-eq-BOOL c = λ x e. fits_bool _ _ x e c.if-v-lt2.false c.if-kind-eq-BOOL.true

pub returns-then-v-lt-BEYOND_INT32 : goal.returns-then-v-lt-BEYOND_INT32
returns-then-v-lt-BEYOND_INT32 c = λ x e. fits_small _ _ x e (omega arith) c.if-kind-eq-BOOL.false c.if-v-lt-BEYOND_INT32.true

pub returns-then-is_signed32 : goal.returns-then-is_signed32
returns-then-is_signed32 c = λ x e. fits_signed32 _ _ x e (omega arith) c.if-kind-eq-BOOL.false c.if-v-lt-BEYOND_INT32.false (sym c.is_signed32.ensures ∙ c.if-is_signed32.true)

pub returns-then-is_unsigned32 : goal.returns-then-is_unsigned32
returns-then-is_unsigned32 c = λ x e. fits_unsigned32 _ _ x e (omega arith) c.if-kind-eq-BOOL.false (sym c.is_signed32.ensures ∙ c.if-is_signed32.false) (sym c.is_unsigned32.ensures ∙ c.if-is_unsigned32.true)

pub returns-else-is_unsigned32 : goal.returns-else-is_unsigned32
returns-else-is_unsigned32 c = λ x e. fits_wide _ _ x e (omega arith) c.if-kind-eq-BOOL.false (sym c.is_signed32.ensures ∙ c.if-is_signed32.false) (sym c.is_unsigned32.ensures ∙ c.if-is_unsigned32.false)
