-- A skip's refusal or the bytes that it took, as a step. Assumes nothing.
use Prim.Native.Nat.{ℕ, ◌+◌, ◌≤◌}
use native.Mathlib.Omega.{arith}
use mathlib.Core.Path.{◌≡◌, ap}
use mathlib.Core.List.{List}
use lib.ListN.{length}
use Rattle.spec.specs.Base.{Read, Took, No, refusal, taken}
use Rattle.spec.specs.Skip.{skip_field_for_tag}
use Rattle.spec.specs.Pull.{Number, Refused, Moved, says, moved}
use Rattle.spec.specs.Told.{number_of}
use Rattle.spec.specs.declared.refusals.Refusal.{Refusal}
use Rattle.spec.proofs.Laws.{Takes, took}
use Rattle.spec.proofs.SkipLaws.{takes_skip_field_for_tag_lem}
use Rattle.skip.proofs.KnownLaws.{some_number, Known, was_read, refused_by, known_skip}

abbrev skipped : ℕ → Read → Moved
skipped at r = moved at (λ v n. Number n) r

module _ (at t level : ℕ) (s : List ℕ) where
  pub skip_refused : (k : Refusal) → number_of k ≡ refusal (skip_field_for_tag t level s) → says (Refused (number_of k) at) at ≡ skipped at (skip_field_for_tag t level s)
  unfolding moved refusal
  skip_refused k e = go (skip_field_for_tag t level s) e
    where
      go : (r : Read) → number_of k ≡ refusal r → says (Refused (number_of k) at) at ≡ skipped at r
      go (Took v n) p = absurd (omega (arith, some_number k))
      go (No j) p = ap (λ (x : ℕ). says (Refused x at) at) p

  pub skip_told : {used : ℕ} → 0 ≡ refusal (skip_field_for_tag t level s) → used ≡ taken (skip_field_for_tag t level s)
      → says (Number used) (at + used) ≡ skipped at (skip_field_for_tag t level s)
  unfolding moved refusal taken
  skip_told {used} e u = go (known_skip t level s) e u
    where
      go : {r : Read} → Known r → 0 ≡ refusal r → used ≡ taken r → says (Number used) (at + used) ≡ skipped at r
      go was_read p q = ap (λ (x : ℕ). says (Number x) (at + x)) q
      go (refused_by k) p q = absurd (omega (arith, some_number k))

pub skip_bound : (t level : ℕ) (s : List ℕ) {used : ℕ} → used ≡ taken (skip_field_for_tag t level s) → used ≤ length s
unfolding taken
skip_bound t level s {used} u = go (skip_field_for_tag t level s) (takes_skip_field_for_tag_lem t level s) u
  where
    go : (r : Read) → Takes 0 (length s) r → used ≡ taken r → used ≤ length s
    go (Took v n) (took h j) q = omega arith
    go (No k) Takes.none q = omega arith
