-- Any two answers that say the same are equal. Assumes nothing.
use Rattle.std.proofs.Common.{◌≡◌, ℕ, Option, Some, None, Result, Ok, Err, refl, ap, arith}
use mathlib.Core.Path.{ap₂}
use Rattle.spec.specs.Schema.{Says}
use Rattle.schema.specs.declared.BadEntry.{BadEntry}
use Rattle.schema.specs.declared.Said.{Said}
use Rattle.schema.specs.Told.{bad_place, place, said}

pub told_once : (a b : Result (Unit {0}) BadEntry) → bad_place a ≡ bad_place b → a ≡ b
told_once (Ok u) (Ok v) e = refl
told_once (Ok u) (Err b) e = let z : ◌≡◌ {A = ℕ} 0 1 = cc in absurd (omega arith)
told_once (Err a) (Ok v) e = let z : ◌≡◌ {A = ℕ} 0 1 = cc in absurd (omega arith)
told_once (Err a) (Err b) e = let is : a.index ≡ b.index = cc in ap (λ (i : ℕ). Err (record { index = i })) is

pub place_once : (a b : Option ℕ) → place a ≡ place b → a ≡ b
place_once (Some i) (Some j) e = cc
place_once (Some i) None e = let z : ◌≡◌ {A = ℕ} 0 1 = cc in absurd (omega arith)
place_once None (Some j) e = let z : ◌≡◌ {A = ℕ} 0 1 = cc in absurd (omega arith)
place_once None None e = refl

pub said_once : (a b : Said) → said a ≡ said b → a ≡ b
said_once a b e = ap₂ (λ (k i : ℕ). record { kind = k; inner = i }) (ap (λ (s : Says). s.kind) e) (ap (λ (s : Says). s.inner) e)
