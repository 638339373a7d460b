-- Laws of the answer of a call that writes, by the size of what is written. Assumes nothing.
use Prim.Native.Nat.{ℕ, ◌≤◌, ◌<◌}
use native.Mathlib.Omega.{arith}
use mathlib.Core.Path.{◌≡◌, refl, sym, subst, ◌∙◌}
use mathlib.Core.List.{List}
use lib.ListN.{length, replicate}
use Rattle.std.specs.Prelude.{Result, Ok, Err}
use Rattle.spec.specs.Base.{limit}
use Rattle.spec.specs.Writing.{Writing, number, size, index, sized}
use Rattle.spec.specs.declared.answers.Unwritten.{Unwritten}
use Rattle.spec.specs.declared.refusals.Refusal.TheVariants.{OutputShort, TooLarge}
use Rattle.std.proofs.lemmas.List.{length-replicate}
use Rattle.spec.proofs.ToldLaws.{same_written}
use Rattle.spec.proofs.SizeLaws.{sized_above, sized_short, sized_fits}
use Rattle.sizes.specs.Answers.{Tells}
use Rattle.sizes.specs.SizeParts.{capped}

-- a writing that is the same is told the same
pub tells_as : {v w : Writing} {r : Result ℕ Unwritten} → v ≡ w → Tells w r → Tells v r
tells_as {r = r} e t = subst (λ (x : Writing). Tells x r) (sym e) t

-- a size that is cut off is as good as one that is not
pub cut_once : (n m : ℕ) → n ≡ capped m → capped n ≡ capped m
cut_once n m e = omega (arith, e)

-- any two answers by a size are equal: there are as many bytes as it says, or as are just above the limit
pub one_by_size : (room n : ℕ) (a b : Result ℕ Unwritten) → ((s : List ℕ) → capped n ≡ capped (length s) → Tells (sized room s) a)
    → ((s : List ℕ) → capped n ≡ capped (length s) → Tells (sized room s) b) → a ≡ b
one_by_size room n a b first second =
    let bytes : List ℕ = replicate (capped n) 0 in
    let many : capped n ≡ capped (length bytes) = omega (arith, length-replicate {A = ℕ} (capped n) 0) in
    let x = first bytes many in
    let y = second bytes many in
    same_written a b (x.number ∙ sym y.number) (x.size ∙ sym y.size) (x.index ∙ sym y.index)

-- the answer, from their size n, which may be cut off above the limit
module _ (room : ℕ) (b : List ℕ) (n : ℕ) (is : capped n ≡ capped (length b)) where
  pub told_above : limit < n → Tells (sized room b) (Err (record { refusal = TooLarge; size = 0; index = 0 }))
  unfolding number size index
  told_above h = tells_as (sized_above room b (omega arith)) (record { number = refl; size = refl; index = refl })

  pub told_short : n ≤ limit → room < n → Tells (sized room b) (Err (record { refusal = OutputShort; size = n; index = 0 }))
  unfolding number size index
  told_short h m = tells_as (sized_short room b (omega arith) (omega arith)) (record { number = refl; size = omega arith; index = refl })

  pub told_fits : n ≤ limit → n ≤ room → Tells (sized room b) (Ok n)
  unfolding number size index
  told_fits h m = tells_as (sized_fits room b (omega arith) (omega arith)) (record { number = refl; size = omega arith; index = refl })
