-- A refusal and its number are one and the same, and so are the answer to a writing and its three numbers. Assumes nothing.
use Prim.Native.Nat.{ℕ, ◌≤◌}
use mathlib.Core.Path.{◌≡◌, refl, sym, ap, ap₂, ◌∙◌}
use native.Mathlib.Omega.{arith}
use borrow.Author.Tests.{ne_eqb}
use Rattle.std.specs.Prelude.{Result, Ok, Err}
use Rattle.std.specs.Result.{result_unwrap_or}
use Rattle.spec.specs.Told.{number_of, refusal_of, written_number, written_size, written_index}
use Rattle.spec.specs.Writing.{sent_size}
use Rattle.spec.specs.declared.answers.Unwritten.{Unwritten}
use Rattle.spec.specs.declared.refusals.Refusal.{Refusal}
use Rattle.spec.specs.declared.refusals.Refusal.TheVariants.{EndsEarly, BadVarint, BadTag, NoGroupOpen, OutOfRange, NotUtf8, TooDeep, NoRoom, InvalidSchema, InvalidList, TooLarge, OutputShort, BadMark, OtherVersion}

pub refusal_of-number : (r : Refusal) → refusal_of (number_of r) ≡ r
unfolding refusal_of
refusal_of-number EndsEarly = refl
refusal_of-number BadVarint = refl
refusal_of-number BadTag = refl
refusal_of-number NoGroupOpen = refl
refusal_of-number OutOfRange = refl
refusal_of-number NotUtf8 = refl
refusal_of-number TooDeep = refl
refusal_of-number NoRoom = refl
refusal_of-number InvalidSchema = refl
refusal_of-number InvalidList = refl
refusal_of-number TooLarge = refl
refusal_of-number OutputShort = refl
refusal_of-number BadMark = refl
refusal_of-number OtherVersion = refl

pub same_refusal : {q r : Refusal} → number_of q ≡ number_of r → q ≡ r
same_refusal {q} {r} h = sym (refusal_of-number q) ∙ ap refusal_of h ∙ refusal_of-number r

-- no refusal has the number 0, which says that there is none
pub refused : (r : Refusal) → 1 ≤ number_of r
refused EndsEarly = omega arith
refused BadVarint = omega arith
refused BadTag = omega arith
refused NoGroupOpen = omega arith
refused OutOfRange = omega arith
refused NotUtf8 = omega arith
refused TooDeep = omega arith
refused NoRoom = omega arith
refused InvalidSchema = omega arith
refused InvalidList = omega arith
refused TooLarge = omega arith
refused OutputShort = omega arith
refused BadMark = omega arith
refused OtherVersion = omega arith

unwritten : Refusal → ℕ → ℕ → Result ℕ Unwritten
unwritten r n i = Err (record { refusal = r; size = n; index = i })

-- an answer to a writing is its three numbers
pub same_written : (a b : Result ℕ Unwritten) → written_number a ≡ written_number b → written_size a ≡ written_size b → written_index a ≡ written_index b → a ≡ b
unfolding unwritten
same_written (Ok n) (Ok m) k s i = ap Ok s
same_written (Ok n) (Err f) k s i = absurd (omega (arith, refused f.refusal))
same_written (Err e) (Ok m) k s i = absurd (omega (arith, refused e.refusal))
same_written (Err e) (Err f) k s i = ap₂ (λ (r : Refusal) (n : ℕ). unwritten r n e.index) (same_refusal k) s ∙ ap (unwritten f.refusal f.size) i

-- how many bytes a writing leaves to be read, by its answer: the size, or none where it was refused
pub told_sent : (a : Result ℕ Unwritten) → result_unwrap_or a 0 ≡ sent_size (written_number a) (written_size a)
told_sent (Ok n) = refl
told_sent (Err e) = rw (ne_eqb (number_of e.refusal) 0 (λ z. omega (arith, refused e.refusal)))
