-- The two ways in which storing bytes at a position ends, for any bytes, and that a promise allows one answer and one slice.
-- Assumes nothing.
use Prim.Native.Nat.{ℕ, ◌+◌, ◌≤◌, ◌<◌}
use native.Mathlib.Omega.{arith}
use mathlib.Core.Path.{◌≡◌, sym, ap, ◌∙◌}
use mathlib.Core.List.{List, ◌++◌}
use lib.ListN.{length, drop}
use lib.Seq.{sets, sets-eq}
use borrow.Author.Tests.{le-leb, lt-leb}
use Rattle.spec.specs.Base.{filled}
use Rattle.wire.specs.Answers.{Stored}
use Rattle.std.specs.Prelude.{Option, Some, None}

pub no_room : {before : List ℕ} {at : ℕ} {bytes : List ℕ} → length before < at + length bytes → Stored before at bytes before None
no_room h = let no' = lt-leb _ _ h in record { says = simp no'; leaves = simp no' }

pub in_place : {before after bytes : List ℕ} {at next : ℕ} → at + length bytes ≤ length before → next ≡ at + length bytes
    → after ≡ sets before at bytes → Stored before at bytes after (Some next)
in_place {before} {bytes = bytes} {at} h e s =
    let yes' = le-leb _ _ h in
    record { says = simp yes' (ap Some e); leaves = simp yes' (s ∙ sets-eq bytes before at h) }

-- any two answers that the promise allows are equal, and so are the slices
pub one_storing : {before bytes x y : List ℕ} {at : ℕ} {p q : Option ℕ} → Stored before at bytes x p → Stored before at bytes y q → (p ≡ q) × (x ≡ y)
one_storing s t = (s.says ∙ sym t.says, s.leaves ∙ sym t.leaves)

-- storing at the front
pub at_front : (new room : List ℕ) → length new ≤ length room → sets room 0 new ≡ filled new room
at_front new room h =
    let here : 0 + length new ≡ length new = omega arith in
    sets-eq new room 0 (omega arith) ∙ ap (λ (n : ℕ). new ++ drop n room) here
