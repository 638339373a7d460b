-- One iteration of the loop over the bytes of a varint, of which only the position after it is asked. Assumes nothing.
use Prim.Native.Nat.{ℕ, zero, suc, ◌+◌, ◌-◌, ◌≤◌, ◌<◌}
use native.Mathlib.Omega.{arith}
use mathlib.Core.Path.{◌≡◌, refl, sym, ap, ◌∙◌}
use mathlib.Core.List.{List, []}
use lib.ListN.{length, drop, get_or, drop_of_length-le}
use lib.Seq.{drop-cons}
use borrow.Author.Tests.{le-leb, lt-leb}
use Rattle.spec.specs.Names.{ends_early}
use Rattle.spec.specs.Base.{No}
use Rattle.spec.specs.Varint.{varint, varint64}
use Rattle.std.specs.Prelude.{Ok, Err}
use Rattle.spec.specs.Told.{refusal_of}
use Rattle.spec.specs.declared.refusals.Refusal.TheVariants.{EndsEarly, BadVarint}
use Rattle.skip.specs.Passed.{behind}
use Rattle.skip.proofs.PastLaws.{ends_behind, ends_here, behind_byte, refused_behind}

-- n bytes are passed, and each said that another follows: the position after all is the position after the rest
pub record Along (s : List ℕ) (at n : ℕ) : Type 0 where
  pub few : n ≤ 9
  pub rest : behind at (varint64 (drop at s)) ≡ behind (at + n) (varint (9 - n) 1 (drop (at + n) s))

pub begin : (s : List ℕ) (at : ℕ) → Along s at 0
begin s at = let q : at + 0 ≡ at = omega arith in record { few = omega arith; rest = rw q refl }

pub no_byte : (k last : ℕ) → varint k last [] ≡ No ends_early
unfolding varint
no_byte zero last = refl
no_byte (suc k) last = refl

module _ {s : List ℕ} {at n : ℕ} (h : Along s at n) where
  pub ended : length s ≤ at + n → Err EndsEarly ≡ behind at (varint64 (drop at s))
  ended l = refused_behind (at + n) (ap (varint (9 - n) 1) (drop_of_length-le s l) ∙ no_byte (9 - n) 1) ∙ sym h.rest

  module _ (l : at + n < length s) where
    module _ (m : n < 9) where
      left : 9 - n ≡ suc (8 - n)
      left = omega arith

      pub stopped : (q : ℕ) → at + n + 1 ≡ q → get_or s (at + n) 0 < 128 → Ok q ≡ behind at (varint64 (drop at s))
      stopped q e b = rw (← e) (sym (h.rest ∙ rw left (sym (ends_behind (at + n) 1 (ends_here (8 - n) 1 (at + n) s l b)))))

      pub turned : 128 ≤ get_or s (at + n) 0 → Along s at (n + 1)
      turned b =
          let q : at + n + 1 ≡ at + (n + 1) = omega arith in
          let p : 9 - (n + 1) ≡ 8 - n = omega arith in
          record { few = omega arith; rest = h.rest ∙ rw (left, p, ← q) (behind_byte (8 - n) 1 (at + n) s l b) }

    -- the tenth byte
    module _ (m : 9 ≤ n) where
      none_left : 9 - n ≡ 0
      none_left = omega arith

      pub ends_last : get_or s (at + n) 0 ≤ 1 → Ok (at + n + 1) ≡ behind at (varint64 (drop at s))
      unfolding varint behind
      ends_last b = sym (h.rest ∙ rw (none_left, drop-cons s (at + n) 0, le-leb (get_or s (at + n) 0) 1 b) refl)

      pub bad_last : 1 < get_or s (at + n) 0 → Err BadVarint ≡ behind at (varint64 (drop at s))
      unfolding varint behind refusal_of
      bad_last b = sym (h.rest ∙ rw (none_left, drop-cons s (at + n) 0, lt-leb (get_or s (at + n) 0) 1 b) refl)

-- the first byte, where there is no loop
module _ (s : List ℕ) (at : ℕ) (l : at < length s) where
  zero_on : at + 0 ≡ at
  zero_on = omega arith

  pub first_stopped : get_or s at 0 < 128 → Ok (at + 1) ≡ behind at (varint64 (drop at s))
  first_stopped b = stopped (begin s at) (omega arith) (omega arith) (at + 1) (omega arith) (rw zero_on b)

  pub first_turned : 128 ≤ get_or s at 0 → Along s at 1
  first_turned b = turned (begin s at) (omega arith) (omega arith) (rw zero_on b)
