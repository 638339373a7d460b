-- Ranges in lent numbers: no more than there is room for, what stands after them is untouched, and ranges that were read are written as they are.
-- Assumes nothing.
use Prim.Native.Nat.{ℕ, zero, suc, ◌+◌, ◌*◌, ◌≤◌}
use native.Mathlib.Omega.{arith}
use mathlib.Core.Path.{◌≡◌, refl, sym, ap, ap₂, ◌∙◌}
use mathlib.Core.List.{List, [], ◌∷◌}
use mathlib.Core.Option.{Option, some}
use lib.ListN.{length, drop}
use lib.Seq.{drop-append_seam}
use Rattle.std.specs.Prelude.{if◌then◌else◌}
use Rattle.spec.specs.Writing.{sized}
use Rattle.segment.specs.Segment.{range_stride, segment, Range, Ranges, Done, Refused, ◌then◌, within, listed, stored, room_after, ranges_of, content_of, contents_of, lies, bad_range, ranges_first, writing}

pub stored_length : (rs : List Range) → length (stored rs) ≡ range_stride * length rs
unfolding stored
stored_length [] = refl
stored_length (r ∷ rs) = omega (arith, stored_length rs)

-- as many ranges as there is room for
pub within_fits : (n : ℕ) (q : Ranges) → length (listed (within n q)) ≤ n
unfolding within listed
within_fits n Done = omega arith
within_fits n (Refused k p) = omega arith
within_fits zero (r then q) = omega arith
within_fits (suc n) (r then q) = omega (arith, within_fits n q)

-- the lent room keeps what stands after the ranges
module _ (q : Ranges) (room : List ℕ) where
  pub room_after_lem : drop (range_stride * length (listed q)) (room_after q room) ≡ drop (range_stride * length (listed q)) room
  room_after_lem =
      ap (λ (n : ℕ). drop n (room_after q room)) (sym (stored_length (listed q)))
      ∙ drop-append_seam (stored (listed q)) (drop (length (stored (listed q))) room)
      ∙ ap (λ (n : ℕ). drop n room) (stored_length (listed q))

-- ---- the numbers of ranges are these ranges, but for the place of the length, which writing does not look at

contents_stored : (payload : List ℕ) (rs : List Range) → contents_of payload (ranges_of (stored rs)) ≡ contents_of payload rs
unfolding contents_of ranges_of stored
contents_stored payload [] = refl
contents_stored payload (r ∷ rs) = ap (λ (x : List (List ℕ)). content_of payload r ∷ x) (contents_stored payload rs)

bad_stored : (i : ℕ) (payload : List ℕ) (rs : List Range) → bad_range i payload (ranges_of (stored rs)) ≡ bad_range i payload rs
unfolding bad_range ranges_of stored
bad_stored i payload [] = refl
bad_stored i payload (r ∷ rs) = ap (λ (o : Option ℕ). if lies payload r then o else some i) (bad_stored (i + 1) payload rs)

pub writing_stored : (space : ℕ) (payload : List ℕ) (rs : List Range) → writing space payload (ranges_of (stored rs)) ≡ writing space payload rs
unfolding writing
writing_stored space payload rs = ap₂ (λ (o : Option ℕ) (ms : List (List ℕ)). ranges_first o (sized space (segment ms))) (bad_stored 0 payload rs) (contents_stored payload rs)
