-- Laws of the list of records: one reading after another, records put before one, and the room for them.
-- Assumes nothing.
use Prim.Native.Nat.{ℕ, zero, suc, ◌-◌, ◌*◌, ◌/◌, ◌≤◌}
use native.Mathlib.Omega.{arith}
use native.Mathlib.Nat.{suc-sub-suc, le_of_suc-le-suc, not-suc-le-zero, sub-zero}
use mathlib.Core.Path.{◌≡◌, refl, sym, ap, ◌∙◌}
use mathlib.Core.List.{List, [], ◌∷◌, ◌++◌}
use lib.ListN.{length, drop, length-append, length-drop}
use lib.Seq.{drop_at}
use Rattle.spec.specs.Names.{no_room}
use Rattle.spec.specs.Record.{Record, stride, numbers, stored}
use Rattle.spec.specs.Reading.{Reading, Done, Refused, ◌then◌, ◌followed_by◌, within, number, place, listed, after, room_after}

pub followed_assoc : (p q r : Reading) → ((p followed_by q) followed_by r) ≡ (p followed_by (q followed_by r))
unfolding ◌followed_by◌
followed_assoc Done q r = refl
followed_assoc (Refused k i) q r = refl
followed_assoc (x then p) q r = ap (◌then◌ x) (followed_assoc p q r)

pub followed_done : (p : Reading) → (p followed_by Done) ≡ p
unfolding ◌followed_by◌
followed_done Done = refl
followed_done (Refused k i) = refl
followed_done (x then p) = ap (◌then◌ x) (followed_done p)

pub after_append : (rs qs : List Record) (q : Reading) → after (rs ++ qs) q ≡ after rs (after qs q)
unfolding after
after_append [] qs q = refl
after_append (r ∷ rs) qs q = ap (◌then◌ r) (after_append rs qs q)

pub after_followed : (rs : List Record) (p q : Reading) → (after rs p followed_by q) ≡ after rs (p followed_by q)
unfolding after ◌followed_by◌
after_followed [] p q = refl
after_followed (r ∷ rs) p q = ap (◌then◌ r) (after_followed rs p q)

pub after_number : (rs : List Record) (q : Reading) → number (after rs q) ≡ number q
unfolding after number
after_number [] q = refl
after_number (r ∷ rs) q = after_number rs q

pub after_place : (rs : List Record) (q : Reading) → place (after rs q) ≡ place q
unfolding after place
after_place [] q = refl
after_place (r ∷ rs) q = after_place rs q

pub after_listed : (rs : List Record) (q : Reading) → listed (after rs q) ≡ rs ++ listed q
unfolding after listed
after_listed [] q = refl
after_listed (r ∷ rs) q = ap (◌∷◌ r) (after_listed rs q)

-- room: what was stored takes its part of it, and one record too many is refused at its tag
pub within_after : (n : ℕ) (rs : List Record) (q : Reading) → length rs ≤ n → within n (after rs q) ≡ after rs (within (n - length rs) q)
unfolding after within
within_after n [] q h = ap (λ (m : ℕ). within m q) (sym (sub-zero n))
within_after zero (r ∷ rs) q h = absurd (not-suc-le-zero h)
within_after (suc n) (r ∷ rs) q h = ap (◌then◌ r) (within_after n rs q (le_of_suc-le-suc h) ∙ ap (λ (m : ℕ). after rs (within m q)) (sym (suc-sub-suc n (length rs))))

pub within_full : (rs : List Record) (r : Record) (q : Reading) → within (length rs) (after rs (r then q)) ≡ after rs (Refused no_room r.tag)
unfolding after within
within_full [] r q = refl
within_full (x ∷ rs) r q = ap (◌then◌ x) (within_full rs r q)

-- ---- the room: what is stored fits it, and nothing after the records is touched

pub within_fits : (n : ℕ) (q : Reading) → length (listed (within n q)) ≤ n
unfolding within listed
within_fits n Done = omega arith
within_fits n (Refused k p) = omega arith
within_fits zero (r then q) = omega arith
within_fits (suc n) (r then q) = omega (arith, within_fits n q)

pub stored_length : (rs : List Record) → length (stored rs) ≡ stride * length rs
unfolding stored numbers
stored_length [] = refl
stored_length (r ∷ rs) = omega (arith, stored_length rs)

module _ (q : Reading) (room : List ℕ) (fits : length (listed q) ≤ length room / stride) where
  pub room_kept : length (room_after q room) ≡ length room
  room_kept =
      omega (
        arith,
        length-append (stored (listed q)) (drop (length (stored (listed q))) room),
        length-drop (length (stored (listed q))) room,
        stored_length (listed q),
      )

  pub room_behind : drop (stride * length (listed q)) (room_after q room) ≡ drop (stride * length (listed q)) room
  room_behind =
      drop_at (stored (listed q)) (drop (length (stored (listed q))) room) (stride * length (listed q)) (stored_length (listed q))
      ∙ ap (λ (n : ℕ). drop n room) (stored_length (listed q))
