-- What is never refused 6: a tag, a value, a length and a skipped field; and what holds of the refusal of a reading. Assumes nothing.
use Prim.Native.Nat.{ℕ, zero, suc, ◌+◌, ◌%◌}
use native.Mathlib.Omega.{arith}
use mathlib.Core.Path.{◌≡◌, refl, sym, ap, ◌∙◌, subst}
use mathlib.Core.Bool.{Bool, true, not, false≢true}
use mathlib.Core.List.{List, [], ◌∷◌}
use lib.ListN.{length, drop}
use lib.Dec.{leb, ltb, eqb}
use Rattle.spec.specs.Names.{bad_tag, delimited_wire, end_group_wire, fixed32_wire, fixed64_wire, most_levels, no_room, not_utf8, out_of_range, start_group_wire, varint_wire}
use Rattle.spec.specs.Base.{limit, Read, Took, No, meaning, require, longer, ◌>>=◌, digit}
use Rattle.spec.specs.Varint.{varint, fixed, good_tag, tag}
use Rattle.spec.specs.Kind.{Scalar, int32, uint32, uint64, bool, sint32, sint64, fixed32, sfixed32, fixed64, scalar}
use Rattle.spec.specs.Skip.{spanned, content, plain, skip_field, skip_group, inner_group, skip_field_for_tag}
use Rattle.spec.specs.Record.{Record}
use Rattle.spec.specs.Reading.{Reading, Done, Refused, ◌then◌, ◌followed_by◌, within, number, place}
use Rattle.spec.proofs.Laws.{either_way}

-- ---- tags, values, lengths and skipped fields are never refused 6

abbrev pub is_ordinary : ℕ → Bool
is_ordinary k = not (eqb k not_utf8)

pub data Ordinary : Read → Type 0 where
  was_read : {v n : ℕ} → Ordinary (Took v n)
  refused_by : {k : ℕ} → is_ordinary k ≡ true → Ordinary (No k)

pub not_ordinary : {k : ℕ} → is_ordinary k ≡ true → k ≡ not_utf8 → ⊥
not_ordinary h e = false≢true (sym (ap is_ordinary e) ∙ h)

ordinary_digit : (base b : ℕ) {r : Read} → Ordinary r → Ordinary (digit base b r)
unfolding digit
ordinary_digit base b was_read = was_read
ordinary_digit base b (refused_by h) = refused_by h

ordinary_meaning : (f : ℕ → ℕ) {r : Read} → Ordinary r → Ordinary (meaning f r)
unfolding meaning
ordinary_meaning f was_read = was_read
ordinary_meaning f (refused_by h) = refused_by h

ordinary_require : (k : ℕ) (ok : ℕ → Bool) {r : Read} → is_ordinary k ≡ true → Ordinary r → Ordinary (require k ok r)
unfolding require
ordinary_require k ok h (was_read {v}) = either_way Ordinary (ok v) was_read (refused_by h)
ordinary_require k ok h (refused_by i) = refused_by i

ordinary_longer : (n : ℕ) {r : Read} → Ordinary r → Ordinary (longer n r)
unfolding longer
ordinary_longer n was_read = was_read
ordinary_longer n (refused_by h) = refused_by h

ordinary_next : {r : Read} {next : ℕ → ℕ → Read} → Ordinary r → ((v n : ℕ) → Ordinary (next v n)) → Ordinary (r >>= next)
unfolding ◌>>=◌
ordinary_next (was_read {v} {n}) f = ordinary_longer n (f v n)
ordinary_next (refused_by h) f = refused_by h

pub ordinary_varint : (k last : ℕ) (s : List ℕ) → Ordinary (varint k last s)
unfolding varint
ordinary_varint k last [] = refused_by refl
ordinary_varint zero last (b ∷ s) = either_way Ordinary (leb b last) was_read (refused_by refl)
ordinary_varint (suc k) last (b ∷ s) = either_way Ordinary (ltb b 128) was_read (ordinary_digit 128 (b % 128) (ordinary_varint k last s))

ordinary_fixed : (n : ℕ) (s : List ℕ) → Ordinary (fixed n s)
unfolding fixed
ordinary_fixed zero s = was_read
ordinary_fixed (suc n) [] = refused_by refl
ordinary_fixed (suc n) (b ∷ s) = ordinary_digit 256 b (ordinary_fixed n s)

pub ordinary_tag : (s : List ℕ) → Ordinary (tag s)
unfolding tag
ordinary_tag s = ordinary_require bad_tag _ refl (ordinary_varint _ _ s)

pub ordinary_scalar : (c : Scalar) (s : List ℕ) → Ordinary (scalar c s)
unfolding scalar
ordinary_scalar int32 s = ordinary_require out_of_range _ refl (ordinary_varint _ _ s)
ordinary_scalar uint32 s = ordinary_varint _ _ s
ordinary_scalar uint64 s = ordinary_varint _ _ s
ordinary_scalar bool s = ordinary_meaning _ (ordinary_varint _ _ s)
ordinary_scalar sint32 s = ordinary_meaning _ (ordinary_varint _ _ s)
ordinary_scalar sint64 s = ordinary_meaning _ (ordinary_varint _ _ s)
ordinary_scalar fixed32 s = ordinary_fixed _ s
ordinary_scalar sfixed32 s = ordinary_meaning _ (ordinary_fixed _ s)
ordinary_scalar fixed64 s = ordinary_fixed _ s

pub ordinary_content : (k last : ℕ) (s : List ℕ) → Ordinary (content (varint k last) s)
unfolding content
ordinary_content k last s = go (ordinary_varint k last s)
  where
    go : {r : Read} → Ordinary r → Ordinary (spanned (length s) r)
    go (was_read {v} {n}) = either_way Ordinary (leb (n + v) (length s)) was_read (refused_by refl)
    go (refused_by h) = refused_by h

ordinary_plain : (w : ℕ) (s : List ℕ) → Ordinary (plain w s)
unfolding plain
ordinary_plain w s =
    either_way Ordinary (eqb w varint_wire) (ordinary_varint _ _ s)
    (either_way Ordinary (eqb w fixed64_wire) (ordinary_fixed _ s)
    (either_way Ordinary (eqb w delimited_wire) (ordinary_content _ _ s)
    (either_way Ordinary (eqb w fixed32_wire) (ordinary_fixed _ s) (refused_by refl))))

ordinary_field : (group : ℕ → List ℕ → Read) (level w : ℕ) (s : List ℕ) → ((l : ℕ) (u : List ℕ) → Ordinary (group l u)) → Ordinary (skip_field group level w s)
unfolding skip_field
ordinary_field group level w s f =
    either_way Ordinary (eqb w start_group_wire) (either_way Ordinary (leb most_levels level) (refused_by refl) (f (level + 1) s)) (ordinary_plain w s)

pub ordinary_group : (k : ℕ) {at_end : Read} (level : ℕ) (s : List ℕ) → Ordinary at_end → Ordinary (skip_group k at_end level s)
unfolding skip_group
ordinary_group zero level s e = e
ordinary_group (suc k) level [] e = e
ordinary_group (suc k) level (b ∷ s) e =
    ordinary_next (ordinary_tag (b ∷ s)) λ t n.
    either_way Ordinary (eqb (t % 8) end_group_wire) was_read
    (ordinary_next (ordinary_field _ level (t % 8) (drop n (b ∷ s)) (λ l u. ordinary_group k l u was_read)) λ v m. ordinary_group k level (drop (n + m) (b ∷ s)) e)

pub ordinary_skip : (t level : ℕ) (s : List ℕ) → Ordinary (skip_field_for_tag t level s)
unfolding skip_field_for_tag
ordinary_skip t level s =
    either_way Ordinary (ltb limit (length s)) (refused_by refl)
    (either_way Ordinary (good_tag t) (ordinary_field inner_group level (t % 8) s (λ l u. ordinary_group (length u) l u was_read)) (refused_by refl))

-- ---- the refusal of a reading, if there is one, is so

pub data Refusals (P : ℕ → ℕ → Type 0) : Reading → Type 0 where
  none_at_all : Refusals P Done
  refused_so : {k p : ℕ} → P k p → Refusals P (Refused k p)
  after_it : {r : Record} {q : Reading} → Refusals P q → Refusals P (r then q)

module _ (P : ℕ → ℕ → Type 0) where
  pub refusals_followed : {p q : Reading} → Refusals P p → Refusals P q → Refusals P (p followed_by q)
  unfolding ◌followed_by◌
  refusals_followed none_at_all g = g
  refusals_followed (refused_so h) g = refused_so h
  refusals_followed (after_it f) g = after_it (refusals_followed f g)

  -- with room, where 8 is so
  pub refusals_within : (n : ℕ) {q : Reading} → ((p : ℕ) → P no_room p) → Refusals P q → Refusals P (within n q)
  unfolding within
  refusals_within n full none_at_all = none_at_all
  refusals_within n full (refused_so h) = refused_so h
  refusals_within zero full (after_it {r} f) = refused_so (full r.tag)
  refusals_within (suc n) full (after_it f) = after_it (refusals_within n full f)

  pub refusal_is : {q : Reading} (k : ℕ) → Refusals P q → number q ≡ suc k → P (suc k) (place q)
  unfolding number place
  refusal_is k none_at_all e = absurd (omega arith)
  refusal_is k (refused_so {p = p} h) e = subst (λ (n : ℕ). P n p) e h
  refusal_is k (after_it f) e = refusal_is k f e
