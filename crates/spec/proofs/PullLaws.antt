-- Laws of the pull reader: a refused step stays, and its place is its position but for a broken letter, any other goes forward in the bytes, and a content lies in them;
-- entering and opening, by their bounds; and that a raw tag is not judged.
-- Assumes nothing.
use Prim.Native.Nat.{ℕ, zero, suc, ◌+◌, ◌-◌, ◌%◌, ◌≤◌, ◌<◌}
use native.Mathlib.Omega.{arith}
use mathlib.Core.Path.{◌≡◌, refl, sym, ap, ◌∙◌, subst}
use mathlib.Core.Bool.{Bool, true, false}
use mathlib.Core.List.{List, [], ◌∷◌}
use lib.ListN.{length, drop, length-take, length-drop}
use lib.Dec.{leb, ltb}
use borrow.Author.Tests.{leb-true, leb-false, le-leb, lt-leb, ltb-true, ltb-false}
use Rattle.spec.specs.Names.{bad_tag, most_levels, not_utf8, too_deep, too_large}
use Rattle.std.specs.Prelude.{if◌then◌else◌}
use Rattle.spec.specs.Base.{part, Read, Took, No, refusal, digit, limit}
use Rattle.spec.specs.Varint.{varint, varint32, varint64}
use Rattle.spec.specs.Utf8.{utf8, valid_end}
use Rattle.spec.specs.Skip.{content}
use Rattle.spec.specs.Pull.{Reader, Ask, raw_tag, value, bytes, string, skip, Number, Content, End, Refused, Moved, says, moved, numbered, bounded, spelled, step_at, enter_at, reader, opened, stepped, inner_of, entered}
use Rattle.spec.proofs.Laws.{either_way, chosen, if_so, if_not, Takes, took, none, takes_varint, takes_scalar, Holds, holds, content_holds}
use Rattle.spec.proofs.SkipLaws.{takes_skip_field_for_tag_lem}
use Rattle.spec.proofs.Utf8Laws.{prefix_short}
use Rattle.spec.proofs.VarintLaws.{lower_or_not}

-- ---- what a step may be

-- A step from `at`, with `most` bytes there: it is refused, and stays, and only a broken character has another place than `at`; or it takes at least `least` bytes of them, and a content that it returns ends
-- where it stops; or the bytes are at their end.
pub data Step (at least most : ℕ) : Moved → Type 0 where
  stays : {k : ℕ} → Step at least most (says (Refused k at) at)
  breaks : {a : ℕ} → a < most → Step at least most (says (Refused not_utf8 (at + a)) at)
  tells : {v n : ℕ} → least ≤ n → n ≤ most → Step at least most (says (Number v) (at + n))
  bounds : {a z : ℕ} → least ≤ 1 → 1 ≤ a → a ≤ z → z ≤ most → Step at least most (says (Content (at + a) (at + z)) (at + z))
  ends : least ≡ 0 → Step at least most (says End at)

module _ {at least most : ℕ} where
  pub step_refused : {m : Moved} {k p : ℕ} → Step at least most m → m.said ≡ Refused k p → (m.at ≡ at) × ((k ≡ not_utf8 → ⊥) → p ≡ at)
  step_refused stays e = (refl, λ n. cc)
  step_refused (breaks h) e = (refl, λ n. absurd (n (cc)))
  step_refused (tells h j) e = let z : ◌≡◌ {A = ℕ} 0 1 = cc in absurd (omega arith)
  step_refused (bounds l h i j) e = let z : ◌≡◌ {A = ℕ} 0 1 = cc in absurd (omega arith)
  step_refused (ends h) e = let z : ◌≡◌ {A = ℕ} 0 1 = cc in absurd (omega arith)

  pub step_forward : {m : Moved} → Step at least most m → (at ≤ m.at) × (m.at ≤ at + most)
  step_forward stays = omega arith
  step_forward (breaks h) = omega arith
  step_forward (tells h j) = omega arith
  step_forward (bounds l h i j) = omega arith
  step_forward (ends h) = omega arith

  pub step_takes : {m : Moved} → Step at least most m → ((k p : ℕ) → m.said ≡ Refused k p → ⊥) → at + least ≤ m.at
  step_takes (stays {k}) well = absurd (well k at refl)
  step_takes (breaks {a} h) well = absurd (well not_utf8 (at + a) refl)
  step_takes (tells h j) well = omega arith
  step_takes (bounds l h i j) well = omega arith
  step_takes (ends h) well = omega arith

  pub step_content : {m : Moved} {a z : ℕ} → Step at least most m → m.said ≡ Content a z → (at < a) × (a ≤ z) × (z ≤ at + most) × (m.at ≡ z)
  step_content stays e = let z : ◌≡◌ {A = ℕ} 0 1 = cc in absurd (omega arith)
  step_content (breaks h) e = let z : ◌≡◌ {A = ℕ} 0 1 = cc in absurd (omega arith)
  step_content (tells h j) e = let z : ◌≡◌ {A = ℕ} 0 1 = cc in absurd (omega arith)
  step_content {a = b} {z = y} (bounds {a} {z} l h i j) e =
      let p : at + a ≡ b = cc in
      let q : at + z ≡ y = cc in
      omega arith
  step_content (ends h) e = let z : ◌≡◌ {A = ℕ} 0 1 = cc in absurd (omega arith)

-- ---- a raw tag: the varint32 as it stands, which is not judged

module _ (s : List ℕ) (at level : ℕ) where
  pub raw_end : length s ≤ at → step_at s at level raw_tag ≡ says End at
  unfolding step_at
  raw_end h = simp (le-leb (length s) at h)

  pub raw_tag_lem : at < length s → step_at s at level raw_tag ≡ numbered at (varint32 (drop at s))
  unfolding step_at
  raw_tag_lem h = simp (lt-leb (length s) at h)

varint_refusal : (k last : ℕ) (s : List ℕ) → refusal (varint k last s) ≤ 2
unfolding varint digit refusal
varint_refusal k last [] = omega arith
varint_refusal zero last (b ∷ s) = either_way (λ (r : Read). refusal r ≤ 2) (leb b last) (omega arith) (omega arith)
varint_refusal (suc k) last (b ∷ s) = either_way (λ (r : Read). refusal r ≤ 2) (ltb b 128) (omega arith) (go (varint k last s) (varint_refusal k last s))
  where
    go : (r : Read) → refusal r ≤ 2 → refusal (digit 128 (b % 128) r) ≤ 2
    go (Took v n) h = omega arith
    go (No j) h = h

pub raw_never_3 : (s : List ℕ) (at level p : ℕ) → (step_at s at level raw_tag).said ≡ Refused bad_tag p → ⊥
unfolding moved refusal
raw_never_3 s at level p e =
    lower_or_not at (length s)
    (λ c. go (varint32 (drop at s)) (varint_refusal 4 15 (drop at s)) (ap (λ (m : Moved). m.said) (sym (raw_tag_lem s at level c)) ∙ e))
    (λ c. let x : End ≡ Refused bad_tag p = ap (λ (m : Moved). m.said) (sym (raw_end s at level c)) ∙ e in let z : ◌≡◌ {A = ℕ} 0 1 = cc in omega arith)
  where
    go : (r : Read) → refusal r ≤ 2 → (numbered at r).said ≡ Refused bad_tag p → ⊥
    go (Took v n) h x = let z : ◌≡◌ {A = ℕ} 0 1 = cc in omega arith
    go (No k) h x = let z : k ≡ bad_tag = cc in omega arith

-- ---- that every step is one

module _ (at : ℕ) {least most : ℕ} where
  number_step : {r : Read} (f : ℕ → ℕ → ℕ) → Takes least most r → Step at least most (moved at (λ v n. Number (f v n)) r)
  unfolding moved
  number_step f (took h j) = tells h j
  number_step f none = stays

  content_step : {r : Read} → least ≤ 1 → Holds most r → Step at least most (bounded at r)
  unfolding moved
  content_step l (holds h i j) = bounds l h i j
  content_step l Holds.none = stays

  string_step : (s : List ℕ) {r : Read} → least ≤ 1 → Holds most r → Step at least most (spelled at s r)
  unfolding spelled moved
  string_step s l (holds {a} {e} h i j) =
      chosen (Step at least most) (utf8 (part a e s)) (λ t. bounds l h i j)
      (λ f. broken (valid_end a e s) (omega (arith, prefix_short (part a e s) f, length-take (e - a) (drop a s))))
    where
      broken : (p : ℕ) → p < most → Step at least most (says (Refused not_utf8 (at + p)) at)
      broken p h = breaks h
  string_step s l Holds.none = stays

-- the fewest bytes that a step takes where it is not refused: none at the end, where no tag is read, and for a skip
unfoldable pub fewest : List ℕ → ℕ → Ask → ℕ
fewest s at raw_tag = if leb (length s) at then 0 else 1
fewest s at (value c) = 1
fewest s at bytes = 1
fewest s at string = 1
fewest s at (skip t) = 0

pub fewest_raw : (s : List ℕ) (at : ℕ) → at < length s → fewest s at raw_tag ≡ 1
unfolding fewest
fewest_raw s at h = simp (lt-leb (length s) at h)

module _ (s : List ℕ) (at : ℕ) where
  rest : length (drop at s) ≡ length s - at
  rest = length-drop at s

  taken_there : {least : ℕ} {r : Read} → Takes least (length (drop at s)) r → Takes least (length s - at) r
  taken_there {least} {r} t = subst (λ (n : ℕ). Takes least n r) rest t

  content_there : (len : List ℕ → Read) → Takes 1 (length (drop at s)) (len (drop at s)) → Holds (length s - at) (content len (drop at s))
  content_there len t = subst (λ (n : ℕ). Holds n (content len (drop at s))) rest (content_holds len (drop at s) t)

  pub steps : (level : ℕ) (ask : Ask) → Step at (fewest s at ask) (length s - at) (step_at s at level ask)
  unfolding step_at fewest
  steps level raw_tag = go (leb (length s) at)
    where
      go : (b : Bool) → Step at (if b then 0 else 1) (length s - at) (if b then says End at else numbered at (varint32 (drop at s)))
      go true = ends refl
      go false = number_step at (λ v n. v) (taken_there (takes_varint _ _ (drop at s)))
  steps level (value c) = number_step at (λ v n. v) (taken_there (takes_scalar c (drop at s)))
  steps level bytes = content_step at (omega arith) (content_there _ (takes_varint _ _ (drop at s)))
  steps level string = string_step at (drop at s) (omega arith) (content_there _ (takes_varint _ _ (drop at s)))
  steps level (skip t) = number_step at (λ v n. n) (taken_there (takes_skip_field_for_tag_lem t level (drop at s)))

  -- ---- entering: 7 at level 100 or more, whatever the bytes are, and else the content after a length

  pub enter_too_deep : (level : ℕ) → most_levels ≤ level → enter_at s at level ≡ says (Refused too_deep at) at
  unfolding enter_at
  enter_too_deep level h = if_so (leb _ level) _ (λ e. omega (arith, leb-false _ level e))

  pub enter_content : (level : ℕ) → level < most_levels → enter_at s at level ≡ bounded at (content varint64 (drop at s))
  unfolding enter_at
  enter_content level h = if_not (leb _ level) _ (λ e. omega (arith, leb-true _ level e))

  pub enter_step : (level : ℕ) → Step at 1 (length s - at) (enter_at s at level)
  enter_step level =
      let P : Moved → Type 0 = Step at 1 (length s - at) in
      lower_or_not level most_levels
      (λ c. subst P (sym (enter_content level c)) (content_step at (omega arith) (content_there _ (takes_varint _ _ (drop at s)))))
      (λ c. subst P (sym (enter_too_deep level c)) stays)

-- ---- the laws of each step

module _ (s : List ℕ) (at level : ℕ) (ask : Ask) where
  -- a refused step stays, and its place is the position, except on a broken character
  pub refused_stays : (k p : ℕ) → (step_at s at level ask).said ≡ Refused k p → ((step_at s at level ask).at ≡ at) × ((k ≡ not_utf8 → ⊥) → p ≡ at)
  refused_stays k p e = step_refused (steps s at level ask) e

  -- no step goes back, or past the bytes
  pub goes_forward : at ≤ length s → (at ≤ (step_at s at level ask).at) × ((step_at s at level ask).at ≤ length s)
  goes_forward h = let f = step_forward (steps s at level ask) in omega arith

  -- one that is not refused takes the fewest bytes, or more
  pub takes_fewest : ((k p : ℕ) → (step_at s at level ask).said ≡ Refused k p → ⊥) → at + fewest s at ask ≤ (step_at s at level ask).at
  takes_fewest well = step_takes (steps s at level ask) well

  -- a content lies in the bytes, after its length, and the step stops at its end
  pub content_in : (a z : ℕ) → (step_at s at level ask).said ≡ Content a z → (at < a) × (a ≤ z) × (z ≤ length s) × ((step_at s at level ask).at ≡ z)
  content_in a z e = let c = step_content (steps s at level ask) e in omega arith

-- the same of entering
module _ (s : List ℕ) (at level : ℕ) where
  pub enter_refused : (k p : ℕ) → (enter_at s at level).said ≡ Refused k p → ((enter_at s at level).at ≡ at) × (p ≡ at)
  unfolding moved
  enter_refused k p e =
      lower_or_not level most_levels
      (λ c. let m : enter_at s at level ≡ bounded at (content varint64 (drop at s)) = enter_content s at level c in
      subst (λ (x : Moved). (x.at ≡ at) × (p ≡ at)) (sym m) (bounded_refused (content varint64 (drop at s)) (ap (λ (x : Moved). x.said) (sym m) ∙ e)))
      (λ c. let m : enter_at s at level ≡ says (Refused too_deep at) at = enter_too_deep s at level c in
      let f : Refused too_deep at ≡ Refused k p = ap (λ (x : Moved). x.said) (sym m) ∙ e in
      (ap (λ (x : Moved). x.at) m, cc))
    where
      bounded_refused : (r : Read) → (bounded at r).said ≡ Refused k p → ((bounded at r).at ≡ at) × (p ≡ at)
      bounded_refused (Took a z) f = let z : ◌≡◌ {A = ℕ} 0 1 = cc in absurd (omega arith)
      bounded_refused (No j) f = (refl, cc)

  pub enter_forward : at ≤ length s → (at ≤ (enter_at s at level).at) × ((enter_at s at level).at ≤ length s)
  enter_forward h = let f = step_forward (enter_step s at level) in omega arith

  pub enter_content_in : (a z : ℕ) → (enter_at s at level).said ≡ Content a z → (at < a) × (a ≤ z) × (z ≤ length s) × ((enter_at s at level).at ≡ z)
  enter_content_in a z e = let c = step_content (enter_step s at level) e in omega arith

-- ---- the calls on a reader

module _ (r : Reader) where
  pub stepped_refused : (ask : Ask) (k p : ℕ) → (stepped r ask).said ≡ Refused k p → ((stepped r ask).reader ≡ r) × ((k ≡ not_utf8 → ⊥) → p ≡ r.at)
  unfolding stepped
  stepped_refused ask k p e =
      let h = refused_stays r.bytes r.at r.level ask k p e in
      (ap (λ (n : ℕ). reader r.bytes n r.level) h.0, h.1)

  -- refused 7 before the length is read, whatever the bytes are
  pub entered_too_deep : most_levels ≤ r.level → (entered r).said ≡ Refused too_deep r.at
  unfolding entered
  entered_too_deep h = ap (λ (m : Moved). m.said) (enter_too_deep r.bytes r.at r.level h)

  pub entered_refused : (k p : ℕ) → (entered r).said ≡ Refused k p → ((entered r).outer ≡ r) × ((entered r).inner ≡ reader [] 0 r.level) × (p ≡ r.at)
  unfolding entered inner_of
  entered_refused k p e =
      let h = enter_refused r.bytes r.at r.level k p e in
      (ap (λ (n : ℕ). reader r.bytes n r.level) h.0, ap (inner_of r) e, h.1)

  -- the inner reader is over the content, one level up, and the outer one after it
  pub entered_content : (a z : ℕ) → (entered r).said ≡ Content a z
      → ((entered r).inner ≡ reader (part a z r.bytes) 0 (r.level + 1)) × ((entered r).outer ≡ reader r.bytes z r.level)
  unfolding entered inner_of
  entered_content a z e =
      let h = enter_content_in r.bytes r.at r.level a z e in
      (ap (inner_of r) e, ap (λ (n : ℕ). reader r.bytes n r.level) h.3)

-- a reader opens at position 0 and level 0, and over more bytes than may be read not at all
pub opened_long : (s : List ℕ) → limit < length s → opened s ≡ record { number = too_large; reader = reader [] 0 0 }
unfolding opened
opened_long s h = if_so (ltb _ (length s)) _ (λ e. omega (arith, ltb-false _ (length s) e))

pub opened_well : (s : List ℕ) → length s ≤ limit → opened s ≡ record { number = 0; reader = reader s 0 0 }
unfolding opened
opened_well s h = if_not (ltb _ (length s)) _ (λ e. omega (arith, ltb-true _ (length s) e))
