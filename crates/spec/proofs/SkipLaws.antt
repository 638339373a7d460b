-- Laws of skipping: one for each rule of docs/DEFINITIONS.md, the equations of a group with no count of steps, and that what is skipped lies in the bytes.
-- Assumes nothing.
use Prim.Native.Nat.{ℕ, zero, suc, ◌+◌, ◌-◌, ◌/◌, ◌%◌, ◌≤◌, ◌<◌}
use native.Mathlib.Omega.{arith}
use mathlib.Core.Path.{◌≡◌, refl, sym, ap, ◌∙◌, subst}
use mathlib.Core.Bool.{Bool, true, false, ◌&&◌}
use mathlib.Core.List.{List, [], ◌∷◌}
use lib.ListN.{length, drop, length-drop}
use lib.Dec.{leb, ltb, eqb}
use borrow.Author.Tests.{leb-true, leb-false, le-leb, lt-leb, ltb-true, ltb-false, eqb-true, eqb-false, eq-eqb, ne_eqb}
use Rattle.spec.specs.Names.{bad_tag, delimited_wire, end_group_wire, ends_early, fixed32_wire, fixed64_wire, most_levels, no_group_open, start_group_wire, too_deep, too_large, varint_wire}
use Rattle.std.specs.Prelude.{if◌then◌else◌}
use Rattle.spec.specs.Base.{limit, Read, Took, No, require, longer, ◌>>=◌}
use Rattle.spec.specs.Varint.{varint, varint32, varint64, fixed, tag, good_tag}
use Rattle.spec.specs.Skip.{content, plain, skip_field, skip_group, inner_group, outer_group, checked, skip_field_for_tag, read_unknown_or_skip_group}
use Rattle.spec.proofs.Laws.{either_way, if_so, if_not, by_test, both, both_true, Takes, took, none, takes_weaker, takes_next, takes_tag, takes_plain, next_cong, next_took, next_no, longer_longer}
use Rattle.spec.proofs.VarintLaws.{lower_or_not}

-- ---- a field, by its wire type

module _ (s : List ℕ) where
  pub plain_varint : plain varint_wire s ≡ varint64 s
  unfolding plain
  plain_varint = refl

  pub plain_fixed64 : plain fixed64_wire s ≡ fixed 8 s
  unfolding plain
  plain_fixed64 = refl

  pub plain_bytes : plain delimited_wire s ≡ content varint32 s
  unfolding plain
  plain_bytes = refl

  pub plain_fixed32 : plain fixed32_wire s ≡ fixed 4 s
  unfolding plain
  plain_fixed32 = refl

  pub plain_other : (w : ℕ) → (w ≡ varint_wire → ⊥) → (w ≡ fixed64_wire → ⊥) → (w ≡ delimited_wire → ⊥) → (w ≡ fixed32_wire → ⊥) → plain w s ≡ No no_group_open
  unfolding plain
  plain_other w a b c d = simp (ne_eqb w varint_wire a, ne_eqb w fixed64_wire b, ne_eqb w delimited_wire c, ne_eqb w fixed32_wire d)

-- a group is counted: at level 100 or more it is refused, and below it is entered
module _ (group : ℕ → List ℕ → Read) (level : ℕ) (s : List ℕ) where
  pub group_too_deep : most_levels ≤ level → skip_field group level start_group_wire s ≡ No too_deep
  unfolding skip_field
  group_too_deep h = if_so (leb _ level) _ (λ e. omega (arith, leb-false _ level e))

  pub group_entered : level < most_levels → skip_field group level start_group_wire s ≡ group (level + 1) s
  unfolding skip_field
  group_entered h = if_not (leb _ level) _ (λ e. omega (arith, leb-true _ level e))

  pub no_group : (w : ℕ) → (w ≡ start_group_wire → ⊥) → skip_field group level w s ≡ plain w s
  unfolding skip_field
  no_group w h = simp (ne_eqb w start_group_wire h)

-- ---- what is skipped lies in the bytes

pub takes_skip_field_lem : (group : ℕ → List ℕ → Read) (level w : ℕ) (s : List ℕ) → Takes 0 (length s) (group (level + 1) s)
    → Takes 0 (length s) (skip_field group level w s)
takes_skip_field_lem group level w s t =
    let P : Read → Type 0 = Takes 0 (length s) in
    by_test (eqb w start_group_wire)
    (λ p.
    let e = ap (λ (x : ℕ). skip_field group level x s) (eqb-true w start_group_wire p) in
    lower_or_not level most_levels (λ c. subst P (sym (e ∙ group_entered group level s c)) t) (λ c. subst P (sym (e ∙ group_too_deep group level s c)) none))
    (λ p. subst P (sym (no_group group level s w (eqb-false w start_group_wire p))) (takes_plain w s))

nothing_taken : {most : ℕ} → Takes 0 most (Took 0 0)
nothing_taken = took {n = 0} (omega arith) (omega arith)

pub takes_skip_group_lem : (k : ℕ) (at_end : Read) → Takes 0 0 at_end → (level : ℕ) (s : List ℕ) → Takes 0 (length s) (skip_group k at_end level s)
unfolding skip_group
takes_skip_group_lem zero at_end t level s = takes_weaker (omega arith) (omega arith) t
takes_skip_group_lem (suc k) at_end t level [] = t
takes_skip_group_lem (suc k) at_end t level (b ∷ s) =
    takes_weaker (omega arith) (omega arith) (takes_next (takes_tag (b ∷ s)) λ v n h j.
    either_way (Takes 0 (length (b ∷ s) - n)) (eqb (v % 8) end_group_wire) nothing_taken
    (takes_next (takes_weaker (omega arith) (omega (arith, length-drop n (b ∷ s)))
    (takes_skip_field_lem (λ l u. skip_group k (Took 0 0) l u) level (v % 8) (drop n (b ∷ s))
    (takes_skip_group_lem k (Took 0 0) nothing_taken (level + 1) (drop n (b ∷ s)))))
    λ v' m h' j'. takes_weaker (omega arith) (omega (arith, length-drop (n + m) (b ∷ s))) (takes_skip_group_lem k at_end t level (drop (n + m) (b ∷ s)))))

-- ---- enough steps are enough

skip_field_cong_lem : (p q : ℕ → List ℕ → Read) (level w : ℕ) (s : List ℕ) → p (level + 1) s ≡ q (level + 1) s → skip_field p level w s ≡ skip_field q level w s
unfolding skip_field
skip_field_cong_lem p q level w s e = rw e refl

pub skip_group_enough_lem : (f g : ℕ) (at_end : Read) (level : ℕ) (s : List ℕ) → length s ≤ f → length s ≤ g → skip_group f at_end level s ≡ skip_group g at_end level s
unfolding skip_group
skip_group_enough_lem zero zero at_end level s hf hg = refl
skip_group_enough_lem zero (suc g) at_end level [] hf hg = refl
skip_group_enough_lem (suc f) zero at_end level [] hf hg = refl
skip_group_enough_lem zero (suc g) at_end level (b ∷ s) hf hg = absurd (omega arith)
skip_group_enough_lem (suc f) zero at_end level (b ∷ s) hf hg = absurd (omega arith)
skip_group_enough_lem (suc f) (suc g) at_end level [] hf hg = refl
skip_group_enough_lem (suc f) (suc g) at_end level (b ∷ s) hf hg =
    next_cong (takes_tag (b ∷ s)) λ v n h j.
    ap (λ (r : Read). if eqb (v % 8) end_group_wire then Took 0 0 else r)
    (ap (λ (r : Read). r >>= λ v' m. skip_group f at_end level (drop (n + m) (b ∷ s)))
    (skip_field_cong_lem (λ l u. skip_group f (Took 0 0) l u) (λ l u. skip_group g (Took 0 0) l u) level (v % 8) (drop n (b ∷ s))
    (skip_group_enough_lem f g (Took 0 0) (level + 1) (drop n (b ∷ s)) (omega (arith, length-drop n (b ∷ s))) (omega (arith, length-drop n (b ∷ s)))))
    ∙ next_cong (takes_skip_field_lem (λ l u. skip_group g (Took 0 0) l u) level (v % 8) (drop n (b ∷ s)) (takes_skip_group_lem g (Took 0 0) nothing_taken (level + 1) (drop n (b ∷ s))))
    λ v' m h' j'. skip_group_enough_lem f g at_end level (drop (n + m) (b ∷ s)) (omega (arith, length-drop (n + m) (b ∷ s))) (omega (arith, length-drop (n + m) (b ∷ s))))

-- The equation of a group: what `skip_group` says, with no count. `inner_group` and `outer_group` are it at Took 0 0 and at No 1.
pub group_step : (at_end : Read) (level b : ℕ) (s : List ℕ)
    → skip_group (length (b ∷ s)) at_end level (b ∷ s)
    ≡ (tag (b ∷ s) >>= λ t n.
    if eqb (t % 8) end_group_wire then Took 0 0 else
    (skip_field inner_group level (t % 8) (drop n (b ∷ s)) >>= λ v m.
    skip_group (length (drop (n + m) (b ∷ s))) at_end level (drop (n + m) (b ∷ s))))
unfolding skip_group
group_step at_end level b s =
    next_cong (takes_tag (b ∷ s)) λ v n h j.
    ap (λ (r : Read). if eqb (v % 8) end_group_wire then Took 0 0 else r)
    (ap (λ (r : Read). r >>= λ v' m. skip_group (length s) at_end level (drop (n + m) (b ∷ s)))
    (skip_field_cong_lem (λ l u. skip_group (length s) (Took 0 0) l u) inner_group level (v % 8) (drop n (b ∷ s))
    (skip_group_enough_lem (length s) (length (drop n (b ∷ s))) (Took 0 0) (level + 1) (drop n (b ∷ s)) (omega (arith, length-drop n (b ∷ s))) (omega arith)))
    ∙ next_cong (takes_skip_field_lem inner_group level (v % 8) (drop n (b ∷ s)) (takes_skip_group_lem (length (drop n (b ∷ s))) (Took 0 0) nothing_taken (level + 1) (drop n (b ∷ s))))
    λ v' m h' j'. skip_group_enough_lem (length s) (length (drop (n + m) (b ∷ s))) at_end level (drop (n + m) (b ∷ s)) (omega (arith, length-drop (n + m) (b ∷ s))) (omega arith))

-- ---- a group, by its first tag

-- the end of the bytes closes a counted group, and is refused in the outermost
pub inner_end : (level : ℕ) → inner_group level [] ≡ Took 0 0
unfolding skip_group
inner_end level = refl

pub outer_end : (level : ℕ) → outer_group level [] ≡ No ends_early
unfolding skip_group
outer_end level = refl

pub group_bad_tag : (at_end : Read) (level b k : ℕ) (s : List ℕ) → tag (b ∷ s) ≡ No k → skip_group (length (b ∷ s)) at_end level (b ∷ s) ≡ No k
group_bad_tag at_end level b k s e = group_step at_end level b s ∙ next_no _ e

module _ (at_end : Read) (level : ℕ) where
  -- the field after the tag, and the rest of the group
  abbrev field_and_rest : List ℕ → ℕ → ℕ → Read
  field_and_rest s t n =
      skip_field inner_group level (t % 8) (drop n s) >>= λ v m. skip_group (length (drop (n + m) s)) at_end level (drop (n + m) s)

  group_tag : (s : List ℕ) (t n : ℕ) → tag s ≡ Took t n
      → skip_group (length s) at_end level s ≡ longer n (if eqb (t % 8) end_group_wire then Took 0 0 else field_and_rest s t n)
  unfolding tag varint require
  group_tag [] t n e = let z : ◌≡◌ {A = ℕ} 0 1 = cc in absurd (omega arith)
  group_tag (b ∷ s) t n e = group_step at_end level b s ∙ next_took _ e

  -- any end-group tag closes the group, whatever its number
  pub group_closes : (s : List ℕ) (t n : ℕ) → tag s ≡ Took t n → t % 8 ≡ end_group_wire → skip_group (length s) at_end level s ≡ Took 0 n
  unfolding longer
  group_closes s t n e h =
      group_tag s t n e ∙ ap (λ (b : Bool). longer n (if b then Took 0 0 else field_and_rest s t n)) (eq-eqb (t % 8) end_group_wire h) ∙ ap (Took 0) (omega arith)

  group_field : (s : List ℕ) (t n : ℕ) → tag s ≡ Took t n → (t % 8 ≡ end_group_wire → ⊥) → skip_group (length s) at_end level s ≡ longer n (field_and_rest s t n)
  group_field s t n e h = group_tag s t n e ∙ ap (λ (b : Bool). longer n (if b then Took 0 0 else field_and_rest s t n)) (ne_eqb (t % 8) end_group_wire h)

  -- any other tag's field is skipped, and then the rest of the group
  pub group_field_refused : (s : List ℕ) (t n k : ℕ) → tag s ≡ Took t n → (t % 8 ≡ end_group_wire → ⊥) → skip_field inner_group level (t % 8) (drop n s) ≡ No k
      → skip_group (length s) at_end level s ≡ No k
  unfolding longer
  group_field_refused s t n k e h f = group_field s t n e h ∙ ap (longer n) (next_no _ f)

  pub group_goes_on : (s : List ℕ) (t n v m : ℕ) → tag s ≡ Took t n → (t % 8 ≡ end_group_wire → ⊥) → skip_field inner_group level (t % 8) (drop n s) ≡ Took v m
      → skip_group (length s) at_end level s ≡ longer (n + m) (skip_group (length (drop (n + m) s)) at_end level (drop (n + m) s))
  group_goes_on s t n v m e h f = group_field s t n e h ∙ ap (longer n) (next_took _ f) ∙ longer_longer n m _

-- ---- which tags are good

pub good_tag_lem : (t : ℕ) → t % 8 ≤ fixed32_wire → 1 ≤ t / 8 → good_tag t ≡ true
good_tag_lem t w n = both_true (le-leb (t % 8) fixed32_wire w) (le-leb 1 (t / 8) n)

pub bad_wire : (t : ℕ) → 6 ≤ t % 8 → good_tag t ≡ false
bad_wire t h = simp (lt-leb (t % 8) fixed32_wire (omega arith))

pub bad_number : (t : ℕ) → t / 8 ≡ 0 → good_tag t ≡ false
bad_number t h = ap (λ (b : Bool). leb (t % 8) fixed32_wire && b) (lt-leb 1 (t / 8) (omega arith)) ∙ go (leb (t % 8) fixed32_wire)
  where
    go : (b : Bool) → (b && false) ≡ false
    go true = refl
    go false = refl

-- a tag that was read is a varint32 of a wire type up to 5 and a number from 1 on
pub tag_read : (s : List ℕ) (t n : ℕ) → tag s ≡ Took t n → (varint32 s ≡ Took t n) × (t % 8 ≤ fixed32_wire) × (1 ≤ t / 8)
unfolding tag require
tag_read s t n e = go (varint32 s) e
  where
    go : (r : Read) → require bad_tag good_tag r ≡ Took t n → (r ≡ Took t n) × (t % 8 ≤ fixed32_wire) × (1 ≤ t / 8)
    go (No k) x = let z : ◌≡◌ {A = ℕ} 0 1 = cc in absurd (omega arith)
    go (Took v m) x =
        by_test (good_tag v)
        (λ g.
        let y : Took v m ≡ Took t n = ap (λ (b : Bool). if b then Took v m else No bad_tag) (sym g) ∙ x in
        let z : v ≡ t = cc in
        let h = both (leb (t % 8) fixed32_wire) (leb 1 (t / 8)) (ap good_tag (sym z) ∙ g) in
        (y, leb-true (t % 8) fixed32_wire h.0, leb-true 1 (t / 8) h.1))
        (λ g.
        let y : No bad_tag ≡ Took t n = ap (λ (b : Bool). if b then Took v m else No bad_tag) (sym g) ∙ x in
        let z : ◌≡◌ {A = ℕ} 0 1 = cc in absurd (omega arith))

-- ---- the two calls: 11, then 3, then what the field says

module _ (t : ℕ) (s : List ℕ) where
  pub checked_long : (r : Read) → limit < length s → checked t s r ≡ No too_large
  checked_long r h = if_so (ltb _ (length s)) _ (λ e. omega (arith, ltb-false _ (length s) e))

  pub checked_bad : (r : Read) → length s ≤ limit → good_tag t ≡ false → checked t s r ≡ No bad_tag
  checked_bad r h g = if_not (ltb _ (length s)) _ (λ e. omega (arith, ltb-true _ (length s) e)) ∙ simp g

  pub checked_good : (r : Read) → length s ≤ limit → good_tag t ≡ true → checked t s r ≡ r
  checked_good r h g = if_not (ltb _ (length s)) _ (λ e. omega (arith, ltb-true _ (length s) e)) ∙ simp g

module _ (t level : ℕ) (s : List ℕ) where
  pub skip_long : limit < length s → skip_field_for_tag t level s ≡ No too_large
  unfolding skip_field_for_tag
  skip_long h = checked_long t s (skip_field inner_group level (t % 8) s) h

  pub unknown_long : limit < length s → read_unknown_or_skip_group t level s ≡ No too_large
  unfolding read_unknown_or_skip_group
  unknown_long h = checked_long t s _ h

  module _ (h : length s ≤ limit) where
    pub skip_bad_tag : good_tag t ≡ false → skip_field_for_tag t level s ≡ No bad_tag
    unfolding skip_field_for_tag
    skip_bad_tag g = checked_bad t s _ h g

    pub unknown_bad_tag : good_tag t ≡ false → read_unknown_or_skip_group t level s ≡ No bad_tag
    unfolding read_unknown_or_skip_group
    unknown_bad_tag g = checked_bad t s _ h g

    module _ (g : good_tag t ≡ true) where
      pub skip_field_lem : skip_field_for_tag t level s ≡ skip_field inner_group level (t % 8) s
      unfolding skip_field_for_tag
      skip_field_lem = checked_good t s _ h g

      pub skip_group_lem : t % 8 ≡ start_group_wire → level < most_levels → skip_field_for_tag t level s ≡ inner_group (level + 1) s
      skip_group_lem w l = skip_field_lem ∙ ap (λ (x : ℕ). skip_field inner_group level x s) w ∙ group_entered inner_group level s l

      pub skip_too_deep : t % 8 ≡ start_group_wire → most_levels ≤ level → skip_field_for_tag t level s ≡ No too_deep
      skip_too_deep w l = skip_field_lem ∙ ap (λ (x : ℕ). skip_field inner_group level x s) w ∙ group_too_deep inner_group level s l

      pub skip_plain : (t % 8 ≡ start_group_wire → ⊥) → skip_field_for_tag t level s ≡ plain (t % 8) s
      skip_plain w = skip_field_lem ∙ no_group inner_group level s (t % 8) w

      -- the outermost group is not counted: it is entered from every level
      pub unknown_group : t % 8 ≡ start_group_wire → read_unknown_or_skip_group t level s ≡ outer_group level s
      unfolding read_unknown_or_skip_group
      unknown_group w = checked_good t s _ h g ∙ ap (λ (b : Bool). if b then outer_group level s else plain (t % 8) s) (eq-eqb (t % 8) start_group_wire w)

      pub unknown_plain : (t % 8 ≡ start_group_wire → ⊥) → read_unknown_or_skip_group t level s ≡ plain (t % 8) s
      unfolding read_unknown_or_skip_group
      unknown_plain w = checked_good t s _ h g ∙ ap (λ (b : Bool). if b then outer_group level s else plain (t % 8) s) (ne_eqb (t % 8) start_group_wire w)

      -- an end-group tag closes nothing
      end_refused : t % 8 ≡ end_group_wire → plain (t % 8) s ≡ No no_group_open
      end_refused w = plain_other s (t % 8) (λ e. omega arith) (λ e. omega arith) (λ e. omega arith) (λ e. omega arith)

      pub skip_end : t % 8 ≡ end_group_wire → skip_field_for_tag t level s ≡ No no_group_open
      skip_end w = skip_plain (λ e. omega arith) ∙ end_refused w

      pub unknown_end : t % 8 ≡ end_group_wire → read_unknown_or_skip_group t level s ≡ No no_group_open
      unknown_end w = unknown_plain (λ e. omega arith) ∙ end_refused w

-- and what is skipped lies in the bytes
pub takes_skip_field_for_tag_lem : (t level : ℕ) (s : List ℕ) → Takes 0 (length s) (skip_field_for_tag t level s)
unfolding skip_field_for_tag
takes_skip_field_for_tag_lem t level s =
    let P : Read → Type 0 = Takes 0 (length s) in
    either_way P (ltb limit (length s)) none
    (either_way P (good_tag t) (takes_skip_field_lem inner_group level (t % 8) s (takes_skip_group_lem (length s) (Took 0 0) nothing_taken (level + 1) s)) none)
