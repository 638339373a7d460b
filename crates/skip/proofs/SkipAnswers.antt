-- What the skips answer, and that any two answers to a call are equal. Assumes nothing.
use Prim.Native.Nat.{ℕ, zero, suc, ◌+◌, ◌-◌, ◌%◌, ◌≤◌}
use native.Mathlib.Omega.{arith}
use mathlib.Core.Path.{◌≡◌, refl, sym, ap, ◌∙◌}
use mathlib.Core.Bool.{Bool, true, false}
use mathlib.Core.List.{List, [], ◌∷◌}
use lib.ListN.{length, drop, length-drop}
use lib.Dec.{ltb, eqb}
use borrow.Author.Tests.{ltb-false}
use Rattle.spec.specs.Names.{bad_tag, end_group_wire, ends_early, too_large}
use Rattle.std.specs.Prelude.{if◌then◌else◌, Result, Ok, Err}
use Rattle.spec.specs.Base.{limit, Read, Took, No, refusal, taken, longer, ◌>>=◌}
use Rattle.spec.specs.Varint.{good_tag}
use Rattle.spec.specs.Skip.{plain, skip_field, skip_group, inner_group, outer_group, checked, skip_field_for_tag, read_unknown_or_skip_group}
use Rattle.spec.specs.Told.{number_of}
use Rattle.spec.specs.declared.refusals.Refusal.{Refusal}
use Rattle.spec.specs.declared.refusals.Refusal.TheVariants.{EndsEarly}
use Rattle.spec.proofs.Laws.{Takes, took, none, either_way, takes_tag, takes_weaker, takes_next}
use Rattle.spec.proofs.SkipLaws.{takes_skip_field_lem, takes_skip_group_lem, group_step, outer_end, skip_plain}
use Rattle.spec.proofs.ToldLaws.{refusal_of-number, same_refusal}
use Rattle.skip.specs.Passed.{past, behind, skipped_number, skipped_used}
use Rattle.skip.proofs.KnownLaws.{some_number, Known, was_read, refused_by, known_tag, known_field, known_group}
use Rattle.skip.proofs.GroupTurn.{no_value}

-- ---- a group's value is 0, so its answer says all of it

data Bare : Read → Type 0 where
  bare : {n : ℕ} → Bare (Took 0 n)
  refused : (r : Refusal) → Bare (No (number_of r))

bare_longer : (n : ℕ) {r : Read} → Bare r → Bare (longer n r)
unfolding longer
bare_longer n bare = bare
bare_longer n (refused r) = refused r

bare_next : {r : Read} {next : ℕ → ℕ → Read} → Known r → ((v n : ℕ) → Bare (next v n)) → Bare (r >>= next)
unfolding ◌>>=◌
bare_next (was_read {v} {n}) f = bare_longer n (f v n)
bare_next (refused_by r) f = refused r

bare_group : (k : ℕ) {e : Read} → Bare e → (level : ℕ) (s : List ℕ) → Bare (skip_group k e level s)
unfolding skip_group
bare_group zero b level s = b
bare_group (suc k) b level [] = b
bare_group (suc k) b level (x ∷ s) =
    bare_next (known_tag (x ∷ s)) λ t n. either_way Bare (eqb (t % 8) end_group_wire) bare
    (bare_next (known_field _ level (t % 8) (drop n (x ∷ s)) (known_group k was_read (level + 1) (drop n (x ∷ s)))) λ v m. bare_group k b level (drop (n + m) (x ∷ s)))

past_behind : (at : ℕ) {r : Read} → Bare r → past at (behind at r) ≡ r
unfolding behind
past_behind at bare = ap (Took 0) (omega arith)
past_behind at (refused r) = rw (refusal_of-number r) refl

pub past_outer : (at level : ℕ) (s : List ℕ) (p : Result ℕ Refusal) → p ≡ behind at (outer_group level s) → past at p ≡ outer_group level s
past_outer at level s p e = ap (past at) e ∙ past_behind at (bare_group (length s) (refused EndsEarly) level s)

-- ---- the number and the bytes used

-- the same number and the same bytes used
abbrev Says : Read → Result ℕ Refusal → Type 0
Says r x = (skipped_number x ≡ refusal r) × (skipped_used x ≡ taken r)

pub answer_no : (k : Refusal) {r : Read} → r ≡ No (number_of k) → Says r (Err k)
unfolding refusal taken
answer_no k e = rw e (refl, refl)

pub answer_behind : {r : Read} → Known r → (p : Result ℕ Refusal) → p ≡ behind 0 r → Says r p
unfolding refusal taken behind
answer_behind (was_read {v} {n}) p e = rw e (refl, omega arith)
answer_behind (refused_by k) p e = rw (e, refusal_of-number k) (refl, refl)

-- ---- too many bytes, then a bad tag, then what the field says

module _ (t : ℕ) (s : List ℕ) where
  module _ (k : Refusal) (c : No (number_of k) ≡ checked t s (Took 0 0)) where
    refused_first : (r : Read) → checked t s r ≡ No (number_of k)
    refused_first r = go (ltb limit (length s)) (good_tag t) c
      where
        go : (long good : Bool) → No (number_of k) ≡ (if long then No too_large else if good then Took 0 0 else No bad_tag)
            → (if long then No too_large else if good then r else No bad_tag) ≡ No (number_of k)
        go true b e = sym e
        go false false e = sym e
        go false true e = let z : ◌≡◌ {A = ℕ} 0 1 = cc in absurd (omega arith)

    pub checked_skip : (level : ℕ) → skip_field_for_tag t level s ≡ No (number_of k)
    unfolding skip_field_for_tag
    checked_skip level = refused_first _

    pub checked_unknown : (level : ℕ) → read_unknown_or_skip_group t level s ≡ No (number_of k)
    unfolding read_unknown_or_skip_group
    checked_unknown level = refused_first _

  pub checked_good : Took 0 0 ≡ checked t s (Took 0 0) → (length s ≤ limit) × (good_tag t ≡ true)
  checked_good c = go (ltb limit (length s)) (good_tag t) refl refl c
    where
      go : (long good : Bool) → ltb limit (length s) ≡ long → good_tag t ≡ good → Took 0 0 ≡ (if long then No too_large else if good then Took 0 0 else No bad_tag)
          → (length s ≤ limit) × (good_tag t ≡ true)
      go true b p q e = let z : ◌≡◌ {A = ℕ} 0 1 = cc in absurd (omega arith)
      go false false p q e = let z : ◌≡◌ {A = ℕ} 0 1 = cc in absurd (omega arith)
      go false true p q e = (ltb-false limit (length s) p, q)

-- a value that is no group's, after a good tag
pub value_skipped : (t level q : ℕ) (s : List ℕ) → length s ≤ limit → good_tag t ≡ true → Ok q ≡ behind 0 (plain (t % 8) s) → Ok q ≡ behind 0 (skip_field_for_tag t level s)
value_skipped t level q s h g e = e ∙ ap (behind 0) (sym (skip_plain t level s h g (λ w. no_value 0 q (t % 8) s (omega arith) (λ x. omega arith) e)))

-- ---- any two answers are equal

same_skipped : (r : Read) {x y : Result ℕ Refusal} → Says r x → Says r y → x ≡ y
same_skipped r {x} {y} p q = go x y (p.0 ∙ sym q.0) (p.1 ∙ sym q.1)
  where
    go : (x y : Result ℕ Refusal) → skipped_number x ≡ skipped_number y → skipped_used x ≡ skipped_used y → x ≡ y
    go (Ok m) (Ok n) e f = ap Ok f
    go (Ok m) (Err k) e f = absurd (omega (arith, some_number k))
    go (Err j) (Ok n) e f = absurd (omega (arith, some_number j))
    go (Err j) (Err k) e f = ap Err (same_refusal e)

module _ (t level : ℕ) (s : List ℕ) (x y : Result ℕ Refusal) where
  pub one_skip_field_for_tag : Says (skip_field_for_tag t level s) x → Says (skip_field_for_tag t level s) y → x ≡ y
  one_skip_field_for_tag p q = same_skipped _ p q

  pub one_read_unknown_or_skip_group : Says (read_unknown_or_skip_group t level s) x → Says (read_unknown_or_skip_group t level s) y → x ≡ y
  one_read_unknown_or_skip_group p q = same_skipped _ p q

-- the outermost group takes a byte at least, that of the tag which ends it
pub takes_outer : (level : ℕ) (s : List ℕ) → Takes 1 (length s) (outer_group level s)
takes_outer level [] = rw outer_end none
takes_outer level (b ∷ s) =
    rw (group_step (No ends_early) level b s)
    (takes_next (takes_tag (b ∷ s)) λ t n h j.
    either_way (Takes 0 (length (b ∷ s) - n)) (eqb (t % 8) end_group_wire) (took {n = 0} (omega arith) (omega arith))
    (takes_next (takes_weaker (omega arith) (omega (arith, length-drop n (b ∷ s))) (takes_field level (t % 8) (drop n (b ∷ s))))
    λ v m h' j'. takes_weaker (omega arith) (omega (arith, length-drop (n + m) (b ∷ s))) (takes_skip_group_lem (length (drop (n + m) (b ∷ s))) (No ends_early) none level (drop (n + m) (b ∷ s)))))
  where
    takes_field : (l w : ℕ) (u : List ℕ) → Takes 0 (length u) (skip_field inner_group l w u)
    takes_field l w u = takes_skip_field_lem inner_group l w u (takes_skip_group_lem (length u) (Took 0 0) (took {n = 0} (omega arith) (omega arith)) (l + 1) u)

pub one_skip_unknown_group : (at level : ℕ) (s : List ℕ) (x y : Result ℕ Refusal) → past at x ≡ outer_group level s → past at y ≡ outer_group level s → x ≡ y
one_skip_unknown_group at level s x y p q = go x y p q (takes_outer level s)
  where
    go : (x y : Result ℕ Refusal) {r : Read} → past at x ≡ r → past at y ≡ r → Takes 1 (length s) r → x ≡ y
    go (Ok a) (Ok b) p q (took {n = n} h j) = let p' : a - at ≡ n = cc in let q' : b - at ≡ n = cc in ap Ok (omega arith)
    go (Err a) (Err b) p q none = ap Err (same_refusal (cc))
    go (Ok a) y p q none = let z : ◌≡◌ {A = ℕ} 0 1 = cc in absurd (omega arith)
    go (Err a) y p q (took h j) = let z : ◌≡◌ {A = ℕ} 0 1 = cc in absurd (omega arith)
    go (Ok a) (Err b) p q (took h j) = let z : ◌≡◌ {A = ℕ} 0 1 = cc in absurd (omega arith)
    go (Err a) (Ok b) p q none = let z : ◌≡◌ {A = ℕ} 0 1 = cc in absurd (omega arith)
