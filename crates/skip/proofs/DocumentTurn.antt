-- One iteration of the two loops of the document check, in plain values. Assumes nothing.
use Prim.Native.Nat.{ℕ, ◌+◌, ◌-◌, ◌/◌, ◌%◌, ◌≤◌, ◌<◌}
use native.Mathlib.Omega.{arith}
use mathlib.Core.Path.{◌≡◌, refl, sym, ap, ◌∙◌}
use mathlib.Core.Bool.{Bool, true, false}
use native.Mathlib.Decide.{dec_le}
use mathlib.Core.List.{List, [], ◌∷◌}
use lib.ListN.{length, drop, length-drop, drop_of_length-le}
use lib.Dec.{eqb}
use borrow.Author.Tests.{le-leb, lt-leb, le-ltb, eq-eqb, ne_eqb, eqb-true, eqb-false}
use Rattle.spec.specs.Names.{bad_tag, delimited_wire, end_group_wire, fixed32_wire, most_levels, start_group_wire}
use Rattle.spec.specs.Base.{limit, Read, Took, No, longer}
use Rattle.spec.specs.Varint.{varint32, good_tag, tag}
use Rattle.spec.specs.Skip.{plain}
use Rattle.spec.specs.Document.{Step, Go, Stop, passed, step, go_on, is_nil, is_run, is_document}
use Rattle.spec.proofs.VarintLaws.{top}
use Rattle.spec.proofs.SkipLaws.{good_tag_lem, bad_wire, bad_number}
use Rattle.spec.proofs.DocumentLaws.{walk, walk_step, step_start, step_end, step_other, step_none, step_value}
use Rattle.wire.specs.Answers.{value_at}
use Rattle.wire.proofs.FoundLaws.{Placed, varint_placed}
use Rattle.std.specs.Prelude.{Ok, Err}
use Rattle.spec.specs.declared.refusals.Refusal.{Refusal}
use Rattle.skip.specs.Passed.{behind}
use Rattle.std.proofs.lemmas.List.{reverse-append, length-reverse}
use Rattle.std.specs.Prelude.{reverse, ◌++◌}
use Rattle.skip.proofs.PastLaws.{Behind, stands, behind_of, Refuses, refuses, refused_of, tag_refused, tag_good, tag_bad, tag_placed, drop_to}
use Rattle.skip.proofs.GroupTurn.{no_value}

-- ---- one iteration: what is said of all the bytes is what is said from the byte `at` on, with the groups o open

-- what the walk says of all the bytes
abbrev pub run : List ℕ → Bool
run s = walk [] s

pub record From (said : Bool) (s o : List ℕ) (at : ℕ) : Type 0 where
  pub says : said ≡ walk o (drop at s)

module _ {said : Bool} {s o : List ℕ} {at : ℕ} (h : From said s o at) where
  -- no byte is left
  pub no_more : length s ≤ at → is_nil o ≡ said
  unfolding is_run
  no_more l = sym (h.says ∙ ap (walk o) (drop_of_length-le s l))

  -- no tag
  no_tag : (k : ℕ) → at < length s → tag (drop at s) ≡ No k → false ≡ said
  unfolding is_run step go_on
  no_tag k l e = sym (h.says ∙ go (drop at s) (rw length-drop (omega arith)) e)
    where
      go : (u : List ℕ) → 0 < length u → tag u ≡ No k → walk o u ≡ false
      go [] l e = absurd (omega arith)
      go (b ∷ u) l e = rw e refl

  pub bad_varint_lem : (k : ℕ) → at < length s → No k ≡ varint32 (drop at s) → false ≡ said
  bad_varint_lem k l r = no_tag k l (tag_refused (drop at s) (sym r))

  -- a tag, and the position after it
  module _ (t next : ℕ) (r : Took t (next - at) ≡ tag (drop at s)) where
    behind_tag_lem : drop (next - at) (drop at s) ≡ drop next s
    behind_tag_lem = let b = tag_placed s at t next r in drop_to at next s (omega arith)

    turned : (x : Step) → step o (drop at s) (Took t (next - at)) ≡ x → said ≡ go_on x (λ p m. walk p (drop m (drop at s)))
    turned x e = h.says ∙ walk_step o (drop at s) t (next - at) (sym r) ∙ ap (λ (y : Step). go_on y (λ p m. walk p (drop m (drop at s)))) e

    stopped : step o (drop at s) (Took t (next - at)) ≡ Stop → false ≡ said
    unfolding go_on
    stopped e = sym (turned Stop e)

    -- a start-group tag: it opens a group, where fewer than `most_levels` are open
    pub opens : t % 8 ≡ start_group_wire → length o < most_levels → From said s (t / 8 ∷ o) next
    unfolding go_on
    opens w l = record { says = turned _ (step_start o [] (drop at s) t (next - at) w l) ∙ ap (walk (t / 8 ∷ o)) behind_tag_lem }

    too_many : t % 8 ≡ start_group_wire → most_levels ≤ length o → false ≡ said
    unfolding step
    too_many w l = stopped (rw (eq-eqb (t % 8) start_group_wire w, le-ltb (length o) most_levels l) refl)

    -- an end-group tag: it closes the innermost group, where one is open and has its number
    module _ (w : t % 8 ≡ end_group_wire) where
      none_open : o ≡ [] → false ≡ said
      none_open z = stopped (rw z (step_none [] [] (drop at s) t (next - at) w))

      module _ (y : ℕ) (p : List ℕ) (inner : o ≡ y ∷ p) where
        closes : t / 8 ≡ y → From said s p next
        unfolding go_on
        closes same = record { says = turned (Go p (next - at)) (rw inner (step_end p [] (drop at s) y t (next - at) w same)) ∙ ap (walk p) behind_tag_lem }

        other_number : (t / 8 ≡ y → ⊥) → false ≡ said
        other_number differs = stopped (rw inner (step_other p [] (drop at s) y t (next - at) w differs))

    -- a value that is no group's
    valued : (x : Read) → (t % 8 ≡ start_group_wire → ⊥) → (t % 8 ≡ end_group_wire → ⊥) → plain (t % 8) (drop next s) ≡ x
        → step o (drop at s) (Took t (next - at)) ≡ passed o (longer (next - at) x)
    valued x a b e =
        step_value o [] (drop at s) t (next - at) a b
        ∙ ap (λ (u : List ℕ). passed o (longer (next - at) (plain (t % 8) u))) behind_tag_lem
        ∙ ap (λ (y : Read). passed o (longer (next - at) y)) e

    value : (q : ℕ) → Ok q ≡ behind next (plain (t % 8) (drop next s)) → (next ≤ q) × From said s o q
    unfolding passed longer go_on
    value q f = go (plain (t % 8) (drop next s)) refl (behind_of next q _ f)
      where
        never : delimited_wire < t % 8 → (t % 8 ≡ fixed32_wire → ⊥) → ⊥
        never a b = no_value next q (t % 8) (drop next s) a b f

        go : (x : Read) → plain (t % 8) (drop next s) ≡ x → Behind next q x → (next ≤ q) × From said s o q
        go (Took v m) e (stands p) =
            let b = tag_placed s at t next r in
            let p' : next - at + m ≡ q - at = omega arith in (
              omega arith,
              record {
                says = turned _ (valued (Took v m) (λ w. never (omega arith) (λ x. omega arith)) (λ w. never (omega arith) (λ x. omega arith)) e)
                    ∙ rw (p', drop_to at q s (omega arith));
              },
            )
        go (No _) e x4 = elim x4 [ ]

    lost : (k : Refusal) → (t % 8 ≡ start_group_wire → ⊥) → (t % 8 ≡ end_group_wire → ⊥) → Err k ≡ behind next (plain (t % 8) (drop next s)) → false ≡ said
    unfolding passed longer
    lost k a b f = go (plain (t % 8) (drop next s)) refl (refused_of next k _ f)
      where
        go : (x : Read) → plain (t % 8) (drop next s) ≡ x → Refuses k x → false ≡ said
        go (No j) e (refuses q) = stopped (valued (No j) a b e)
        go (Took v n) e x = elim x [ ]

  -- a tag as it stands, of which number and wire type are still to be judged
  module _ (t next : ℕ) (r : Took t (next - at) ≡ varint32 (drop at s)) where
    pub bounds : Placed (top 4 15) s at t next
    bounds = varint_placed 4 15 s at {f = value_at t next} r refl

    unfit : good_tag t ≡ false → false ≡ said
    unfit g = let b = bounds in no_tag bad_tag (omega arith) (tag_bad (drop at s) (sym r) g)

    pub no_number : t < 8 → false ≡ said
    no_number l = unfit (bad_number t (omega arith))

    module _ (numbered : 8 ≤ t) where
      pub judged : t % 8 ≤ fixed32_wire → Took t (next - at) ≡ tag (drop at s)
      judged w = sym (tag_good (drop at s) (sym r) (good_tag_lem t w (omega arith)))

      -- a wire type above those that there are has no value, and a value that is not found is refused as the tag is
      pub value_of : (q : ℕ) → Ok q ≡ behind next (plain (t % 8) (drop next s)) → (next ≤ q) × From said s o q
      value_of q f =
          elim (dec_le (t % 8) fixed32_wire) [
            | yes w ↦ value t next (judged w) q f
            | no w ↦ absurd (no_value next q (t % 8) (drop next s) (omega arith) (λ x. omega arith) f)
          ]

      pub no_value_of : (k : Refusal) → (t % 8 ≡ start_group_wire → ⊥) → (t % 8 ≡ end_group_wire → ⊥) → Err k ≡ behind next (plain (t % 8) (drop next s)) → false ≡ said
      no_value_of k a b f =
          elim (dec_le (t % 8) fixed32_wire) [
            | yes w ↦ lost t next (judged w) k a b f
            | no w ↦ unfit (bad_wire t (omega arith))
          ]

      -- the same where no group is open: an end-group tag is no value either
      pub none_outside : (k : Refusal) → o ≡ [] → (t % 8 ≡ start_group_wire → ⊥) → Err k ≡ behind next (plain (t % 8) (drop next s)) → false ≡ said
      none_outside k z a f = go (eqb (t % 8) end_group_wire) refl
        where
          go : (b : Bool) → eqb (t % 8) end_group_wire ≡ b → false ≡ said
          go true e = let w : t % 8 ≡ end_group_wire = eqb-true (t % 8) end_group_wire e in none_open t next (judged (omega arith)) w z
          go false e = no_value_of k a (eqb-false (t % 8) end_group_wire e) f

-- ---- the loop with groups: the numbers are those of the open groups, the last opened last

module _ {said : Bool} {s : List ℕ} (numbers : List ℕ) {at : ℕ} (h : From said s (reverse numbers) at) where
  pub finish : length s ≤ at → eqb (length numbers) 0 ≡ said
  finish l = ap (λ (n : ℕ). eqb n 0) (sym (length-reverse numbers)) ∙ go (reverse numbers) ∙ no_more h l
    where
      go : (o : List ℕ) → eqb (length o) 0 ≡ is_nil o
      go [] = refl
      go (x ∷ o) = ne_eqb (length (x ∷ o)) 0 (λ e. omega arith)

  module _ (t next : ℕ) (raw : Took t (next - at) ≡ varint32 (drop at s)) (numbered : 8 ≤ t) where
    good : t % 8 ≤ fixed32_wire → Took t (next - at) ≡ tag (drop at s)
    good = judged h t next raw numbered

    pub stores : t % 8 ≡ start_group_wire → length numbers < most_levels → {more : List ℕ} → more ≡ numbers ++ t / 8 ∷ [] → From said s (reverse more) next
    stores w l e =
        rw (e, reverse-append numbers (t / 8 ∷ [])) (opens h t next (good (omega arith)) w (rw length-reverse l))

    pub full : t % 8 ≡ start_group_wire → most_levels ≤ length numbers → false ≡ said
    full w l = too_many h t next (good (omega arith)) w (rw length-reverse l)

    module _ (w : t % 8 ≡ end_group_wire) where
      pub nothing_open : length numbers ≡ 0 → false ≡ said
      nothing_open z = none_open h t next (good (omega arith)) w (none (reverse numbers) (length-reverse numbers ∙ z))
        where
          none : (o : List ℕ) → length o ≡ 0 → o ≡ []
          none [] e = refl
          none (x ∷ o) e = absurd (omega arith)

      module _ (y : ℕ) (rest : List ℕ) (e : numbers ≡ rest ++ y ∷ []) where
        last_first : reverse numbers ≡ y ∷ reverse rest
        last_first = ap reverse e ∙ reverse-append rest (y ∷ [])

        pub takes_off : t / 8 ≡ y → From said s (reverse rest) next
        takes_off same = closes h t next (good (omega arith)) w y (reverse rest) last_first same

        pub other_stored : (t / 8 ≡ y → ⊥) → false ≡ said
        other_stored differs = other_number h t next (good (omega arith)) w y (reverse rest) last_first differs

-- ---- the check is the run, of input that is not above the size limit

module _ (s : List ℕ) where
  pub too_long : limit < length s → false ≡ is_document s
  unfolding is_document
  too_long h = rw (lt-leb (length s) limit h) refl

  pub short_enough : length s ≤ limit → run s ≡ is_document s
  unfolding is_document
  short_enough h = rw (le-leb (length s) limit h) refl
