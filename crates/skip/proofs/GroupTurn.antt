-- One iteration of the loop over a group's fields, in plain values. Assumes nothing.
use Prim.Native.Nat.{ℕ, ◌+◌, ◌-◌, ◌%◌, ◌≤◌, ◌<◌}
use native.Mathlib.Omega.{arith}
use mathlib.Core.Path.{◌≡◌, refl, sym, ap, ◌∙◌}
use mathlib.Core.Bool.{Bool, true, false}
use mathlib.Core.List.{List, [], ◌∷◌}
use lib.ListN.{length, drop, length-drop, drop_of_length-le}
use Rattle.spec.specs.Names.{delimited_wire, end_group_wire, fixed32_wire, start_group_wire}
use Rattle.spec.specs.Base.{Read, Took, No}
use Rattle.spec.specs.Varint.{tag}
use Rattle.spec.specs.Skip.{plain, skip_field, skip_group, inner_group}
use Rattle.spec.proofs.VarintLaws.{top}
use Rattle.spec.proofs.SkipLaws.{plain_other, no_group, group_bad_tag, group_closes, group_field_refused, group_goes_on}
use Rattle.wire.proofs.FoundLaws.{Placed}
use Rattle.std.specs.Prelude.{Result, Ok, Err}
use Rattle.spec.specs.Told.{number_of, refusal_of}
use Rattle.spec.specs.declared.refusals.Refusal.{Refusal}
use Rattle.spec.specs.declared.refusals.Refusal.TheVariants.{EndsEarly, NoGroupOpen}
use Rattle.skip.specs.Passed.{behind, at_end}
use Rattle.skip.proofs.PastLaws.{behind_longer, Behind, stands, behind_of, Refuses, refuses, refused_of, refused_behind, tag_placed, drop_to}

-- the place after a group whose fields stand at a position; e is what the end of the bytes means
abbrev pub group_from : Read → ℕ → List ℕ → ℕ → Result ℕ Refusal
group_from e level s at = behind at (skip_group (length (drop at s)) e level (drop at s))

-- The loop that began at `from` is at the byte `at`, and what is to be found is what is found from here.
pub record Here (e : Read) (level : ℕ) (s : List ℕ) (from at : ℕ) : Type 0 where
  pub ahead : from ≤ at
  pub rest : group_from e level s from ≡ group_from e level s at

-- a value was skipped, so its wire type has values: it is no group's, no end of one, and not above those that there are
pub no_value : (at q w : ℕ) (u : List ℕ) → delimited_wire < w → (w ≡ fixed32_wire → ⊥) → Ok q ≡ behind at (plain w u) → ⊥
no_value at q w u above other f =
    let o = plain_other u w (λ e. omega arith) (λ e. omega arith) (λ e. omega arith) other in
    let z : ◌≡◌ {A = ℕ} 0 1 = cc (refused_behind at {k = NoGroupOpen} o) in
    omega arith

module _ {e : Read} {level : ℕ} {s : List ℕ} {from at : ℕ} (h : Here e level s from at) where
  -- no byte is left
  finish : length s ≤ at → behind at e ≡ group_from e level s from
  unfolding skip_group
  finish l = sym (h.rest ∙ ap (λ (u : List ℕ). behind at (skip_group (length u) e level u)) (drop_of_length-le s l))

  -- no tag
  pub refused : (k : Refusal) → at < length s → No (number_of k) ≡ tag (drop at s) → Err k ≡ group_from e level s from
  refused k l r = refused_behind at (go (drop at s) (rw length-drop (omega arith)) (sym r)) ∙ sym h.rest
    where
      go : (u : List ℕ) → 0 < length u → tag u ≡ No (number_of k) → skip_group (length u) e level u ≡ No (number_of k)
      go [] l r = absurd (omega arith)
      go (b ∷ u) l r = group_bad_tag e level b (number_of k) u r

  -- a tag, and the position after it
  module _ (t next : ℕ) (r : Took t (next - at) ≡ tag (drop at s)) where
    pub bounds : Placed (top 4 15) s at t next
    bounds = tag_placed s at t next r

    pub closes : t % 8 ≡ end_group_wire → Ok next ≡ group_from e level s from
    unfolding behind
    closes w =
        let b = bounds in
        let q : at + (next - at) ≡ next = omega arith in
        ap Ok (sym q) ∙ sym (h.rest ∙ ap (behind at) (group_closes e level (drop at s) t (next - at) (sym r) w))

    -- the bytes after the tag, as the laws of a group have them
    behind_tag_lem : drop (next - at) (drop at s) ≡ drop next s
    behind_tag_lem = let b = bounds in drop_to at next s (omega arith)

    -- the field after the tag was skipped
    module _ (w : t % 8 ≡ end_group_wire → ⊥) (p : Result ℕ Refusal) (f : p ≡ behind next (skip_field inner_group level (t % 8) (drop next s))) where
      pub lost : (k : Refusal) → p ≡ Err k → p ≡ group_from e level s from
      unfolding behind
      lost k z = go (skip_field inner_group level (t % 8) (drop next s)) refl (refused_of next k _ (sym z ∙ f))
        where
          go : (x : Read) → skip_field inner_group level (t % 8) (drop next s) ≡ x → Refuses k x → p ≡ group_from e level s from
          go (No j) g (refuses q) =
              z ∙ ap Err (sym q) ∙ sym (h.rest ∙ ap (behind at) (group_field_refused e level (drop at s) t (next - at) j (sym r) w (rw behind_tag_lem g)))
          go (Took v n) g x = elim x [ ]

      pub onward : (q : ℕ) → p ≡ Ok q → (next ≤ q) × Here e level s from q
      onward q z = go (skip_field inner_group level (t % 8) (drop next s)) refl (behind_of next q _ (sym z ∙ f))
        where
          go : (x : Read) → skip_field inner_group level (t % 8) (drop next s) ≡ x → Behind next q x → (next ≤ q) × Here e level s from q
          go (Took v n) g (stands j) =
              let b = bounds in
              let j' : next - at + n ≡ q - at = omega arith in
              let j'' : at + (q - at) ≡ q = omega arith in (
                omega arith,
                record {
                  ahead = omega arith;
                  rest = h.rest
                      ∙ ap (behind at) (group_goes_on e level (drop at s) t (next - at) v n (sym r) w (rw behind_tag_lem g))
                      ∙ behind_longer at (next - at + n) _
                      ∙ rw (j', j'', drop_to at q s (omega arith));
                },
              )
          go (No _) g x4 = elim x4 [ ]

    -- and so was a value that is no group's
    module _ (p : Result ℕ Refusal) (f : p ≡ behind next (plain (t % 8) (drop next s))) where
      pub lost_value : (t % 8 ≡ start_group_wire → ⊥) → (t % 8 ≡ end_group_wire → ⊥) → (k : Refusal) → p ≡ Err k → p ≡ group_from e level s from
      lost_value a b k z = lost b p (f ∙ ap (behind next) (sym (no_group inner_group level (drop next s) (t % 8) a))) k z

      pub value : (q : ℕ) → p ≡ Ok q → (next ≤ q) × Here e level s from q
      value q z =
          let never : delimited_wire < t % 8 → (t % 8 ≡ fixed32_wire → ⊥) → ⊥ = λ a b. no_value next q (t % 8) (drop next s) a b (sym z ∙ f) in
          onward (λ w. never (omega arith) (λ e. omega arith)) p
          (f ∙ ap (behind next) (sym (no_group inner_group level (drop next s) (t % 8) (λ w. never (omega arith) (λ e. omega arith))))) q z

-- the end of the bytes, in the outermost group of an unknown field and in any other
module _ {level : ℕ} {s : List ℕ} {from at : ℕ} {outer : Bool} (h : Here (at_end outer) level s from at) (l : length s ≤ at) where
  pub ends_refused : outer ≡ true → Err EndsEarly ≡ group_from (at_end outer) level s from
  unfolding behind refusal_of
  ends_refused o = ap (λ (b : Bool). behind at (at_end b)) (sym o) ∙ finish h l

  pub ends_closed : outer ≡ false → Ok at ≡ group_from (at_end outer) level s from
  unfolding behind
  ends_closed o = ap Ok (omega arith) ∙ ap (λ (b : Bool). behind at (at_end b)) (sym o) ∙ finish h l
