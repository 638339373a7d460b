-- Laws of the tables: those of a valid schema say of each tag what the schema says. Assumes nothing.
use Prim.Native.Nat.{ℕ, ◌+◌, ◌*◌, ◌/◌, ◌%◌, ◌^◌, ◌≤◌, ◌<◌, min}
use native.Mathlib.Omega.{arith}
use mathlib.Core.Path.{◌≡◌, refl, sym, ap, ap₂, ◌∙◌, subst}
use mathlib.Core.Bool.{Bool, true, false, not, ◌&&◌, false≢true, and-false}
use mathlib.Core.List.{List}
use mathlib.Core.Option.{Option, none, some}
use lib.ListN.{length, get_or, replicate, length-replicate, get_or-replicate, get_or-eq_default}
use lib.Dec.{eqb}
use borrow.Author.Tests.{eq-eqb, ne_eqb, eqb-true, eqb-false}
use Rattle.spec.specs.Names.{delimited_wire, fixed32_wire, group_kind, message_kind, packed_head, most_entries, most_types, own_kinds, sint64_kind, unknown_varint}
use Rattle.std.specs.Prelude.{if◌then◌else◌}
use Rattle.spec.specs.Kind.{Scalar, one, kind_wires, own_wires, wires, wire, shapes, shape, is_scalar}
use Rattle.spec.specs.Schema.{Schema, bad_schema, no_entry, lookup, place_of, unknown_kind, kind_of, Says, says_of, says, bit}
use Rattle.spec.proofs.Laws.{either_way, chosen, both, both_true, by_test}
use Rattle.spec.proofs.VarintLaws.{lower_or_not}
use Rattle.spec.proofs.FieldLaws.{kind_typed, kind_packed, kind_unknown, kind_lacking}
use Rattle.spec.proofs.ListLaws.{scalar_shape}
use Rattle.spec.proofs.SchemaLaws.{schema_kinds, Is, Before, type_before, number_before, Good, good_entry_lem, at, place_found, place_none, valid_types, valid_count, valid_good, valid_found}
use Rattle.spec.specs.declared.Entry.{Entry}
use Rattle.spec.proofs.Below.{equal_below}
use Rattle.schema.specs.Layout.{info_length, inners_at, key_count, kinds_at, may_pack, not_found, owner_unit, no_key}
use Rattle.schema.proofs.SearchLaws.{Keyed, placed_or, search_place}
use Rattle.schema.proofs.MakingLaws.{wire_below}
use Rattle.schema.proofs.StoredLaws.{length_keys, keys_at, keys_else, kinds_at_lem, inners_at_lem}
use Rattle.schema.specs.Search.{seek}
use Rattle.schema.specs.Tables.{up_to, sound_of, key_of, inner_of, keys_of, info_of, key_at, entry_for, unknown, typed, table_says}
use Rattle.schema.proofs.AskingLaws.{guessed, Near, near_or_not, entry_guessed, entry_searched, typed_same, typed_packed, typed_else, says_typed, says_unknown}

-- each kind of descriptor.proto is one number exactly when its wire type is not 2
kind_test : (k : ℕ) → k ≤ sint64_kind → bit (is_scalar (shape k)) ≡ bit (not (eqb (wire k) delimited_wire) && not (eqb k 0) && not (eqb k group_kind))
unfolding kind_wires own_wires wires wire shapes shape is_scalar
kind_test k h =
    equal_below (λ n. bit (is_scalar (shape n))) (λ n. bit (not (eqb (wire n) delimited_wire) && not (eqb n 0) && not (eqb n group_kind))) own_kinds k tt (omega arith)

bit_once : (a b : Bool) → bit a ≡ bit b → a ≡ b
bit_once true true e = refl
bit_once true false e = absurd (omega arith)
bit_once false true e = absurd (omega arith)
bit_once false false e = refl

scalar_kind : {types : ℕ} {e : Entry} → Good types e → is_scalar (shape e.kind) ≡ not (eqb (wire e.kind) delimited_wire)
scalar_kind {types} {e} g =
    bit_once (is_scalar (shape e.kind)) (not (eqb (wire e.kind) delimited_wire) && not (eqb e.kind 0) && not (eqb e.kind group_kind)) (kind_test e.kind g.kind_to)
    ∙ ap₂ (λ (a b : Bool). not (eqb (wire e.kind) delimited_wire) && not a && not b) (ne_eqb e.kind 0 (λ z. omega (arith, g.kind_from))) (ne_eqb e.kind group_kind g.no_group)
    ∙ go (not (eqb (wire e.kind) delimited_wire))
  where
    go : (b : Bool) → (b && true && true) ≡ b
    go true = refl
    go false = refl

-- what an entry says of a kind that its field is read as
abbrev saying : ℕ → ℕ → Says
saying k i = record { kind = k; inner = i }

abbrev inner_for : Entry → ℕ → ℕ
inner_for e k = if eqb k packed_head then e.kind else if eqb k message_kind then e.child else 0

says_kind : (e : Entry) (w : ℕ) {k : ℕ} → kind_of e w ≡ k → says_of e w ≡ saying k (inner_for e k)
unfolding says_of
says_kind e w h = ap (λ (k : ℕ). saying k (inner_for e k)) h

-- an unknown kind has nothing in it
unknown_from : (w : ℕ) → w ≤ fixed32_wire → unknown_varint ≤ unknown_kind w
unfolding unknown_kind
unknown_from w h =
    let m : min unknown_varint (unknown_kind w) ≡ unknown_varint = equal_below (λ n. min unknown_varint (unknown_kind n)) (λ n. unknown_varint) (fixed32_wire + 1) w tt (omega arith) in
    omega arith

unknown_inner : (e : Entry) (w : ℕ) → w ≤ fixed32_wire → inner_for e (unknown_kind w) ≡ 0
unknown_inner e w h =
    let u = unknown_from w h in
    simp (ne_eqb (unknown_kind w) packed_head (λ z. omega arith), ne_eqb (unknown_kind w) message_kind (λ z. omega arith))

says_unknown_kind : (e : Entry) (t : ℕ) → t % 8 ≤ fixed32_wire → kind_of e (t % 8) ≡ unknown_kind (t % 8) → unknown t ≡ says_of e (t % 8)
says_unknown_kind e t h k = sym (says_kind e (t % 8) k ∙ ap (saying (unknown_kind (t % 8))) (unknown_inner e (t % 8) h))

-- what is in a good entry's field
module _ {types : ℕ} {e : Entry} (g : Good types e) (small : types ≤ most_types) where
  inner_typed : (if eqb e.kind message_kind then inner_of e else 0) ≡ inner_for e e.kind
  unfolding kind_wires own_wires wires wire
  inner_typed =
      let k = g.kind_to in
      by_test (eqb e.kind message_kind)
      (λ p. let delimited : wire e.kind ≡ delimited_wire = ap wire (eqb-true e.kind message_kind p) in
      simp (p, ne_eqb e.kind packed_head (λ z. omega arith), delimited, and-false e.repeated))
      (λ p. simp (p, ne_eqb e.kind packed_head (λ z. omega arith)))

  inner_packed : e.repeated ≡ true → is_scalar (shape e.kind) ≡ true → inner_of e ≡ may_pack
  inner_packed r s = ap (λ (b : Bool). if b then may_pack else e.child) (both_true r (sym (scalar_kind g) ∙ s))

  packed_inner : inner_of e ≡ may_pack → (e.repeated ≡ true) × (is_scalar (shape e.kind) ≡ true)
  packed_inner h =
      by_test (e.repeated && not (eqb (wire e.kind) delimited_wire))
      (λ p. let b = both e.repeated (not (eqb (wire e.kind) delimited_wire)) p in (b.0, scalar_kind g ∙ b.1))
      (λ p. let c : e.child ≡ may_pack = sym (ap (λ (b : Bool). if b then may_pack else e.child) p) ∙ h in
      by_test (eqb e.kind message_kind)
      (λ q. let l = g.message_child (eqb-true e.kind message_kind q) in absurd (omega arith))
      (λ q. let l = g.no_child (eqb-false e.kind message_kind q) in absurd (omega arith)))

-- a key without its wire type stands to that of a tag as the entry to the tag's type and number
keyed_row : (type t : ℕ) {types : ℕ} {e : Entry} {x : ℕ} → Good types e → x ≡ key_of e → t < 2 ^ 32 → Keyed type (t / 8) ((type * owner_unit + t) / 8) e (x / 8)
keyed_row type t {types} {e} {x} g is l =
    record { same = λ i. omega (arith, low); only = λ p. (omega (arith, low), omega (arith, low)); under = below; over = above }
  where
    low : wire e.kind < 8
    low = wire_below e.kind g.kind_to

    below : Before e.owner e.number type (t / 8) → x / 8 < (type * owner_unit + t) / 8
    below (type_before h) = omega (arith, low, g.number_to)
    below (number_before p h) = omega (arith, low, g.number_to)

    above : Before type (t / 8) e.owner e.number → (type * owner_unit + t) / 8 < x / 8
    above (type_before h) = omega (arith, low, g.number_to)
    above (number_before p h) = omega (arith, low, g.number_to)

-- all entries of a valid schema are in its tables
sound_valid : (sch : Schema) → bad_schema sch ≡ none → sound_of sch ≡ sch.entries
unfolding sound_of
sound_valid sch valid = ap (λ (bad : Option ℕ). up_to bad sch.entries) valid

-- The tables of a valid schema.
module _ (sch : Schema) (valid : bad_schema sch ≡ none) where
  abbrev keys : List ℕ
  keys = keys_of sch

  abbrev info : List ℕ
  info = info_of sch

  good_at : (i : ℕ) → i < length sch.entries → Good sch.types (at sch i)
  good_at i l = good_entry_lem sch.types (at sch i) (valid_good sch valid i l)

  few : length sch.entries ≤ most_entries
  few = valid_count sch valid

  small : sch.types ≤ most_types
  small = (valid_types sch valid).1

  -- at the place of an entry stands its key
  pub key_at_lem : (i : ℕ) → i < length sch.entries → get_or (keys_of sch) i 0 ≡ key_of (at sch i)
  unfolding keys_of
  key_at_lem i l =
      let n = length-replicate {A = ℕ} key_count no_key in
      rw (sound_valid sch valid) (keys_at sch.entries (replicate key_count no_key) few (omega arith) i l)

  -- at a place that no entry has stands the key that no tag has
  pub key_else : (i : ℕ) → length sch.entries ≤ i → i < key_count → get_or (keys_of sch) i 0 ≡ no_key
  unfolding keys_of
  key_else i l u =
      let n = length-replicate {A = ℕ} key_count no_key in
      rw (sound_valid sch valid) (keys_else sch.entries (replicate key_count no_key) few (omega arith) i l u) ∙ get_or-replicate key_count i no_key 0 u

  keys_length : length keys ≡ key_count
  unfolding keys_of
  keys_length = length_keys (sound_of sch) (replicate key_count no_key) ∙ length-replicate key_count no_key

  owned_at : (k : ℕ) → k < length sch.entries → (at sch k).owner < most_types
  owned_at k u = let o = (good_at k u).owned in omega (arith, small)

  kind_at : (i : ℕ) → i < length sch.entries → get_or info (kinds_at + i) 0 ≡ (at sch i).kind
  unfolding info_of
  kind_at i l =
      let n = length-replicate {A = ℕ} info_length 0 in
      rw (sound_valid sch valid) (kinds_at_lem sch.entries (replicate info_length 0) few (omega arith) owned_at i l)

  inner_at : (i : ℕ) → i < length sch.entries → get_or info (inners_at + i) 0 ≡ inner_of (at sch i)
  unfolding info_of
  inner_at i l =
      let n = length-replicate {A = ℕ} info_length 0 in
      rw (sound_valid sch valid) (inners_at_lem sch.entries (replicate info_length 0) few (omega arith) owned_at i l)

  -- a key that a tag of these types has is an entry's
  key_within : (i key : ℕ) → get_or keys i 0 ≡ key → 0 < key → key < no_key → i < length sch.entries
  key_within i key p a b =
      lower_or_not i (length sch.entries) (λ l. l)
      (λ l. lower_or_not i key_count
      (λ u. absurd (omega (arith, key_else i l u)))
      (λ u. absurd (omega (arith, get_or-eq_default keys 0 {n = i} (omega (arith, keys_length))))))

  module _ (type t : ℕ) (typed-below : type < most_types) (numbered : 1 ≤ t / 8) (tag_below : t < 2 ^ 32) where
    searched : seek key_count (key_at keys) not_found ((type * owner_unit + t) / 8) 0 key_count ≡ placed_or not_found (place_of 0 sch.entries type (t / 8))
    searched =
        search_place sch valid (key_at keys) key_count type (t / 8) ((type * owner_unit + t) / 8) few
        (λ i l. keyed_row type t (good_at i l) (key_at_lem i l) tag_below)
        (λ i l u. omega (arith, key_else i l u))

    guess_right : Near keys info type t → guessed info type t ≡ placed_or not_found (place_of 0 sch.entries type (t / 8))
    guess_right r =
        let i : ℕ = guessed info type t in
        let l = key_within i (get_or keys i 0) refl (omega (arith, r.2)) (omega (arith, r.2)) in
        let k : key_of (at sch i) / 8 ≡ (type * owner_unit + t) / 8 = ap (λ (x : ℕ). x / 8) (sym (key_at_lem i l)) ∙ r.2 in
        let g = good_at i l in
        let w = wire_below (at sch i).kind g.kind_to in
        let n = g.number_to in
        sym (ap (placed_or not_found) (valid_found sch valid type (t / 8) i l (omega arith, omega arith)).1)

    entry_place : entry_for keys info type t ≡ placed_or not_found (place_of 0 sch.entries type (t / 8))
    entry_place =
        near_or_not keys info type t
        (λ r. entry_guessed keys info type t r ∙ guess_right r)
        (λ r. entry_searched keys info type t r ∙ searched)

    module _ (wired : t % 8 ≤ fixed32_wire) (i : ℕ) (l : i < length sch.entries) (is : Is type (t / 8) (at sch i)) where
      abbrev Typed : Type 0
      Typed = typed keys info i (type * owner_unit + t) t ≡ says_of (at sch i) (t % 8)

      key_says : (t % 8 ≡ wire (at sch i).kind → ⊥) → get_or keys i 0 ≡ type * owner_unit + t → ⊥
      key_says n p = n (let k = key_at_lem i l in omega (arith, wire_below (at sch i).kind (good_at i l).kind_to))

      typed_own : t % 8 ≡ wire (at sch i).kind → Typed
      typed_own q =
          typed_same keys info i (type * owner_unit + t) t (key_at_lem i l ∙ omega arith)
          ∙ ap₂ (λ (k x : ℕ). saying k (if eqb k message_kind then x else 0)) (kind_at i l) (inner_at i l)
          ∙ ap (saying (at sch i).kind) (inner_typed (good_at i l) small)
          ∙ sym (says_kind (at sch i) (t % 8) (kind_typed (at sch i) (t % 8) q))

      module _ (n : t % 8 ≡ wire (at sch i).kind → ⊥) where
        typed_run : ((at sch i).repeated ≡ true) × (is_scalar (shape (at sch i).kind) ≡ true) × (t % 8 ≡ delimited_wire) → Typed
        typed_run h =
            typed_packed keys info i (type * owner_unit + t) t (key_says n) h.2 (inner_at i l ∙ inner_packed (good_at i l) small h.0 h.1)
            ∙ ap (saying packed_head) (kind_at i l)
            ∙ sym (says_kind (at sch i) (t % 8) (ap (kind_of (at sch i)) h.2 ∙ kind_packed (at sch i) h.0 h.1))

        typed_unknown : ((at sch i).repeated && is_scalar (shape (at sch i).kind) && eqb (t % 8) delimited_wire) ≡ false → Typed
        typed_unknown p =
            typed_else keys info i (type * owner_unit + t) t (key_says n)
            (λ h. let b = packed_inner (good_at i l) small (sym (inner_at i l) ∙ h.1) in false≢true (sym p ∙ both_true (both_true b.0 b.1) (eq-eqb (t % 8) delimited_wire h.0)))
            ∙ says_unknown_kind (at sch i) t wired (kind_unknown (at sch i) (t % 8) n p)

      typed_entry : Typed
      typed_entry =
          by_test (eqb (t % 8) (wire (at sch i).kind))
          (λ q. typed_own (eqb-true (t % 8) (wire (at sch i).kind) q))
          (λ q. let n = eqb-false (t % 8) (wire (at sch i).kind) q in
          by_test ((at sch i).repeated && is_scalar (shape (at sch i).kind) && eqb (t % 8) delimited_wire)
          (λ p. let a = both ((at sch i).repeated && is_scalar (shape (at sch i).kind)) (eqb (t % 8) delimited_wire) p in
          let b = both (at sch i).repeated (is_scalar (shape (at sch i).kind)) a.0 in
          typed_run n (b.0, b.1, eqb-true (t % 8) delimited_wire a.1))
          (λ p. typed_unknown n p))

    -- they say what the schema says
    pub table_says_lem : t % 8 ≤ fixed32_wire → table_says (keys_of sch) (info_of sch) type t ≡ says sch type t
    unfolding says
    table_says_lem wired = go (place_of 0 sch.entries type (t / 8)) refl
      where
        go : (p : Option ℕ) → place_of 0 sch.entries type (t / 8) ≡ p → table_says keys info type t ≡ says_of (lookup sch.entries type (t / 8)) (t % 8)
        go none p =
            says_unknown keys info type t {i = not_found} (sym (entry_place ∙ ap (placed_or not_found) p)) (omega arith)
            ∙ says_unknown_kind no_entry t wired (kind_lacking no_entry (t % 8) refl wired)
            ∙ ap (λ (x : Entry). says_of x (t % 8)) (sym (place_none sch.entries type (t / 8) p))
        go (some i) p =
            let f = place_found sch.entries type (t / 8) i p in
            says_typed keys info type t {i = i} (sym (entry_place ∙ ap (placed_or not_found) p)) (omega (arith, few, f.0))
            ∙ typed_entry wired i f.0 f.2
            ∙ ap (λ (x : Entry). says_of x (t % 8)) (sym f.1)

-- ---- what is said is in range

-- the ways in which a field of an entry is read
data ReadAs (e : Entry) (w : ℕ) : ℕ → Type 0 where
  as_typed : ReadAs e w e.kind
  as_packed : is_scalar (shape e.kind) ≡ true → ReadAs e w packed_head
  as_unknown : ReadAs e w (unknown_kind w)

read_as : (e : Entry) (w : ℕ) → ReadAs e w (kind_of e w)
unfolding kind_of
read_as e w =
    either_way (ReadAs e w) (eqb w (wire e.kind)) as_typed
    (chosen (ReadAs e w) (e.repeated && is_scalar (shape e.kind) && eqb w delimited_wire)
    (λ p. as_packed (both e.repeated (is_scalar (shape e.kind)) (both (e.repeated && is_scalar (shape e.kind)) (eqb w delimited_wire) p).0).1)
    (λ p. as_unknown))

module _ (sch : Schema) (valid : bad_schema sch ≡ none) (type t : ℕ) (wired : t % 8 ≤ fixed32_wire) where
  looked : Entry
  looked = lookup sch.entries type (t / 8)

  looked_kind : looked.kind ≤ sint64_kind
  unfolding looked
  looked_kind = schema_kinds sch valid type (t / 8)

  looked_child : looked.kind ≡ message_kind → looked.child < sch.types
  unfolding looked
  looked_child = go (place_of 0 sch.entries type (t / 8)) refl
    where
      go : (p : Option ℕ) → place_of 0 sch.entries type (t / 8) ≡ p → (lookup sch.entries type (t / 8)).kind ≡ message_kind → (lookup sch.entries type (t / 8)).child < sch.types
      go none p k = let z : ◌≡◌ {A = ℕ} 0 message_kind = sym (ap (λ (x : Entry). x.kind) (place_none sch.entries type (t / 8) p)) ∙ k in absurd (omega arith)
      go (some i) p k =
          let f = place_found sch.entries type (t / 8) i p in
          let g = good_entry_lem sch.types (at sch i) (valid_good sch valid i f.0) in
          subst (λ (x : Entry). x.child < sch.types) (sym f.1) (g.message_child (sym (ap (λ (x : Entry). x.kind) f.1) ∙ k))

  -- a message's fields are of a type that there is
  pub said_message : (says sch type t).kind ≡ message_kind → (says sch type t).inner < sch.types
  unfolding says says_of looked
  said_message h = subst (λ (k : ℕ). inner_for looked k < sch.types) (sym h) (looked_child (go (read_as looked (t % 8)) h))
    where
      go : {k : ℕ} → ReadAs looked (t % 8) k → k ≡ message_kind → looked.kind ≡ message_kind
      go as_typed q = q
      go (as_packed s) q = absurd (omega arith)
      go as_unknown q = absurd (omega (arith, unknown_from (t % 8) wired))

  -- a packed field's elements are of a kind that is one number
  pub said_packed : (says sch type t).kind ≡ packed_head → (c : Scalar) × (shape (says sch type t).inner ≡ one c)
  unfolding says says_of looked
  said_packed h = subst (λ (k : ℕ). (c : Scalar) × (shape (inner_for looked k) ≡ one c)) (sym h) (scalar_shape (shape looked.kind) (go (read_as looked (t % 8)) h))
    where
      go : {k : ℕ} → ReadAs looked (t % 8) k → k ≡ packed_head → is_scalar (shape looked.kind) ≡ true
      go as_typed q = absurd (omega (arith, looked_kind))
      go (as_packed s) q = s
      go as_unknown q = absurd (omega (arith, unknown_from (t % 8) wired))
