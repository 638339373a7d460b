-- Laws of one record in its place: what the tables say of its number and kind, and the fault of a record whose number and kind are as expected.
-- Assumes nothing.
use Prim.Native.Nat.{ℕ, ◌+◌, ◌-◌, ◌*◌, ◌/◌, ◌%◌, ◌≤◌, ◌<◌}
use native.Mathlib.Omega.{arith}
use mathlib.Core.Path.{◌≡◌, refl, sym, ap, ap₂, ◌∙◌, subst}
use mathlib.Core.Logic.{◌≢◌}
use mathlib.Core.Bool.{Bool, true, false, not, ◌&&◌, false≢true}
use mathlib.Core.List.{List, [], ◌∷◌}
use lib.ListN.{length, drop, get_or, length-drop, drop_of_length-le}
use lib.Dec.{leb, eqb}
use borrow.Author.Tests.{le-leb, lt-leb, eq-eqb, ne_eqb, leb-true, leb-false, eqb-true}
use Rattle.spec.specs.Names.{fixed32_wire, invalid_list, largest_number, message_kind, most_levels, packed_head, string_kind, too_deep, delimited_wire, kind_column, most_types, no_wire, record_kinds, start_column, stop_column, unknown_fixed32, value_column}
use Rattle.std.specs.Prelude.{if◌then◌else◌}
use Rattle.spec.specs.Base.{between}
use Rattle.spec.specs.Kind.{Scalar, Shape, one, other, nothing, shapes, shape, is_scalar, wire, fits}
use Rattle.spec.specs.Schema.{Schema, lookup, kind_of, Says, inside_of, says_of, says}
use Rattle.spec.specs.Record.{Record, records_of, stride, record_at}
use Rattle.spec.specs.Writing.{Place, Fields, recorded, expected, lies, fitting, next_deeper, record_fault, other_fault}
use Rattle.spec.specs.declared.Entry.{Entry}
use Rattle.spec.proofs.ListLaws.{recorded_small}
use Rattle.spec.proofs.Laws.{both, both_true, by_test}
use Rattle.spec.proofs.VarintLaws.{lower_or_not}
use Rattle.spec.proofs.FlatLaws.{records_nil, records_broken}
use Rattle.spec.proofs.ListLaws.{is_message_kind, is_packed_head}
use Rattle.spec.proofs.RunLaws.{records_at}
use Rattle.spec.proofs.SchemaLaws.{valid_types}
use Rattle.schema.specs.Layout.{guesses, inners_at, key_count, kinds_at, owner_unit}
use Rattle.schema.specs.Tables.{table_says}
use Rattle.schema.proofs.AskingLaws.{says_guessed}
use Rattle.schema.proofs.TableLaws.{said_message, said_packed}
use Rattle.list.specs.Checking.{Made, range_fault, named, Suits}
use Rattle.list.proofs.FitLaws.{type_small, type_recorded, no_record, Delimited, a_string, a_content, a_message, a_packed, delimited}

-- ---- number and kind

-- what is expected of them in a message of this type
pub record Expects (sch : Schema) (type number kind : ℕ) : Type 0 where
  pub low : 1 ≤ number
  pub high : number ≤ largest_number
  pub given : recorded (wire kind) ≡ true
  pub reads : kind ≡ kind_of (lookup sch.entries type number) (wire kind)

module _ (sch : Schema) (type number kind : ℕ) where
  pub expects : expected sch (Fields type) (named number kind) ≡ true → Expects sch type number kind
  unfolding expected
  expects e =
      let a = both (between 1 largest_number number && recorded (wire kind)) _ e in
      let b = both (between 1 largest_number number) (recorded (wire kind)) a.0 in
      let d = both (leb 1 number) (leb number largest_number) b.0 in
      record { low = leb-true 1 number d.0; high = leb-true number largest_number d.1; given = b.1; reads = eqb-true kind _ a.1 }

  is_expected : Expects sch type number kind → expected sch (Fields type) (named number kind) ≡ true
  unfolding expected
  is_expected x =
      both_true (both_true (both_true (le-leb 1 number x.low) (le-leb number largest_number x.high)) x.given)
      (eq-eqb kind (kind_of (lookup sch.entries type number) (wire kind)) x.reads)

  unexpected : (Expects sch type number kind → ⊥) → expected sch (Fields type) (named number kind) ≡ false
  unexpected n = by_test (expected sch (Fields type) (named number kind)) (λ p. absurd (n (expects p))) (λ p. p)

  pub no_number : number ≡ 0 → expected sch (Fields type) (named number kind) ≡ false
  no_number e = unexpected (λ x. omega (arith, x.low))

  pub large_number : largest_number < number → expected sch (Fields type) (named number kind) ≡ false
  large_number l = unexpected (λ x. omega (arith, x.high))

  pub no_type : fixed32_wire < wire kind → expected sch (Fields type) (named number kind) ≡ false
  no_type l = unexpected (λ x. omega (arith, recorded_small (wire kind) x.given))

  pub unknown_kind_lem : unknown_fixed32 < kind → expected sch (Fields type) (named number kind) ≡ false
  unknown_kind_lem l = unexpected (λ x. no_record kind l x.given)

-- the tag of a number and kind
abbrev tag_of : (number kind : ℕ) → ℕ
tag_of number kind = number * 8 + wire kind

module _ {sch : Schema} {keys info : List ℕ} (m : Made sch keys info) {type number kind : ℕ} (few : type < most_types) where
  -- what the tables say of it
  module _ (low : 1 ≤ number) (high : number ≤ largest_number) (small : kind < record_kinds) (typed : wire kind ≤ fixed32_wire) where
    entry : Entry
    entry = lookup sch.entries type number

    same_says : says sch type (tag_of number kind) ≡ says_of entry (wire kind)
    unfolding says entry
    same_says =
        let over : tag_of number kind / 8 ≡ number = omega arith in
        let under : tag_of number kind % 8 ≡ wire kind = omega arith in
        ap₂ (λ (n w : ℕ). says_of (lookup sch.entries type n) w) over under

    table_says_lem : table_says keys info type (tag_of number kind) ≡ says sch type (tag_of number kind)
    table_says_lem = m.same type (tag_of number kind) few (omega arith) (omega arith) (omega arith)

    pub said_other : (table_says keys info type (tag_of number kind)).kind ≢ kind → expected sch (Fields type) (named number kind) ≡ false
    unfolding says_of entry
    said_other n = unexpected sch type number kind (λ x. n (ap (λ (s : Says). s.kind) (table_says_lem ∙ same_says) ∙ sym x.reads))

    pub said_so : {inner : ℕ} → (table_says keys info type (tag_of number kind)).kind ≡ kind
        → (kind ≡ message_kind → inner ≡ (table_says keys info type (tag_of number kind)).inner)
        → (kind ≡ packed_head → inner ≡ (table_says keys info type (tag_of number kind)).inner)
        → Suits sch type number kind inner
    unfolding says_of entry
    said_so {inner} is a b =
        let kinds : kind ≡ kind_of entry (wire kind) = sym is ∙ ap (λ (s : Says). s.kind) (table_says_lem ∙ same_says) in
        let inners : (table_says keys info type (tag_of number kind)).inner ≡ inside_of kind entry =
        ap (λ (s : Says). s.inner) (table_says_lem ∙ same_says) ∙ ap (λ (k : ℕ). inside_of k entry) (sym kinds) in
        let own : (says sch type (tag_of number kind)).kind ≡ kind = sym (ap (λ (s : Says). s.kind) table_says_lem) ∙ is in
        let same-inner : (says sch type (tag_of number kind)).inner ≡ (table_says keys info type (tag_of number kind)).inner = sym (ap (λ (s : Says). s.inner) table_says_lem) in
        record {
          is = is_expected sch type number kind (record { low = low; high = high; given = type_recorded kind small typed; reads = kinds });
          fields = λ e. (
            a e ∙ inners ∙ ap (λ (k : ℕ). inside_of k entry) e,
            subst (λ (x : ℕ). x < most_types) (same-inner ∙ sym (a e))
                (omega (arith, said_message sch m.valid type (tag_of number kind) (omega arith) (own ∙ e), (valid_types sch m.valid).1)),
          );
          elements = λ e. (
            b e ∙ inners ∙ ap (λ (k : ℕ). inside_of k entry) e,
            subst (λ (x : ℕ). (c : Scalar) × (shape x ≡ one c)) (same-inner ∙ sym (b e)) (said_packed sch m.valid type (tag_of number kind) (omega arith) (own ∙ e)),
          );
        }

    -- the same of an answer to its tag
    module _ {w : ℕ} (is : w ≡ wire kind) {s : Says} (told : s ≡ table_says keys info type (number * 8 + w)) where
      answer : s ≡ table_says keys info type (tag_of number kind)
      answer = told ∙ ap (λ (x : ℕ). table_says keys info type (number * 8 + x)) is

      pub search_other : s.kind ≢ kind → expected sch (Fields type) (named number kind) ≡ false
      search_other n = said_other (λ e. n (ap (λ (x : Says). x.kind) answer ∙ e))

      pub search_so : s.kind ≡ kind → Suits sch type number kind s.inner
      search_so e =
          said_so (sym (ap (λ (x : Says). x.kind) answer) ∙ e) (λ k. ap (λ (x : Says). x.inner) answer) (λ k. ap (λ (x : Says). x.inner) answer)

  -- the guess at its entry, where the keys say that it is right
  module _ {i w : ℕ} (at : i ≡ get_or info (type % most_types * guesses + number) 0) (one_of_lem : i < key_count) (low : number < guesses) (small : kind < record_kinds) (is : w ≡ wire kind)
      (key : get_or keys i 0 ≡ type * owner_unit + number * 8 + w) where
    keyed : (1 ≤ number) × (wire kind ≤ fixed32_wire)
    keyed =
        let most : wire kind ≤ no_wire = type_small kind small in
        let k = m.keyed i type (tag_of number kind) one_of_lem few (omega arith) (omega arith) in
        (omega (arith, k.0), omega (arith, k.1))

    guess_says : table_says keys info type (tag_of number kind) ≡ record { kind = get_or info (kinds_at + i) 0; inner = if eqb (get_or info (kinds_at + i) 0) message_kind then get_or info (inners_at + i) 0 else 0 }
    guess_says =
        let most : wire kind ≤ no_wire = type_small kind small in
        let place : type * guesses + tag_of number kind / 8 ≡ type % most_types * guesses + number = omega arith in
        let there : get_or info (type * guesses + tag_of number kind / 8) 0 ≡ i = ap (λ (j : ℕ). get_or info j 0) place ∙ sym at in
        let right : get_or keys (get_or info (type * guesses + tag_of number kind / 8) 0) 0 ≡ type * owner_unit + tag_of number kind = ap (λ (j : ℕ). get_or keys j 0) there ∙ key ∙ omega arith in
        subst (λ (j : ℕ). table_says keys info type (tag_of number kind) ≡ record { kind = get_or info (kinds_at + j) 0; inner = if eqb (get_or info (kinds_at + j) 0) message_kind then get_or info (inners_at + j) 0 else 0 })
        there (says_guessed keys info type (tag_of number kind) (omega arith, few, right) (omega arith))

    guess_kind : (table_says keys info type (tag_of number kind)).kind ≡ get_or info (kinds_at + i) 0
    guess_kind = ap (λ (s : Says). s.kind) guess_says

    guess_inner : (table_says keys info type (tag_of number kind)).inner ≡ (if eqb (get_or info (kinds_at + i) 0) message_kind then get_or info (inners_at + i) 0 else 0)
    guess_inner = ap (λ (s : Says). s.inner) guess_says

    pub guess_other : get_or info (kinds_at + i) 0 ≢ kind → expected sch (Fields type) (named number kind) ≡ false
    guess_other n = said_other keyed.0 (omega arith) small keyed.1 (λ e. n (sym guess_kind ∙ e))

    -- no entry has the kind of a packed head
    no_packed : kind ≡ packed_head → get_or info (kinds_at + i) 0 ≡ kind → ⊥
    unfolding shape shapes
    no_packed e k =
        let found = table_says_lem keyed.0 (omega arith) small keyed.1 in
        let none_in : (says sch type (tag_of number kind)).inner ≡ 0 =
        sym (ap (λ (s : Says). s.inner) found) ∙ guess_inner ∙ rw (k ∙ e) refl in
        let kinds : (says sch type (tag_of number kind)).kind ≡ packed_head = sym (ap (λ (s : Says). s.kind) found) ∙ guess_kind ∙ k ∙ e in
        let p = said_packed sch m.valid type (tag_of number kind) (omega (arith, keyed.1)) kinds in
        let bad : ◌≡◌ {A = Shape} (other nothing) (one p.0) = sym (ap shape none_in) ∙ p.1 in
        let z : ◌≡◌ {A = ℕ} 0 1 = cc in omega arith

    pub guess_so : get_or info (kinds_at + i) 0 ≡ kind → Suits sch type number kind (get_or info (inners_at + i) 0)
    guess_so k =
        said_so keyed.0 (omega arith) small keyed.1 (guess_kind ∙ k)
        (λ e. sym (guess_inner ∙ rw (k ∙ e) refl))
        (λ e. absurd (no_packed e k))

-- ---- the fault of a record whose number and kind are as expected

module _ (sch : Schema) (payload : List ℕ) (here : Place) (out : List Place) (r : Record) (rs : List Record) where
  pub fault_unexpected : expected sch here r ≡ false → record_fault sch payload (here ∷ out) r rs ≡ invalid_list
  unfolding record_fault
  fault_unexpected e = rw e refl

  pub fault_expected : expected sch here r ≡ true → record_fault sch payload (here ∷ out) r rs ≡ other_fault payload r rs
  unfolding record_fault
  fault_expected e = rw e refl

module _ (payload : List ℕ) (r : Record) (rs : List Record) where
  -- of a kind that is one number
  module _ (c : Scalar) (is : shape r.kind ≡ one c) where
    no_special : (k : ℕ) → is_scalar (shape k) ≡ false → eqb r.kind k ≡ false
    unfolding is_scalar
    no_special k n = ne_eqb r.kind k (λ e. false≢true (sym n ∙ ap is_scalar (sym (ap shape e) ∙ is)))

    pub other_number : other_fault payload r rs ≡ (if fits c r.value then 0 else invalid_list)
    unfolding fitting shape shapes is_scalar
    other_number = rw (no_special packed_head refl, no_special message_kind refl, no_special string_kind refl) (ap (λ (x : Shape). if not (fitting x payload r) then invalid_list else 0) is ∙ go (fits c r.value))
      where
        go : (b : Bool) → ◌≡◌ {A = ℕ} (if not b then invalid_list else 0) (if b then 0 else invalid_list)
        go true = refl
        go false = refl

  -- of wire type 2: the value is 0
  other_value : wire r.kind ≡ delimited_wire → r.value ≢ 0 → invalid_list ≡ other_fault payload r rs
  unfolding fitting
  other_value w n = go (delimited r.kind w) refl
    where
      no_zero : eqb r.value 0 ≡ false
      no_zero = ne_eqb r.value 0 n

      fails : {x : Shape} → shape r.kind ≡ x → fitting x payload r ≡ false → invalid_list ≡ other_fault payload r rs
      fails e f = sym (rw (ap (λ (y : Shape). fitting y payload r) e ∙ f) refl)

      go : {x : Shape} → Delimited x → shape r.kind ≡ x → invalid_list ≡ other_fault payload r rs
      go a_string e = fails e (rw no_zero refl)
      go a_content e = fails e (rw no_zero refl)
      go a_message e = fails e no_zero
      go a_packed e = fails e no_zero

  -- a message without fault stands below depth `most_levels`
  pub other_low : r.kind ≡ message_kind → other_fault payload r rs ≡ 0 → r.depth < most_levels
  unfolding fitting shape shapes
  other_low k e =
      by_test (eqb r.value 0)
      (λ v. by_test (leb most_levels r.depth) (λ d. let z : ◌≡◌ {A = ℕ} too_deep 0 = rw (k, v, d) at e in absurd (omega arith)) (λ d. leb-false most_levels r.depth d))
      (λ v. let z : ◌≡◌ {A = ℕ} invalid_list 0 = rw (k, v) at e in absurd (omega arith))

  module _ (none-there : r.value ≡ 0) where
    other_message : r.kind ≡ message_kind → other_fault payload r rs ≡ (if leb most_levels r.depth then too_deep else 0)
    unfolding fitting shape shapes
    other_message e = rw (e, none-there) refl

    other_deep : r.kind ≡ message_kind → most_levels ≤ r.depth → too_deep ≡ other_fault payload r rs
    other_deep e l = sym (other_message e ∙ rw (le-leb most_levels r.depth l) refl)

    other_shallow : r.kind ≡ message_kind → r.depth < most_levels → 0 ≡ other_fault payload r rs
    other_shallow e l = sym (other_message e ∙ rw (lt-leb most_levels r.depth l) refl)

    other_packed : r.kind ≡ packed_head → (if next_deeper r rs then 0 else invalid_list) ≡ other_fault payload r rs
    unfolding fitting shape shapes
    other_packed e = go rs
      where
        turned : (b : Bool) → ◌≡◌ {A = ℕ} (if not b then invalid_list else 0) (if b then 0 else invalid_list)
        turned true = refl
        turned false = refl

        go : (qs : List Record) → (if next_deeper r qs then 0 else invalid_list) ≡ other_fault payload r qs
        go [] = sym (rw (e, none-there) refl)
        go (q ∷ qs) = sym (rw (e, none-there) (turned (eqb q.depth (r.depth + 1))))

    other_range : wire r.kind ≡ delimited_wire → r.kind ≢ message_kind → r.kind ≢ packed_head → range_fault payload r.kind r.start r.stop ≡ other_fault payload r rs
    unfolding range_fault fitting
    other_range w m p = go (delimited r.kind w) refl
      where
        value_is : eqb r.value 0 ≡ true
        value_is = eq-eqb r.value 0 none-there

        alike : {x : Shape} → shape r.kind ≡ x → fitting x payload r ≡ lies payload r → range_fault payload r.kind r.start r.stop ≡ other_fault payload r rs
        alike e f =
            sym (rw (ap (λ (y : Shape). fitting y payload r) e ∙ f, ne_eqb r.kind packed_head p, ne_eqb r.kind message_kind m) refl)

        go : {x : Shape} → Delimited x → shape r.kind ≡ x → range_fault payload r.kind r.start r.stop ≡ other_fault payload r rs
        go a_string e = alike e (rw value_is refl)
        go a_content e = alike e (rw value_is refl)
        go a_message e = absurd (m (is_message_kind r.kind e))
        go a_packed e = absurd (p (is_packed_head r.kind e))

-- ---- the record after a packed head

module _ (list : List ℕ) (at : ℕ) (r : Record) where
  next_none : at + stride ≤ length list → length list < at + 2 * stride → next_deeper r (records_of (drop (at + stride) list)) ≡ false
  next_none h l =
      let long : length (drop (at + stride) list) ≡ length list - (at + stride) = length-drop (at + stride) list in
      lower_or_not 0 (length (drop (at + stride) list))
      (λ p. ap (next_deeper r) (records_broken (drop (at + stride) list) p (omega arith)) ∙ ne_eqb 0 (r.depth + 1) (λ e. omega arith))
      (λ p. ap (next_deeper r) (ap records_of (drop_of_length-le list {i = at + stride} (omega arith)) ∙ records_nil))

  next_at : at + 2 * stride ≤ length list → next_deeper r (records_of (drop (at + stride) list)) ≡ eqb (get_or list (at + stride) 0) (r.depth + 1)
  next_at h = ap (next_deeper r) (records_at list (at + stride) (omega arith))

-- ---- the same of the record at a place

abbrev fault_at : (payload list : List ℕ) → ℕ → ℕ
fault_at payload list at = other_fault payload (record_at list at) (records_of (drop (at + stride) list))

module _ (payload list : List ℕ) (at : ℕ) {kind depth : ℕ} (whole : at + stride ≤ length list) (kind-is : kind ≡ get_or list (at + kind_column) 0) (depth_is : depth ≡ get_or list at 0) where
  pub value_at : wire kind ≡ delimited_wire → get_or list (at + value_column) 0 ≢ 0 → invalid_list ≡ fault_at payload list at
  value_at w n = other_value payload (record_at list at) (records_of (drop (at + stride) list)) (sym (ap wire kind-is) ∙ w) n

  module _ (none-there : get_or list (at + value_column) 0 ≡ 0) where
    pub deep_at : kind ≡ message_kind → most_levels ≤ depth → too_deep ≡ fault_at payload list at
    deep_at e l = other_deep payload (record_at list at) (records_of (drop (at + stride) list)) none-there (sym kind-is ∙ e) (omega arith)

    pub shallow_at : kind ≡ message_kind → depth < most_levels → 0 ≡ fault_at payload list at
    shallow_at e l = other_shallow payload (record_at list at) (records_of (drop (at + stride) list)) none-there (sym kind-is ∙ e) (omega arith)

    packed_at : {b : Bool} → kind ≡ packed_head → next_deeper (record_at list at) (records_of (drop (at + stride) list)) ≡ b → (if b then 0 else invalid_list) ≡ fault_at payload list at
    packed_at e n =
        ap (λ (b : Bool). if b then 0 else invalid_list) (sym n) ∙ other_packed payload (record_at list at) (records_of (drop (at + stride) list)) none-there (sym kind-is ∙ e)

    pub last_at : kind ≡ packed_head → length list - at < 2 * stride → invalid_list ≡ fault_at payload list at
    last_at e l = packed_at e (next_none list at (record_at list at) whole (omega arith))

    module _ (e : kind ≡ packed_head) (l : 2 * stride ≤ length list - at) where
      pub jump_at : get_or list (at + stride) 0 ≢ depth + 1 → invalid_list ≡ fault_at payload list at
      jump_at n = packed_at e (next_at list at (record_at list at) (omega arith) ∙ ne_eqb (get_or list (at + stride) 0) (get_or list at 0 + 1) (λ z. n (omega arith)))

      pub run_at : get_or list (at + stride) 0 ≡ depth + 1 → 0 ≡ fault_at payload list at
      run_at n = packed_at e (next_at list at (record_at list at) (omega arith) ∙ eq-eqb (get_or list (at + stride) 0) (get_or list at 0 + 1) (omega arith))

    pub content_at : wire kind ≡ delimited_wire → kind ≢ message_kind → kind ≢ packed_head → range_fault payload kind (get_or list (at + start_column) 0) (get_or list (at + stop_column) 0) ≡ fault_at payload list at
    content_at w m p =
        ap (λ (k : ℕ). range_fault payload k (get_or list (at + start_column) 0) (get_or list (at + stop_column) 0)) kind-is
        ∙ other_range payload (record_at list at) (records_of (drop (at + stride) list)) none-there (sym (ap wire kind-is) ∙ w) (λ e. m (kind-is ∙ e)) (λ e. p (kind-is ∙ e))
