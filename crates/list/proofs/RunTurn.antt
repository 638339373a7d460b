-- One iteration of the loop over the records of a list. Assumes nothing.
use Prim.Native.Nat.{ℕ, ◌+◌, ◌-◌, ◌/◌, ◌%◌, ◌≤◌, ◌<◌}
use native.Mathlib.Omega.{arith}
use mathlib.Core.Path.{◌≡◌, refl, sym, ap, ap₂, ◌∙◌, subst}
use mathlib.Core.Logic.{◌≢◌}
use mathlib.Core.Bool.{Bool, true, false}
use mathlib.Core.List.{List, [], ◌∷◌}
use lib.ListN.{length, get_or, set, length-set}
use lib.Seq.{get_or-set_same, get_or-set_other}
use borrow.Author.Tests.{eq-eqb, ne_eqb}
use Rattle.spec.specs.Names.{invalid_list, most_levels, delimited_wire, kind_column, message_kind, most_types, number_column, packed_head, record_kinds, value_column}
use Rattle.std.specs.Prelude.{if◌then◌else◌}
use Rattle.spec.specs.Kind.{Scalar, one, shape, kind_wires, own_wires, wires, wire, fits}
use Rattle.spec.specs.Schema.{Schema}
use Rattle.spec.specs.Record.{broken, records_of, stride, record_at, records_from}
use Rattle.spec.specs.Writing.{Place, Fields, Elements, around, inside, expected, record_fault, Verdict, Fine, Faulty, list_fault, other_fault}
use Rattle.spec.proofs.VarintLaws.{lower_or_not}
use Rattle.spec.proofs.RunLaws.{records_at, records_end}
use Rattle.list.specs.Checking.{Made, named, Suits, Answers, suits, differs, Elapsed, passed, faulty, fields_to}
use Rattle.std.specs.Prelude.{Some, None, Ok, Err}
use Rattle.spec.specs.Told.{number_of}
use Rattle.spec.specs.declared.refusals.Refusal.{Refusal}
use Rattle.spec.specs.declared.refusals.Refusal.TheVariants.{EndsEarly, BadVarint, BadTag, NoGroupOpen, OutOfRange, NotUtf8, TooDeep, NoRoom, InvalidSchema, InvalidList, TooLarge, OutputShort, BadMark, OtherVersion}
use Rattle.list.proofs.FitLaws.{one_number}
use Rattle.list.proofs.RecordLaws.{expects, fault_unexpected, fault_expected, other_number, other_low}
use Rattle.list.proofs.OpenLaws.{outer, fields_cons, length_fields, fields_more, around_fields, first_good, first_bad, first_deep, first_out, none_left}
use Rattle.list.proofs.ElementTurn.{records_rest}

-- The answer for the whole list is the answer for the records from `at` on, in the messages that are open down to `depth`; `type` is the last one's.
pub record Here (sch : Schema) (payload list open-types : List ℕ) (at depth type : ℕ) : Type 0 where
  pub same : list_fault sch payload 0 (Fields 0 ∷ []) (records_of list) ≡ list_fault sch payload (at / stride) (fields_to open-types depth) (records_from list at)
  pub is : type ≡ get_or open-types depth 0
  pub few : (d : ℕ) → d ≤ depth → get_or open-types d 0 < most_types

pub here : (sch : Schema) (payload list open-types : List ℕ) {type : ℕ} → get_or open-types 0 0 ≡ 0 → type ≡ 0 → Here sch payload list open-types 0 0 type
unfolding fields_to
here sch payload list open-types e z = record {
  same = ap (λ (t : ℕ). list_fault sch payload 0 (Fields t ∷ []) (records_of list)) (sym e);
  is = z ∙ sym e;
  few = λ d l. let z : d ≡ 0 = omega arith in rw (z, e) (omega arith);
}

module _ {sch : Schema} {payload list open-types : List ℕ} {at depth type : ℕ} (h : Here sch payload list open-types at depth type) where
  -- the end of the list, and a remainder that is no record
  pub run_end : length list ≤ at → Fine ≡ list_fault sch payload 0 (Fields 0 ∷ []) (records_of list)
  run_end l =
      sym (h.same ∙ ap (list_fault sch payload (at / stride) (fields_to open-types depth)) (records_end list at l) ∙ none_left sch payload (at / stride) (fields_to open-types depth))

  pub run_rest : at < length list → length list - at < stride → Faulty invalid_list (at / stride) ≡ list_fault sch payload 0 (Fields 0 ∷ []) (records_of list)
  unfolding fields_to expected record_fault
  run_rest l t =
      sym (h.same ∙ ap (list_fault sch payload (at / stride) (fields_to open-types depth)) (records_rest list at l (omega arith))
      ∙ first_bad sch payload (at / stride) (fields_to open-types depth) (fields_to open-types 0) broken [] (around_fields sch payload open-types 0 depth (omega arith)) (λ e. omega arith) refl)

  module _ (l : at ≤ length list) (t : stride ≤ length list - at) where
    split : records_from list at ≡ record_at list at ∷ records_from list (at + stride)
    split = records_at list at (omega arith)

    pub run_deep : depth < get_or list at 0 → Faulty invalid_list (at / stride) ≡ list_fault sch payload 0 (Fields 0 ∷ []) (records_of list)
    run_deep d =
        sym (h.same ∙ ap (list_fault sch payload (at / stride) (fields_to open-types depth)) split
        ∙ first_deep sch payload (at / stride) (fields_to open-types depth) (record_at list at) (records_from list (at + stride)) (omega (arith, length_fields open-types depth)))

    pub run_out : {d : ℕ} → get_or list at 0 ≡ d → d ≤ depth → Here sch payload list open-types at d (get_or open-types d 0)
    run_out {d} e m = record {
      same = h.same ∙ ap (list_fault sch payload (at / stride) (fields_to open-types depth)) split
          ∙ first_out sch payload (at / stride) open-types d depth (record_at list at) (records_from list (at + stride)) e m
          ∙ sym (ap (list_fault sch payload (at / stride) (fields_to open-types d)) split);
      is = refl;
      few = λ k n. h.few k (omega arith);
    }

    -- a record of the innermost message
    module _ (own : get_or list at 0 ≡ depth) where
      in_message : (sch' : Schema) (payload' : List ℕ) → around (get_or list at 0) (fields_to open-types depth) ≡ Fields type ∷ outer open-types depth
      in_message sch' payload' =
          ap (λ (d : ℕ). around d (fields_to open-types depth)) own ∙ around_fields sch' payload' open-types depth depth (omega arith) ∙ fields_cons open-types depth
          ∙ ap (λ (x : ℕ). Fields x ∷ outer open-types depth) (sym h.is)

      abbrev fault : ℕ
      fault = record_fault sch payload (Fields type ∷ outer open-types depth) (record_at list at) (records_from list (at + stride))

      refused : {k : ℕ} → k ≢ 0 → fault ≡ k → Faulty k (at / stride) ≡ list_fault sch payload 0 (Fields 0 ∷ []) (records_of list)
      refused n e =
          sym (h.same ∙ ap (list_fault sch payload (at / stride) (fields_to open-types depth)) split
          ∙ first_bad sch payload (at / stride) (fields_to open-types depth) (Fields type ∷ outer open-types depth) (record_at list at) (records_from list (at + stride)) (in_message sch payload) n e)

      went : fault ≡ 0 → list_fault sch payload 0 (Fields 0 ∷ []) (records_of list)
          ≡ list_fault sch payload ((at + stride) / stride) (inside sch (Fields type ∷ outer open-types depth) (record_at list at)) (records_from list (at + stride))
      went e =
          let next : at / stride + 1 ≡ (at + stride) / stride = omega arith in
          h.same ∙ ap (list_fault sch payload (at / stride) (fields_to open-types depth)) split
          ∙ first_good sch payload (at / stride) (fields_to open-types depth) (Fields type ∷ outer open-types depth) (record_at list at) (records_from list (at + stride)) (in_message sch payload) e
          ∙ ap (λ (i : ℕ). list_fault sch payload i (inside sch (Fields type ∷ outer open-types depth) (record_at list at)) (records_from list (at + stride))) next

      pub run_other : expected sch (Fields type) (named (get_or list (at + number_column) 0) (get_or list (at + kind_column) 0)) ≡ false
          → Faulty invalid_list (at / stride) ≡ list_fault sch payload 0 (Fields 0 ∷ []) (records_of list)
      unfolding expected
      run_other e = refused (λ z. omega arith) (fault_unexpected sch payload (Fields type) (outer open-types depth) (record_at list at) (records_from list (at + stride)) e)

      module _ {inner : ℕ} (s : Suits sch type (get_or list (at + number_column) 0) (get_or list (at + kind_column) 0) inner) where
        other_is : fault ≡ other_fault payload (record_at list at) (records_from list (at + stride))
        unfolding expected
        other_is = fault_expected sch payload (Fields type) (outer open-types depth) (record_at list at) (records_from list (at + stride)) s.is

        -- one that opens nothing
        stays : fault ≡ 0 → get_or list (at + kind_column) 0 ≢ message_kind → get_or list (at + kind_column) 0 ≢ packed_head → Here sch payload list open-types (at + stride) depth type
        unfolding inside
        stays e m p = record {
          same = went e
              ∙ ap (λ (o : List Place). list_fault sch payload ((at + stride) / stride) o (records_from list (at + stride)))
              (rw (ne_eqb (get_or list (at + kind_column) 0) message_kind m, ne_eqb (get_or list (at + kind_column) 0) packed_head p)
              (ap (λ (x : ℕ). Fields x ∷ outer open-types depth) h.is ∙ sym (fields_cons open-types depth)));
          is = h.is;
          few = h.few;
        }

        -- of a kind that is one number
        module _ (w : wire (get_or list (at + kind_column) 0) ≢ delimited_wire) {b : Bool} (value : (c : Scalar) → shape (get_or list (at + kind_column) 0) ≡ one c → b ≡ fits c (get_or list (at + value_column) 0)) where
          number : (c : Scalar) × (shape (get_or list (at + kind_column) 0) ≡ one c)
          number = one_number (get_or list (at + kind_column) 0) (expects sch type (get_or list (at + number_column) 0) (get_or list (at + kind_column) 0) s.is).given w

          number_fault : fault ≡ (if b then 0 else invalid_list)
          number_fault =
              other_is ∙ other_number payload (record_at list at) (records_from list (at + stride)) number.0 number.1
              ∙ sym (ap (λ (x : Bool). if x then 0 else invalid_list) (value number.0 number.1))

          pub run_value_bad : b ≡ false → Faulty invalid_list (at / stride) ≡ list_fault sch payload 0 (Fields 0 ∷ []) (records_of list)
          run_value_bad e = refused (λ z. omega arith) (number_fault ∙ ap (λ (x : Bool). if x then 0 else invalid_list) e)

          pub run_value : b ≡ true → Here sch payload list open-types (at + stride) depth type
          unfolding wire wires kind_wires own_wires
          run_value e = stays (number_fault ∙ ap (λ (x : Bool). if x then 0 else invalid_list) e) (λ z. w (ap wire z)) (λ z. w (ap wire z))

        -- of wire type 2
        module _ {k : ℕ} (is : k ≡ other_fault payload (record_at list at) (records_from list (at + stride))) where
          pub run_fault : k ≢ 0 → Faulty k (at / stride) ≡ list_fault sch payload 0 (Fields 0 ∷ []) (records_of list)
          run_fault n = refused n (other_is ∙ sym is)

          module _ (none : k ≡ 0) where
            pub run_content : get_or list (at + kind_column) 0 ≢ message_kind → get_or list (at + kind_column) 0 ≢ packed_head → Here sch payload list open-types (at + stride) depth type
            run_content m p = stays (other_is ∙ sym is ∙ none) m p

            pub run_message : get_or list (at + kind_column) 0 ≡ message_kind → depth + 1 < length open-types → Here sch payload list (set open-types (depth + 1) inner) (at + stride) (depth + 1) inner
            unfolding inside
            run_message e room = record {
              same = went (other_is ∙ sym is ∙ none)
                  ∙ ap (λ (o : List Place). list_fault sch payload ((at + stride) / stride) o (records_from list (at + stride)))
                  (rw (eq-eqb (get_or list (at + kind_column) 0) message_kind e)
                  (ap₂ (λ (x y : ℕ). Fields x ∷ Fields y ∷ outer open-types depth) (sym (s.fields e).0) h.is
                  ∙ ap (λ (o : List Place). Fields inner ∷ o) (sym (fields_cons open-types depth)) ∙ sym (fields_more open-types depth inner room)));
              is = sym (get_or-set_same open-types (depth + 1) inner 0 room);
              few = λ d l. lower_or_not d (depth + 1)
                  (λ m. subst (λ (x : ℕ). x < most_types) (sym (get_or-set_other open-types (depth + 1) d inner 0 (λ z. omega arith))) (h.few d (omega arith)))
                  (λ m. let z : d ≡ depth + 1 = omega arith in
                  subst (λ (x : ℕ). x < most_types) (sym (ap (λ (n : ℕ). get_or (set open-types (depth + 1) inner) n 0) z ∙ get_or-set_same open-types (depth + 1) inner 0 room)) (s.fields e).1);
            }

            module _ (e : get_or list (at + kind_column) 0 ≡ packed_head) where
              opens : inside sch (Fields type ∷ outer open-types depth) (record_at list at) ≡ Elements (get_or list (at + number_column) 0) inner ∷ fields_to open-types depth
              unfolding inside
              opens = rw e
                  (ap₂ (λ (x y : ℕ). Elements (get_or list (at + number_column) 0) x ∷ Fields y ∷ outer open-types depth) (sym (s.elements e).0) h.is
                  ∙ ap (λ (o : List Place). Elements (get_or list (at + number_column) 0) inner ∷ o) (sym (fields_cons open-types depth)))

              starts : list_fault sch payload 0 (Fields 0 ∷ []) (records_of list)
                  ≡ list_fault sch payload ((at + stride) / stride) (Elements (get_or list (at + number_column) 0) inner ∷ fields_to open-types depth) (records_from list (at + stride))
              starts = went (other_is ∙ sym is ∙ none) ∙ ap (λ (o : List Place). list_fault sch payload ((at + stride) / stride) o (records_from list (at + stride))) opens

              pub run_elements : {to : ℕ} → Elapsed list (at + stride) (depth + 1) (get_or list (at + number_column) 0) inner (Ok to) → Here sch payload list open-types to depth type
              run_elements (passed a b d f) = record {
                same = starts ∙ f sch payload (fields_to open-types depth) (s.elements e).1.0 (length_fields open-types depth) (omega arith) (s.elements e).1.1;
                is = h.is;
                few = h.few;
              }

              pub run_bad_element : {to : ℕ} → Elapsed list (at + stride) (depth + 1) (get_or list (at + number_column) 0) inner (Err to)
                  → Faulty invalid_list (to / stride) ≡ list_fault sch payload 0 (Fields 0 ∷ []) (records_of list)
              run_bad_element (faulty f) =
                  sym (starts ∙ f sch payload (fields_to open-types depth) (s.elements e).1.0 (length_fields open-types depth) (omega arith) (s.elements e).1.1)

-- ---- the loop, under the tables of any schema

pub record Going (keys info list payload open-types : List ℕ) (type depth at : ℕ) : Type 0 where
  pub inside : at ≤ length list
  pub whole : at % stride ≡ 0
  pub shallow : depth ≤ most_levels
  pub long : length open-types ≡ most_levels + 1
  pub lies : (sch : Schema) → Made sch keys info → Here sch payload list open-types at depth type

-- the same, at a record of this depth
pub record Standing (keys info list payload open-types : List ℕ) (type depth at : ℕ) : Type 0 where
  pub going : Going keys info list payload open-types type depth at
  pub more : stride ≤ length list - at
  pub own : get_or list at 0 ≡ depth

-- a refusal has a number
pub number_above : (r : Refusal) → number_of r ≡ 0 → ⊥
number_above EndsEarly e = omega arith
number_above BadVarint e = omega arith
number_above BadTag e = omega arith
number_above NoGroupOpen e = omega arith
number_above OutOfRange e = omega arith
number_above NotUtf8 e = omega arith
number_above TooDeep e = omega arith
number_above NoRoom e = omega arith
number_above InvalidSchema e = omega arith
number_above InvalidList e = omega arith
number_above TooLarge e = omega arith
number_above OutputShort e = omega arith
number_above BadMark e = omega arith
number_above OtherVersion e = omega arith

-- the verdict on the list, by every schema that has these tables
abbrev pub Verdicts : (keys info list payload : List ℕ) → Verdict → Type 0
Verdicts keys info list payload v = (sch : Schema) → Made sch keys info → v ≡ list_fault sch payload 0 (Fields 0 ∷ []) (records_of list)

module _ {keys info list payload open-types : List ℕ} {type depth at : ℕ} (g : Going keys info list payload open-types type depth at) where
  pub go_end : length list ≤ at → Verdicts keys info list payload Fine
  go_end l sch m = run_end (g.lies sch m) l

  pub go_rest : at < length list → length list - at < stride → Verdicts keys info list payload (Faulty invalid_list (at / stride))
  go_rest l t sch m = run_rest (g.lies sch m) l t

  pub go_deep : stride ≤ length list - at → depth < get_or list at 0 → Verdicts keys info list payload (Faulty invalid_list (at / stride))
  go_deep t l sch m = run_deep (g.lies sch m) g.inside t l

  pub go_same : stride ≤ length list - at → {x d : ℕ} → get_or list at 0 ≡ depth → x ≡ type → d ≡ depth → Standing keys info list payload open-types x d at
  go_same t e p q = record { going = rw (p, q) g; more = t; own = e ∙ sym q }

  pub go_out : stride ≤ length list - at → {x d : ℕ} → get_or list at 0 ≤ depth → x ≡ get_or open-types (get_or list at 0) 0 → d ≡ get_or list at 0 → Standing keys info list payload open-types x d at
  go_out t l p q = record {
    going = record {
      inside = g.inside;
      whole = g.whole;
      shallow = omega (arith, g.shallow);
      long = g.long;
      lies = λ sch m. rw (p, q) (run_out (g.lies sch m) g.inside t refl l);
    };
    more = t;
    own = sym q;
  }

module _ {keys info list payload open-types : List ℕ} {type depth at : ℕ} (s : Standing keys info list payload open-types type depth at) where
  few : (sch : Schema) → Made sch keys info → type < most_types
  few sch m = let h = s.going.lies sch m in subst (λ (x : ℕ). x < most_types) (sym h.is) (h.few depth (omega arith))

  pub stand_other : Answers keys info type (get_or list (at + number_column) 0) (get_or list (at + kind_column) 0) None → Verdicts keys info list payload (Faulty invalid_list (at / stride))
  stand_other (differs f) sch m = run_other (s.going.lies sch m) s.going.inside s.more s.own (f sch m (few sch m))

  module _ {inner : ℕ} (a : Answers keys info type (get_or list (at + number_column) 0) (get_or list (at + kind_column) 0) (Some inner)) where
    pub kind_small : get_or list (at + kind_column) 0 < record_kinds
    kind_small = go a
      where
        go : Answers keys info type (get_or list (at + number_column) 0) (get_or list (at + kind_column) 0) (Some inner) → get_or list (at + kind_column) 0 < record_kinds
        go (suits l f) = l

    so : (sch : Schema) → Made sch keys info → Suits sch type (get_or list (at + number_column) 0) (get_or list (at + kind_column) 0) inner
    so sch m = go a
      where
        go : Answers keys info type (get_or list (at + number_column) 0) (get_or list (at + kind_column) 0) (Some inner) → Suits sch type (get_or list (at + number_column) 0) (get_or list (at + kind_column) 0) inner
        go (suits l f) = f sch m (few sch m)

    -- the next place, where what is open stays so
    onward : ((sch : Schema) → Made sch keys info → Here sch payload list open-types (at + stride) depth type) → Going keys info list payload open-types type depth (at + stride)
    onward f = record {
      inside = omega (arith, s.more, s.going.inside);
      whole = omega (arith, s.going.whole);
      shallow = s.going.shallow;
      long = s.going.long;
      lies = f;
    }

    module _ (n : wire (get_or list (at + kind_column) 0) ≢ delimited_wire) {b : Bool} (value : (c : Scalar) → shape (get_or list (at + kind_column) 0) ≡ one c → b ≡ fits c (get_or list (at + value_column) 0)) where
      pub stand_value_bad : b ≡ false → Verdicts keys info list payload (Faulty invalid_list (at / stride))
      stand_value_bad e sch m =
          run_value_bad (s.going.lies sch m) s.going.inside s.more s.own (so sch m) n value e

      pub stand_value : b ≡ true → Going keys info list payload open-types type depth (at + stride)
      stand_value e =
          onward (λ sch m. run_value (s.going.lies sch m) s.going.inside s.more s.own (so sch m) n value e)

    module _ {k : ℕ} (is : k ≡ other_fault payload (record_at list at) (records_from list (at + stride))) where
      pub stand_fault : k ≢ 0 → Verdicts keys info list payload (Faulty k (at / stride))
      stand_fault n sch m = run_fault (s.going.lies sch m) s.going.inside s.more s.own (so sch m) is n

      module _ (none : k ≡ 0) where
        pub stand_low : get_or list (at + kind_column) 0 ≡ message_kind → depth < most_levels
        stand_low e = omega (arith, other_low payload (record_at list at) (records_from list (at + stride)) e (sym is ∙ none), s.own)

        pub stand_content : get_or list (at + kind_column) 0 ≢ message_kind → get_or list (at + kind_column) 0 ≢ packed_head → Going keys info list payload open-types type depth (at + stride)
        stand_content x y = onward (λ sch m. run_content (s.going.lies sch m) s.going.inside s.more s.own (so sch m) is none x y)

        pub stand_message : get_or list (at + kind_column) 0 ≡ message_kind → Going keys info list payload (set open-types (depth + 1) inner) inner (depth + 1) (at + stride)
        stand_message e = record {
          inside = omega (arith, s.more, s.going.inside);
          whole = omega (arith, s.going.whole);
          shallow = omega (arith, stand_low e);
          long = length-set open-types (depth + 1) inner ∙ s.going.long;
          lies = λ sch m. run_message (s.going.lies sch m) s.going.inside s.more s.own (so sch m) is none e (omega (arith, stand_low e, s.going.long));
        }

        module _ (e : get_or list (at + kind_column) 0 ≡ packed_head) where
          pub stand_elements : {to : ℕ} → Elapsed list (at + stride) (depth + 1) (get_or list (at + number_column) 0) inner (Ok to) → Going keys info list payload open-types type depth to
          stand_elements (passed on within whole f) = record {
            inside = within;
            whole = whole;
            shallow = s.going.shallow;
            long = s.going.long;
            lies = λ sch m. run_elements (s.going.lies sch m) s.going.inside s.more s.own (so sch m) is none e (passed on within whole f);
          }

          pub elements_on : {to : ℕ} → Elapsed list (at + stride) (depth + 1) (get_or list (at + number_column) 0) inner (Ok to) → at < to
          elements_on (passed on within whole f) = omega arith

          pub stand_bad_element : {to : ℕ} → Elapsed list (at + stride) (depth + 1) (get_or list (at + number_column) 0) inner (Err to) → Verdicts keys info list payload (Faulty invalid_list (to / stride))
          stand_bad_element x sch m = run_bad_element (s.going.lies sch m) s.going.inside s.more s.own (so sch m) is none e x
