-- One iteration of the loop over the elements of a packed field. Assumes nothing.
use Prim.Native.Nat.{ℕ, ◌+◌, ◌-◌, ◌/◌, ◌%◌, ◌≤◌, ◌<◌}
use native.Mathlib.Omega.{arith}
use mathlib.Core.Path.{◌≡◌, refl, sym, ap, ◌∙◌}
use mathlib.Core.Logic.{◌≢◌}
use mathlib.Core.Bool.{Bool, true, false}
use mathlib.Core.List.{List, [], ◌∷◌}
use lib.ListN.{length, drop, get_or, length-drop}
use lib.Dec.{eqb}
use borrow.Author.Tests.{eq-eqb, eqb-true}
use Rattle.spec.specs.Names.{invalid_list, kind_column, number_column, value_column}
use Rattle.std.specs.Prelude.{if◌then◌else◌}
use Rattle.spec.specs.Kind.{Scalar, one, shape, fits}
use Rattle.spec.specs.Schema.{Schema}
use Rattle.spec.specs.Record.{broken, stride, record_at, records_from}
use Rattle.spec.specs.Writing.{Place, Elements, around, inside, expected, record_fault, list_fault}
use Rattle.spec.proofs.Laws.{by_test, both, both_true}
use Rattle.spec.proofs.VarintLaws.{lower_or_not}
use Rattle.spec.proofs.FlatLaws.{records_broken}
use Rattle.spec.proofs.ListLaws.{around_here}
use Rattle.spec.proofs.RunLaws.{records_at, records_end}
use Rattle.list.specs.Checking.{Elapsed, passed, faulty}
use Rattle.std.specs.Prelude.{Ok, Err}
use Rattle.list.proofs.RecordLaws.{fault_unexpected, fault_expected, other_number}
use Rattle.list.proofs.OpenLaws.{first_good, first_bad, popped, none_left}

-- the records from a place on
pub records_rest : (list : List ℕ) (at : ℕ) → at < length list → length list < at + stride → records_from list at ≡ broken ∷ []
records_rest list at h l = records_broken (drop at list) (omega (arith, length-drop at list)) (omega (arith, length-drop at list))

-- The answer for the elements from `from` on is the answer for those from `at` on.
pub record Ahead (list : List ℕ) (from depth number kind at : ℕ) : Type 0 where
  pub on : from ≤ at
  pub inside : at ≤ length list
  pub whole : at % stride ≡ 0
  pub same : (sch : Schema) (payload : List ℕ) (out : List Place) (c : Scalar) → length out ≡ depth → shape kind ≡ one c
      → list_fault sch payload (from / stride) (Elements number kind ∷ out) (records_from list from)
      ≡ list_fault sch payload (at / stride) (Elements number kind ∷ out) (records_from list at)

pub ahead : (list : List ℕ) (from depth number kind : ℕ) → from ≤ length list → from % stride ≡ 0 → Ahead list from depth number kind from
ahead list from depth number kind h w = record { on = omega arith; inside = h; whole = w; same = λ sch payload out c d s. refl }

module _ {list : List ℕ} {from depth number kind at : ℕ} (h : Ahead list from depth number kind at) where
  -- they end, at the end of the list or in a remainder that is no record
  pub elements_end : length list - at < stride → Elapsed list from depth number kind (Ok at)
  elements_end l =
      passed h.on h.inside h.whole
      (λ sch payload out c d pos s. h.same sch payload out c d s
      ∙ lower_or_not at (length list)
      (λ t. let e = records_rest list at t (omega arith) in
      ap (list_fault sch payload (at / stride) (Elements number kind ∷ out)) e ∙ popped sch payload (at / stride) (Elements number kind) out broken [] (λ z. omega arith)
      ∙ sym (ap (list_fault sch payload (at / stride) out) e))
      (λ t. let e = records_end list at t in
      ap (list_fault sch payload (at / stride) (Elements number kind ∷ out)) e ∙ none_left sch payload (at / stride) (Elements number kind ∷ out)
      ∙ sym (ap (list_fault sch payload (at / stride) out) e ∙ none_left sch payload (at / stride) out)))

  module _ (l : stride ≤ length list - at) where
    split : records_from list at ≡ record_at list at ∷ records_from list (at + stride)
    split = records_at list at (omega (arith, h.inside))

    -- or at a record that is none
    pub elements_left : get_or list at 0 ≢ depth → Elapsed list from depth number kind (Ok at)
    elements_left n =
        passed h.on h.inside h.whole
        (λ sch payload out c d pos s. h.same sch payload out c d s
        ∙ ap (list_fault sch payload (at / stride) (Elements number kind ∷ out)) split
        ∙ popped sch payload (at / stride) (Elements number kind) out (record_at list at) (records_from list (at + stride)) (λ e. n (e ∙ d))
        ∙ sym (ap (list_fault sch payload (at / stride) out) split))

    module _ (is : get_or list at 0 ≡ depth) where
      stands : (sch : Schema) (payload : List ℕ) (out : List Place) → length out ≡ depth
          → around (get_or list at 0) (Elements number kind ∷ out) ≡ Elements number kind ∷ out
      stands sch payload out d = around_here sch payload (Elements number kind) out (get_or list at 0) (is ∙ sym d)

      bad : ((sch : Schema) (payload : List ℕ) (out : List Place) (c : Scalar) → shape kind ≡ one c
          → record_fault sch payload (Elements number kind ∷ out) (record_at list at) (records_from list (at + stride)) ≡ invalid_list)
          → Elapsed list from depth number kind (Err at)
      bad f =
          faulty (λ sch payload out c d pos s. h.same sch payload out c d s
          ∙ ap (list_fault sch payload (at / stride) (Elements number kind ∷ out)) split
          ∙ first_bad sch payload (at / stride) (Elements number kind ∷ out) (Elements number kind ∷ out) (record_at list at) (records_from list (at + stride))
          (stands sch payload out d) (λ e. omega arith) (f sch payload out c s))

      unexpected : (sch : Schema) → (get_or list (at + number_column) 0 ≡ number → get_or list (at + kind_column) 0 ≡ kind → ⊥) → expected sch (Elements number kind) (record_at list at) ≡ false
      unfolding expected
      unexpected sch n =
          by_test (expected sch (Elements number kind) (record_at list at))
          (λ p. let b = both (eqb (get_or list (at + number_column) 0) number) (eqb (get_or list (at + kind_column) 0) kind) p in
          absurd (n (eqb-true (get_or list (at + number_column) 0) number b.0) (eqb-true (get_or list (at + kind_column) 0) kind b.1)))
          (λ p. p)

      -- of another number or kind, it has a fault
      pub elements_other : (get_or list (at + number_column) 0 ≡ number → get_or list (at + kind_column) 0 ≡ kind → ⊥) → Elapsed list from depth number kind (Err at)
      elements_other n =
          bad (λ sch payload out c s. fault_unexpected sch payload (Elements number kind) out (record_at list at) (records_from list (at + stride)) (unexpected sch n))

      module _ (num : get_or list (at + number_column) 0 ≡ number) (kin : get_or list (at + kind_column) 0 ≡ kind) {b : Bool}
          (value : (c : Scalar) → shape kind ≡ one c → b ≡ fits c (get_or list (at + value_column) 0)) where
        fault_is : (sch : Schema) (payload : List ℕ) (out : List Place) (c : Scalar) → shape kind ≡ one c
            → record_fault sch payload (Elements number kind ∷ out) (record_at list at) (records_from list (at + stride)) ≡ (if b then 0 else invalid_list)
        unfolding expected
        fault_is sch payload out c s =
            fault_expected sch payload (Elements number kind) out (record_at list at) (records_from list (at + stride))
            (both_true (eq-eqb (get_or list (at + number_column) 0) number num) (eq-eqb (get_or list (at + kind_column) 0) kind kin))
            ∙ other_number payload (record_at list at) (records_from list (at + stride)) c (ap shape kin ∙ s)
            ∙ sym (ap (λ (x : Bool). if x then 0 else invalid_list) (value c s))

        pub elements_value : b ≡ false → Elapsed list from depth number kind (Err at)
        elements_value e = bad (λ sch payload out c s. fault_is sch payload out c s ∙ ap (λ (x : Bool). if x then 0 else invalid_list) e)

        -- and else it is passed
        pub elements_turn : b ≡ true → Ahead list from depth number kind (at + stride)
        unfolding inside
        elements_turn e = record {
          on = omega (arith, h.on);
          inside = omega (arith, h.inside);
          whole = omega (arith, h.whole);
          same = λ sch payload out c d s.
              let next : at / stride + 1 ≡ (at + stride) / stride = omega arith in
              h.same sch payload out c d s
              ∙ ap (list_fault sch payload (at / stride) (Elements number kind ∷ out)) split
              ∙ first_good sch payload (at / stride) (Elements number kind ∷ out) (Elements number kind ∷ out) (record_at list at) (records_from list (at + stride))
              (stands sch payload out d) (fault_is sch payload out c s ∙ ap (λ (x : Bool). if x then 0 else invalid_list) e)
              ∙ ap (λ (i : ℕ). list_fault sch payload i (Elements number kind ∷ out) (records_from list (at + stride))) next;
        }
