-- Laws of the call: the tables that it makes, what it answers of a schema that is not valid, and that it has one answer. Assumes nothing.
use Prim.Native.Nat.{ℕ, ◌+◌, ◌*◌, ◌/◌, ◌%◌, ◌^◌, ◌≤◌, ◌<◌}
use native.Mathlib.Omega.{arith}
use mathlib.Core.Path.{◌≡◌, refl, sym, ap₂, ◌∙◌}
use mathlib.Core.Option.{none, some}
use mathlib.Core.List.{List, [], ◌∷◌}
use lib.ListN.{length, get_or}
use Rattle.spec.specs.Names.{fixed32_wire, invalid_schema, most_types}
use Rattle.spec.specs.Schema.{Schema, bad_schema}
use Rattle.spec.specs.Record.{Record}
use Rattle.spec.specs.Writing as spec
use Rattle.spec.specs.Writing.{Fields, list_fault, schema_first, list_check}
use Rattle.spec.proofs.VarintLaws.{lower_or_not}
use Rattle.spec.proofs.SchemaLaws.{Good, good_entry_lem, at, valid_good}
use Rattle.schema.specs.Layout.{key_count, owner_unit}
use Rattle.schema.specs.Tables.{keys_of, info_of}
use Rattle.schema.proofs.MakingLaws.{wire_below}
use Rattle.schema.proofs.TableLaws.{key_at_lem, key_else, table_says_lem}
use Rattle.list.specs.Told.{as_verdict}
use Rattle.list.specs.Checking.{Made}
use Rattle.list.proofs.FitLaws.{type_known}
use Rattle.std.specs.Prelude.{Result, Ok, Err}
use Rattle.spec.specs.Told.{number_of}
use Rattle.spec.specs.declared.answers.Fault.{Fault}
use Rattle.spec.specs.declared.refusals.Refusal.{Refusal}
use Rattle.spec.proofs.ToldLaws.{same_refusal}

-- ---- the tables

key_of_entry : (sch : Schema) → bad_schema sch ≡ none → (i type t : ℕ) → i < key_count → type < most_types → t < 2 ^ 32
    → get_or (keys_of sch) i 0 ≡ type * owner_unit + t → (1 ≤ t / 8) × (t % 8 ≤ fixed32_wire)
key_of_entry sch valid i type t l few h e =
    lower_or_not i (length sch.entries)
    (λ m.
    let g : Good sch.types (at sch i) = good_entry_lem sch.types (at sch i) (valid_good sch valid i m) in
    let k = key_at_lem sch valid i m in
    let w = wire_below (at sch i).kind g.kind_to in
    let v = type_known (at sch i).kind g.kind_from g.kind_to g.no_group in
    (omega (arith, k, w, g.number_from, g.number_to), omega (arith, k, w, v, g.number_from, g.number_to)))
    (λ m. absurd (omega (arith, key_else sch valid i m l)))

pub tables_made : (sch : Schema) → bad_schema sch ≡ none → (keys info : List ℕ) → keys ≡ keys_of sch → info ≡ info_of sch → Made sch keys info
tables_made sch valid keys info k i =
    rw (k, i) (record {
      valid = valid;
      same = λ type t a b c d. table_says_lem sch valid type t a b c d;
      keyed = λ j type t a b c d. key_of_entry sch valid j type t a b c d;
    })

-- ---- the answer

module _ (sch : Schema) (payload : List ℕ) (rs : List Record) where
  pub check_bad : {i : ℕ} → bad_schema sch ≡ some i → spec.Faulty invalid_schema i ≡ list_check sch payload rs
  unfolding list_check schema_first
  check_bad e = sym (rw e refl)

  pub check_valid : bad_schema sch ≡ none → list_fault sch payload 0 (Fields 0 ∷ []) rs ≡ list_check sch payload rs
  unfolding list_check schema_first
  check_valid e = sym (rw e refl)

-- any two answers to a call are equal
pub one_answer : (v : spec.Verdict) (a b : Result (Unit {0}) Fault) → as_verdict a ≡ v → as_verdict b ≡ v → a ≡ b
unfolding as_verdict
one_answer v (Ok t) (Ok u) p q = refl
one_answer v (Ok u) (Err g) p q = let z : ◌≡◌ {A = ℕ} 0 1 = cc in absurd (omega arith)
one_answer v (Err f) (Ok u) p q = let z : ◌≡◌ {A = ℕ} 0 1 = cc in absurd (omega arith)
one_answer v (Err f) (Err g) p q =
    let e : ◌≡◌ {A = spec.Verdict} (spec.Faulty (number_of f.refusal) f.index) (spec.Faulty (number_of g.refusal) g.index) = p ∙ sym q in
    let numbers : number_of f.refusal ≡ number_of g.refusal = cc in
    let indexes : f.index ≡ g.index = cc in
    ap₂ (λ (r : Refusal) (i : ℕ). Err (record { refusal = r; index = i })) (same_refusal numbers) indexes
