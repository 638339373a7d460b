-- What the parts of the list check ask and answer. The check goes over the records with the tables of a schema; a place in the list counts
-- numbers, `stride` to a record. Assumes nothing: these are definitions. Only inner functions and loops cite it.
use Rattle.std.specs.Prelude.{ℕ, zero, suc, ◌+◌, ◌*◌, ◌/◌, ◌%◌, ◌^◌, ◌≤◌, ◌<◌, ◌≡◌, Bool, true, false, not, ◌&&◌, ◌||◌, List, [], ◌∷◌, length, drop, get_or, leb, eqb, if◌then◌else◌, Option, Some, None, Result, Ok, Err}
use Rattle.std.proofs.Math.Option as math
use Rattle.spec.specs.Names.{enum_kind, fixed32_kind, fixed32_wire, float_kind, int32_kind, invalid_list, message_kind, not_utf8, packed_head, sfixed32_kind, sint32_kind, string_kind, uint32_kind, unknown_fixed32, most_types, record_kinds}
use Rattle.spec.specs.Base.{part}
use Rattle.spec.specs.Utf8.{utf8}
use Rattle.spec.specs.Kind.{Scalar, one, shape}
use Rattle.spec.specs.Schema.{Schema, bad_schema, lookup, says}
use Rattle.spec.specs.Record.{Record, row, records_of, stride}
use Rattle.spec.specs.Writing.{Place, Fields, Elements, Faulty, expected, list_fault}
use Rattle.schema.specs.Layout.{key_count, owner_unit}
use Rattle.schema.specs.Tables.{table_says}
use Rattle.spec.specs.Told.{number_of}
use Rattle.spec.specs.declared.refusals.Refusal.{Refusal}

-- ---- the tables

-- Tables of a valid schema: they say what it says, and a key that a tag can have is one of an entry.
pub record Made (sch : Schema) (keys info : List ℕ) : Type 0 where
  pub valid : bad_schema sch ≡ math.none
  pub same : (type t : ℕ) → type < most_types → 1 ≤ t / 8 → t < 2 ^ 32 → t % 8 ≤ fixed32_wire → table_says keys info type t ≡ says sch type t
  pub keyed : (i type t : ℕ) → i < key_count → type < most_types → t < 2 ^ 32 → get_or keys i 0 ≡ type * owner_unit + t → (1 ≤ t / 8) × (t % 8 ≤ fixed32_wire)

-- ---- one record

-- the fault of a content of this kind; 0 for none
unfoldable pub range_fault : List ℕ → (kind start stop : ℕ) → ℕ
range_fault payload kind start stop =
    if not (leb start stop && leb stop (length payload)) then invalid_list else
    if eqb kind string_kind && not (utf8 (part start stop payload)) then not_utf8 else 0

-- a fault's number; 0 for none
abbrev pub fault_number : Result (Unit {0}) Refusal → ℕ
fault_number (Ok u) = 0
fault_number (Err refusal) = number_of refusal

-- the kinds whose values have 32 signed bits, and those whose values have 32 bits
abbrev pub signed32_kind : ℕ → Bool
signed32_kind k = eqb k int32_kind || eqb k enum_kind || eqb k sfixed32_kind || eqb k sint32_kind

abbrev pub unsigned32_kind : ℕ → Bool
unsigned32_kind k = eqb k float_kind || eqb k fixed32_kind || eqb k uint32_kind || eqb k unknown_fixed32

-- a record of which only number and kind are looked at
abbrev pub named : (number kind : ℕ) → Record
named number kind = row 0 number kind 0 0 0 0

-- The number and kind are as expected in a message of this type; `inner` is what a head opens.
pub record Suits (sch : Schema) (type number kind inner : ℕ) : Type 0 where
  pub is : expected sch (Fields type) (named number kind) ≡ true
  pub fields : kind ≡ message_kind → (inner ≡ (lookup sch.entries type number).child) × (inner < most_types)
  pub elements : kind ≡ packed_head → (inner ≡ (lookup sch.entries type number).kind) × ((c : Scalar) × (shape inner ≡ one c))

pub data Answers (keys info : List ℕ) (type number kind : ℕ) : Option ℕ → Type 0 where
  suits : {inner : ℕ} → kind < record_kinds → ((sch : Schema) → Made sch keys info → type < most_types → Suits sch type number kind inner)
      → Answers keys info type number kind (Some inner)
  differs : ((sch : Schema) → Made sch keys info → type < most_types → expected sch (Fields type) (named number kind) ≡ false)
      → Answers keys info type number kind None

-- ---- the elements of a packed field

-- They end at a place, from which on only the places around them matter; or one of them has a fault.
pub data Elapsed (list : List ℕ) (from depth number kind : ℕ) : Result ℕ ℕ → Type 0 where
  passed : {e : ℕ} → from ≤ e → e ≤ length list → e % stride ≡ 0
      → ((sch : Schema) (payload : List ℕ) (out : List Place) (c : Scalar) → length out ≡ depth → 0 < depth → shape kind ≡ one c
      → list_fault sch payload (from / stride) (Elements number kind ∷ out) (records_of (drop from list)) ≡ list_fault sch payload (e / stride) out (records_of (drop e list)))
      → Elapsed list from depth number kind (Ok e)
  faulty : {e : ℕ}
      → ((sch : Schema) (payload : List ℕ) (out : List Place) (c : Scalar) → length out ≡ depth → 0 < depth → shape kind ≡ one c
      → list_fault sch payload (from / stride) (Elements number kind ∷ out) (records_of (drop from list)) ≡ Faulty invalid_list (e / stride))
      → Elapsed list from depth number kind (Err e)

-- ---- the places that are open, by their types

unfoldable pub fields_to : List ℕ → ℕ → List Place
fields_to types zero = Fields (get_or types 0 0) ∷ []
fields_to types (suc d) = Fields (get_or types (suc d) 0) ∷ fields_to types d
