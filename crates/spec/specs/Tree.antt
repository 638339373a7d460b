-- The grammar of valid lists: a list by its nesting, with the bytes that it is written as. It is a second definition of what `list_check` accepts and of what `written` gives.
-- Assumes nothing: these are definitions. Only laws cite it.
use Rattle.std.specs.Prelude.{ℕ, ◌+◌, ◌*◌, ◌≤◌, ◌<◌, ◌≡◌, true, List, [], ◌∷◌, ◌++◌, length}
use Rattle.std.proofs.Math.Option.{none}
use Rattle.spec.specs.Names.{largest_number, message_kind, most_levels, packed_head, fixed32_wire}
use Rattle.spec.specs.Base.{part}
use Rattle.spec.specs.Varint.{encode}
use Rattle.spec.specs.Utf8.{utf8}
use Rattle.spec.specs.Kind.{Scalar, one, other, string, bytes, shape, wire, encoded, fits}
use Rattle.spec.specs.Schema.{Schema, bad_schema, lookup, kind_of}
use Rattle.spec.specs.Record.{Record}
use Rattle.spec.specs.Writing.{prefixed, lies, written, Fine, list_check}

-- a record's number and kind are what reading gives in a message of type t
pub record Expected (sch : Schema) (t : ℕ) (r : Record) : Type 0 where
  pub low : 1 ≤ r.number
  pub high : r.number ≤ largest_number
  pub wired : wire r.kind ≤ fixed32_wire
  pub reads : kind_of (lookup sch.entries t r.number) (wire r.kind) ≡ r.kind

abbrev pub tag_bytes : Record → List ℕ
tag_bytes r = encode (r.number * 8 + wire r.kind)

-- values of a packed field: number, kind, and the scalar that the kind is
pub data Values (c : Scalar) (m k d : ℕ) : List Record → List ℕ → Type 0 where
  no_value : Values c m k d [] []
  value : {r : Record} {rs : List Record} {b : List ℕ} → r.depth ≡ d → r.number ≡ m → r.kind ≡ k → fits c r.value ≡ true
      → Values c m k d rs b → Values c m k d (r ∷ rs) (encoded c r.value ++ b)

pub data Tree (sch : Schema) (payload : List ℕ) : (t d : ℕ) → List Record → List ℕ → Type 0 where
  no_field : {t d : ℕ} → Tree sch payload t d [] []
  number : {t d : ℕ} {r : Record} {rs : List Record} {b : List ℕ} (c : Scalar) → r.depth ≡ d → Expected sch t r
      → shape r.kind ≡ one c → fits c r.value ≡ true
      → Tree sch payload t d rs b → Tree sch payload t d (r ∷ rs) (tag_bytes r ++ encoded c r.value ++ b)
  text : {t d : ℕ} {r : Record} {rs : List Record} {b : List ℕ} → r.depth ≡ d → Expected sch t r
      → shape r.kind ≡ other string → r.value ≡ 0 → lies payload r ≡ true → utf8 (part r.start r.stop payload) ≡ true
      → Tree sch payload t d rs b → Tree sch payload t d (r ∷ rs) (tag_bytes r ++ prefixed (part r.start r.stop payload) ++ b)
  blob : {t d : ℕ} {r : Record} {rs : List Record} {b : List ℕ} → r.depth ≡ d → Expected sch t r
      → shape r.kind ≡ other bytes → r.value ≡ 0 → lies payload r ≡ true
      → Tree sch payload t d rs b → Tree sch payload t d (r ∷ rs) (tag_bytes r ++ prefixed (part r.start r.stop payload) ++ b)
  inner : {t d : ℕ} {r : Record} {rs qs : List Record} {b i : List ℕ} → r.depth ≡ d → Expected sch t r
      → r.kind ≡ message_kind → r.value ≡ 0 → d < most_levels
      → Tree sch payload (lookup sch.entries t r.number).child (d + 1) qs i
      → Tree sch payload t d rs b → Tree sch payload t d (r ∷ (qs ++ rs)) (tag_bytes r ++ prefixed i ++ b)
  row_of : {t d : ℕ} {r : Record} {rs qs : List Record} {b i : List ℕ} (c : Scalar) → r.depth ≡ d → Expected sch t r
      → r.kind ≡ packed_head → r.value ≡ 0 → shape (lookup sch.entries t r.number).kind ≡ one c
      → Values c r.number (lookup sch.entries t r.number).kind (d + 1) qs i → 1 ≤ length qs
      → Tree sch payload t d rs b → Tree sch payload t d (r ∷ (qs ++ rs)) (tag_bytes r ++ prefixed i ++ b)

-- ---- the check and the grammar

-- A list that the check accepts has a tree, with the bytes that are written. TreeLaws.list_has_tree proves it.
abbrev pub ListHasTree : Type 0
ListHasTree = (sch : Schema) (payload : List ℕ) (rs : List Record) → list_check sch payload rs ≡ Fine → Tree sch payload 0 0 rs (written payload rs)

-- And a list with a tree is accepted, under a valid schema, and written as the tree's bytes. TreeLaws.tree_is_list proves it.
abbrev pub TreeIsList : Type 0
TreeIsList =
    (sch : Schema) (payload : List ℕ) (rs : List Record) (b : List ℕ) → bad_schema sch ≡ none → Tree sch payload 0 0 rs b
    → (list_check sch payload rs ≡ Fine) × (written payload rs ≡ b)
