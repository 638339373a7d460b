-- What the functions of this crate compute on the list of entries. Assumes nothing: these are definitions. Public promises cite it.
use Rattle.std.specs.Prelude.{ℕ, ◌+◌, ◌*◌, ◌/◌, ◌%◌, min, List, [], ◌∷◌, length, take, get_or, set, ltb, eqb, if◌then◌else◌}
use Rattle.spec.specs.Names.{child_column, entry_kind_column, entry_number_column, most_entries, repeated_column}
use Rattle.spec.specs.Schema.{bit, copied, entries_of, entry_of, schema_of, entry_stride}
use Rattle.spec.specs.declared.Entry.{Entry}
-- the numbers of as many entries as a schema may have
pub use Rattle.schema.specs.Layout.{most_numbers}

-- one entry more than a schema may have
abbrev pub one_more : ℕ
one_more = most_entries + 1

-- the entries that are copied: all of as many as a schema may have, else none
unfoldable pub few : List Entry → List Entry
few es = if ltb most_entries (length es) then [] else es

-- an array in which the numbers of an entry were stored at the places of entry i
unfoldable pub stored_at : List ℕ → ℕ → Entry → List ℕ
stored_at a i e =
    set (set (set (set (set a (i * entry_stride) e.owner) (i * entry_stride + entry_number_column) e.number) (i * entry_stride + entry_kind_column) e.kind) (i * entry_stride + repeated_column) (bit e.repeated)) (i * entry_stride + child_column) e.child

-- the same of the entries from place i on
unfoldable pub stored_from : List ℕ → ℕ → List Entry → List ℕ
stored_from a i [] = a
stored_from a i (e ∷ es) = stored_from (stored_at a i e) (i + 1) es

-- An array that the entries were copied to. Where it has room for them it begins with their numbers, and is else as it was (proofs/CopyLaws).
unfoldable pub copied_to : List Entry → List ℕ → List ℕ
copied_to es a = stored_from a 0 (few es)

-- What is lent on of a copy to an array: the numbers of the entries. Of more entries than a schema may have it is one number, which is no whole entry: a wrong count of entries.
unfoldable pub lent : List Entry → List ℕ → List ℕ
lent es a = if ltb most_entries (length es) then take 1 a else copied es

-- ---- entries of numbers

-- the entry of the five numbers from place i on
abbrev pub entry_at : List ℕ → ℕ → Entry
entry_at ns i = entry_of (get_or ns i 0) (get_or ns (i + entry_number_column) 0) (get_or ns (i + entry_kind_column) 0) (get_or ns (i + repeated_column) 0) (get_or ns (i + child_column) 0)

-- the entries that the calls over numbers make: as many as there are, or one more than a schema may have, and none of numbers with a remainder
abbrev pub made_entries : List ℕ → List Entry
made_entries ns = if eqb (length ns % entry_stride) 0 then entries_of (min (length ns / entry_stride) one_more) ns else []

-- the type count that stands for so many numbers: of numbers with a remainder it is a schema of no types
unfoldable pub types_of : ℕ → ℕ → ℕ
types_of types n = if eqb (n % entry_stride) 0 then types else 0

-- the entries of some numbers, of which a lookup sees one more than a schema may have
unfoldable pub first_entries : List ℕ → List Entry
first_entries ns = take one_more (schema_of 0 ns).entries
