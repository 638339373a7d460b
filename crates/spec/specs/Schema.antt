-- A schema, when it is valid, and what it says of a field. Assumes nothing: these are definitions. Public promises cite it.
use Rattle.std.specs.Prelude.{ℕ, zero, suc, ◌+◌, ◌/◌, ◌%◌, Bool, true, false, not, ◌&&◌, ◌||◌, List, [], ◌∷◌, length, drop, get_or, leb, ltb, eqb, if◌then◌else◌}
use Rattle.std.proofs.Math.Option.{Option, none, some}
use Rattle.spec.specs.Names.{double_kind, group_kind, message_kind, sint64_kind, packed_head, unknown_varint, unknown_fixed64, unknown_bytes, unknown_fixed32, group_start, group_end, delimited_wire, owner_column, entry_number_column, entry_kind_column, repeated_column, child_column, largest_number, most_types, most_entries}
use Rattle.spec.specs.Base.{between}
use Rattle.spec.specs.Kind.{shape, is_scalar, wire}
use Rattle.spec.specs.declared.Entry.{Entry}

-- how many message types there are, of which 0 is the root, and the entries
pub record Schema : Type 0 where
  pub types : ℕ
  pub entries : List Entry

-- ---- which are valid

-- the entry comes after the one of this owner and number
abbrev pub rises : ℕ → ℕ → Entry → Bool
rises owner number e = ltb owner e.owner || eqb owner e.owner && ltb number e.number

unfoldable pub good_entry : ℕ → Entry → Bool
good_entry types e =
    ltb e.owner types
    && between 1 largest_number e.number
    && between double_kind sint64_kind e.kind && not (eqb e.kind group_kind)
    && (if eqb e.kind message_kind then ltb e.child types else eqb e.child 0)

-- the place of the first bad entry, counted from i; the entry before has this owner and number (0 and 0 before the first)
unfoldable pub bad_entry : ℕ → ℕ → ℕ → ℕ → List Entry → Option ℕ
bad_entry types owner number i [] = none
bad_entry types owner number i (e ∷ es) =
    let later = bad_entry types e.owner e.number (i + 1) es in
    if rises owner number e && good_entry types e then later else some i

unfoldable pub bad_schema : Schema → Option ℕ
bad_schema sch =
    if between 1 most_types sch.types && leb (length sch.entries) most_entries
    then bad_entry sch.types 0 0 0 sch.entries
    else some 0

-- ---- what it says

-- no entry: of kind 0, whose wire type no tag has
abbrev pub no_entry : Entry
no_entry = record { owner = 0; number = 0; kind = 0; repeated = false; child = 0 }

-- the first entry of this owner and number, and its place
unfoldable pub lookup : List Entry → ℕ → ℕ → Entry
lookup [] owner number = no_entry
lookup (e ∷ es) owner number =
    let later = lookup es owner number in
    if eqb e.owner owner && eqb e.number number then e else later

unfoldable pub place_of : ℕ → List Entry → ℕ → ℕ → Option ℕ
place_of i [] owner number = none
place_of i (e ∷ es) owner number =
    let later = place_of (i + 1) es owner number in
    if eqb e.owner owner && eqb e.number number then some i else later

-- the kind of a field of this wire type that the schema does not say
unfoldable pub unknown_kind : ℕ → ℕ
unknown_kind w = get_or (unknown_varint ∷ unknown_fixed64 ∷ unknown_bytes ∷ group_start ∷ group_end ∷ unknown_fixed32 ∷ []) w 0

-- The kind that a field of this wire type is read as: a known number with its wire type is typed; a repeated entry of
-- a kind that is one number takes wire type 2 as packed too; all else is unknown.
unfoldable pub kind_of : Entry → ℕ → ℕ
kind_of e w =
    if eqb w (wire e.kind) then e.kind else
    if e.repeated && is_scalar (shape e.kind) && eqb w delimited_wire then packed_head else
    unknown_kind w

-- What a schema says of a field: the kind that it is read as, and what is in it, which is the type of a message's fields or the kind of a
-- packed field's elements (else 0).
pub record Says : Type 0 where
  pub kind : ℕ
  pub inner : ℕ

abbrev pub inside_of : ℕ → Entry → ℕ
inside_of kind e = if eqb kind packed_head then e.kind else if eqb kind message_kind then e.child else 0

unfoldable pub says_of : Entry → ℕ → Says
says_of e w = record { kind = kind_of e w; inner = inside_of (kind_of e w) e }

-- of a tag in a message of this type
unfoldable pub says : Schema → (type tag : ℕ) → Says
says sch type t = says_of (lookup sch.entries type (t / 8)) (t % 8)

-- ---- as numbers, five to an entry: owner, number, kind, repeated (0 or 1), child

abbrev pub entry_stride : ℕ
entry_stride = 5

-- Numbers whose `repeated` is neither 0 nor 1 are no entry, which no valid schema has.
unfoldable pub entry_of : (owner number kind repeated child : ℕ) → Entry
entry_of o n k r c = if ltb r 2 then record { owner = o; number = n; kind = k; repeated = eqb r 1; child = c } else no_entry

unfoldable pub entries_of : ℕ → List ℕ → List Entry
entries_of zero ns = []
entries_of (suc k) ns =
    entry_of (get_or ns owner_column 0) (get_or ns entry_number_column 0) (get_or ns entry_kind_column 0) (get_or ns repeated_column 0) (get_or ns child_column 0)
    ∷ entries_of k (drop entry_stride ns)

-- A remainder after the whole entries is a wrong count of entries: it is a schema of no types, which is bad at 0.
unfoldable pub schema_of : ℕ → List ℕ → Schema
schema_of types ns =
    if eqb (length ns % entry_stride) 0
    then record { types = types; entries = entries_of (length ns / entry_stride) ns }
    else record { types = 0; entries = [] }

-- the numbers of an entry, and of a list of them
abbrev pub bit : Bool → ℕ
bit true = 1
bit false = 0

unfoldable pub copied : List Entry → List ℕ
copied [] = []
copied (e ∷ es) = e.owner ∷ e.number ∷ e.kind ∷ bit e.repeated ∷ e.child ∷ copied es
