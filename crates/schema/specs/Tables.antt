-- The tables of a schema, which a reader makes once for each call, and what they say of a tag. Any two arrays are tables: what they say is defined
-- for all of them, and that those made of a valid schema say what the schema says is a law (proofs/TableLaws).
-- How they are laid out, with the names of their places, is in specs/Layout.
-- Assumes nothing: these are definitions. Public promises cite it.
use Rattle.std.specs.Prelude.{ℕ, ◌+◌, ◌*◌, ◌/◌, ◌%◌, Bool, not, ◌&&◌, List, [], ◌∷◌, get_or, replicate, set, take, leb, ltb, eqb, if◌then◌else◌}
use Rattle.std.proofs.Math.Option.{Option, none, some}
use Rattle.spec.specs.Names.{delimited_wire, message_kind, most_types, packed_head}
use Rattle.spec.specs.Base.{between}
use Rattle.spec.specs.Kind.{wire}
use Rattle.spec.specs.Schema.{Schema, good_entry, bad_schema, entry_stride, Says, unknown_kind}
use Rattle.spec.specs.declared.Entry.{Entry}
use Rattle.schema.specs.Layout.{guessed_tags, guesses, info_length, inners_at, key_count, kinds_at, may_pack, most_numbers, no_key, not_found, owner_unit}
use Rattle.schema.specs.Search.{seek}

-- ---- which entries are in them

-- how many types there may be, and how many numbers
abbrev pub counted : (types count : ℕ) → Bool
counted types count = between 1 most_types types && leb count most_numbers && eqb (count % entry_stride) 0

-- those before the first bad one: all where the schema is valid, and none where a count is wrong
abbrev pub up_to : Option ℕ → List Entry → List Entry
up_to none es = es
up_to (some i) es = take i es

unfoldable pub sound_of : Schema → List Entry
sound_of sch = up_to (bad_schema sch) sch.entries

-- owner and number of an entry as one number, with room for a wire type below them
abbrev pub rank : Entry → ℕ
rank e = e.owner * owner_unit + e.number * 8

-- the same of a good entry whose rank is above the last one's, and else 0
unfoldable pub next_key : (types last : ℕ) → Entry → ℕ
next_key types last e = if good_entry types e && ltb last (rank e) then rank e else 0

-- ---- making them

abbrev pub key_of : Entry → ℕ
key_of e = rank e + wire e.kind

abbrev pub inner_in : ℕ → Bool → ℕ → ℕ
inner_in w repeated child = if repeated && not (eqb w delimited_wire) then may_pack else child

abbrev pub inner_of : Entry → ℕ
inner_of e = inner_in (wire e.kind) e.repeated e.child

-- entry i is noted
abbrev pub noted : (i owner number kind inner : ℕ) → List ℕ → List ℕ
noted i owner number kind inner info =
    let kinds = set (set info (kinds_at + i) kind) (inners_at + i) inner in
    if ltb number guesses then set kinds (owner * guesses + number) i else kinds

-- each entry from the i-th on does its part
unfoldable pub storing : (ℕ → Entry → List ℕ → List ℕ) → ℕ → List Entry → List ℕ → List ℕ
storing put i [] xs = xs
storing put i (e ∷ es) xs = storing put (i + 1) es (put i e xs)

abbrev pub put_key : ℕ → Entry → List ℕ → List ℕ
put_key i e keys = set keys i (key_of e)

abbrev pub put_info : ℕ → Entry → List ℕ → List ℕ
put_info i e info = noted i e.owner e.number e.kind (inner_of e) info

abbrev pub keys_with : ℕ → List Entry → List ℕ → List ℕ
keys_with = storing put_key

abbrev pub info_with : ℕ → List Entry → List ℕ → List ℕ
info_with = storing put_info

-- the tables of a schema: the entries before the first bad one, noted in cleared arrays
unfoldable pub keys_of : Schema → List ℕ
keys_of sch = keys_with 0 (sound_of sch) (replicate key_count no_key)

unfoldable pub info_of : Schema → List ℕ
info_of sch = info_with 0 (sound_of sch) (replicate info_length 0)

-- ---- asking them

-- the key at a place without its wire type
abbrev pub key_at : List ℕ → ℕ → ℕ
key_at keys i = get_or keys i 0 / 8

-- the entry of a tag in a message of this type, or `not_found`: the guess where its type and number are the tag's, and else by search
unfoldable pub entry_for : (keys info : List ℕ) → (type tag : ℕ) → ℕ
entry_for keys info type t =
    let key = (type * owner_unit + t) / 8 in
    let guess = get_or info (type * guesses + t / 8) 0 in
    let found = seek key_count (key_at keys) not_found key 0 key_count in
    if ltb t guessed_tags && ltb type most_types && eqb (key_at keys guess) key then guess else found

abbrev pub unknown : ℕ → Says
unknown t = record { kind = unknown_kind (t % 8); inner = 0 }

-- what entry i says of a tag that has its number; key is the tag's
unfoldable pub typed : (keys info : List ℕ) → (i key tag : ℕ) → Says
typed keys info i key t =
    let kind = get_or info (kinds_at + i) 0 in
    let inner = get_or info (inners_at + i) 0 in
    if eqb (get_or keys i 0) key then record { kind = kind; inner = if eqb kind message_kind then inner else 0 } else
    if eqb (t % 8) delimited_wire && eqb inner may_pack then record { kind = packed_head; inner = kind } else
    unknown t

unfoldable pub table_says : (keys info : List ℕ) → (type tag : ℕ) → Says
table_says keys info type t =
    let i = entry_for keys info type t in
    if ltb i key_count then typed keys info i (type * owner_unit + t) t else unknown t
