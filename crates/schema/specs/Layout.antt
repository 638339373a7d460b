-- How the two tables of a schema are laid out: names for the numbers of specs/Tables. The code has the same names in capitals (src/layout), but for `not_found`.
--     keys[e]                   entry e: `owner_unit` times its owner, plus 8 times its number, plus its wire type; unused ones are `no_key`
--     info[guesses * t + n]     a guess at the entry of type t and number n below `guesses`; keys says whether it is right
--     info[kinds_at + e]        the kind of entry e
--     info[inners_at + e]       its child type, or `may_pack`
-- Each is an `abbrev`: to the checker a name and its number are one and the same.
-- Assumes nothing: these are definitions. Public promises cite it.
use Rattle.std.specs.Prelude.{ℕ, ◌*◌}
use Rattle.spec.specs.Names.{most_entries}
use Rattle.spec.specs.Schema.{entry_stride}

-- ---- keys

-- how many keys there are, and the answer of a search that finds none: the first place after the last key
abbrev pub key_count : ℕ
key_count = most_entries

abbrev pub not_found : ℕ
not_found = key_count

-- what an owner is multiplied by in a key: 2 ^ 32
abbrev pub owner_unit : ℕ
owner_unit = 4294967296

-- the key at a place that no entry has, which no tag of a message has: 2 ^ 64 - 1
abbrev pub no_key : ℕ
no_key = 18446744073709551615

-- ---- info

-- how many guesses a message type has: one for each field number below this
abbrev pub guesses : ℕ
guesses = 16

-- the tags that have guesses are below this: guesses * 8. They are those of one byte
abbrev pub guessed_tags : ℕ
guessed_tags = 128

-- where the kinds of the entries begin, after the guesses of all types: guesses * most_types
abbrev pub kinds_at : ℕ
kinds_at = 512

-- where the child types begin, after the kinds: kinds_at + most_entries
abbrev pub inners_at : ℕ
inners_at = 768

-- how many bytes there are in all: inners_at + most_entries
abbrev pub info_length : ℕ
info_length = 1024

-- what stands for the child type of a field that may be packed: more than any type
abbrev pub may_pack : ℕ
may_pack = 255

-- ---- the schema as numbers

-- the most numbers that a schema's entries are
abbrev pub most_numbers : ℕ
most_numbers = most_entries * entry_stride
