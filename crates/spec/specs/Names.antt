-- Names for the numbers of the user's rules: refusals, kinds, wire types, columns, limits. The code has the same names in capitals (src/).
-- Each is an `abbrev`: to the checker a name and its number are one and the same.
-- Assumes nothing: these are definitions. Public promises cite it.
use Rattle.std.specs.Prelude.{ℕ}

-- ---- refusals

-- input or enclosing length ends too soon
abbrev pub ends_early : ℕ
ends_early = 1

-- bad varint
abbrev pub bad_varint : ℕ
bad_varint = 2

-- bad tag
abbrev pub bad_tag : ℕ
bad_tag = 3

-- end-group tag with no group open
abbrev pub no_group_open : ℕ
no_group_open = 4

-- int32 or enum out of range
abbrev pub out_of_range : ℕ
out_of_range = 5

-- string not UTF-8
abbrev pub not_utf8 : ℕ
not_utf8 = 6

-- too deep
abbrev pub too_deep : ℕ
too_deep = 7

-- more records than room
abbrev pub no_room : ℕ
no_room = 8

-- bad schema
abbrev pub invalid_schema : ℕ
invalid_schema = 9

-- bad list
abbrev pub invalid_list : ℕ
invalid_list = 10

-- input, or size to write, above the size limit
abbrev pub too_large : ℕ
too_large = 11

-- output too short
abbrev pub output_short : ℕ
output_short = 12

-- no segment: shorter than its front, or another mark
abbrev pub bad_mark : ℕ
bad_mark = 13

-- a segment of another version
abbrev pub other_version : ℕ
other_version = 14

-- ---- kinds: those of descriptor.proto (10, a group, is in no schema), and our own

abbrev pub double_kind : ℕ
double_kind = 1

abbrev pub float_kind : ℕ
float_kind = 2

abbrev pub int64_kind : ℕ
int64_kind = 3

abbrev pub uint64_kind : ℕ
uint64_kind = 4

abbrev pub int32_kind : ℕ
int32_kind = 5

abbrev pub fixed64_kind : ℕ
fixed64_kind = 6

abbrev pub fixed32_kind : ℕ
fixed32_kind = 7

abbrev pub bool_kind : ℕ
bool_kind = 8

abbrev pub string_kind : ℕ
string_kind = 9

abbrev pub group_kind : ℕ
group_kind = 10

abbrev pub message_kind : ℕ
message_kind = 11

abbrev pub bytes_kind : ℕ
bytes_kind = 12

abbrev pub uint32_kind : ℕ
uint32_kind = 13

abbrev pub enum_kind : ℕ
enum_kind = 14

abbrev pub sfixed32_kind : ℕ
sfixed32_kind = 15

abbrev pub sfixed64_kind : ℕ
sfixed64_kind = 16

abbrev pub sint32_kind : ℕ
sint32_kind = 17

abbrev pub sint64_kind : ℕ
sint64_kind = 18

-- the first number that descriptor.proto has no kind for
abbrev pub own_kinds : ℕ
own_kinds = 19

-- the head of a packed field
abbrev pub packed_head : ℕ
packed_head = 20

-- fields that the schema does not say, by wire type
abbrev pub unknown_varint : ℕ
unknown_varint = 21

abbrev pub unknown_fixed64 : ℕ
unknown_fixed64 = 22

abbrev pub unknown_bytes : ℕ
unknown_bytes = 23

abbrev pub unknown_fixed32 : ℕ
unknown_fixed32 = 24

-- the start and the end of a group
abbrev pub group_start : ℕ
group_start = 25

abbrev pub group_end : ℕ
group_end = 26

-- A record of what reading drops, a skipped group or an empty packed field, where it is asked for. It has the number of a group's start: no list may have either.
abbrev pub dropped_span : ℕ
dropped_span = 25

-- the records of a list have the kinds below this one; there are no kinds from the second on
abbrev pub record_kinds : ℕ
record_kinds = 25

abbrev pub all_kinds : ℕ
all_kinds = 27

-- ---- wire types

abbrev pub varint_wire : ℕ
varint_wire = 0

abbrev pub fixed64_wire : ℕ
fixed64_wire = 1

abbrev pub delimited_wire : ℕ
delimited_wire = 2

abbrev pub start_group_wire : ℕ
start_group_wire = 3

abbrev pub end_group_wire : ℕ
end_group_wire = 4

abbrev pub fixed32_wire : ℕ
fixed32_wire = 5

-- which no tag has: there is no such kind
abbrev pub no_wire : ℕ
no_wire = 7

-- ---- the columns of a record, in lent numbers (how many there are: `Record.stride`)

abbrev pub depth_column : ℕ
depth_column = 0

abbrev pub number_column : ℕ
number_column = 1

abbrev pub kind_column : ℕ
kind_column = 2

abbrev pub value_column : ℕ
value_column = 3

abbrev pub start_column : ℕ
start_column = 4

abbrev pub stop_column : ℕ
stop_column = 5

abbrev pub tag_column : ℕ
tag_column = 6

-- ---- the columns of an entry (how many there are: `Schema.entry_stride`)

abbrev pub owner_column : ℕ
owner_column = 0

abbrev pub entry_number_column : ℕ
entry_number_column = 1

abbrev pub entry_kind_column : ℕ
entry_kind_column = 2

abbrev pub repeated_column : ℕ
repeated_column = 3

abbrev pub child_column : ℕ
child_column = 4

-- ---- limits (the most bytes of a message: `Base.limit`)

-- the largest field number
abbrev pub largest_number : ℕ
largest_number = 536870911

-- the most message types and entries of a schema
abbrev pub most_types : ℕ
most_types = 32

abbrev pub most_entries : ℕ
most_entries = 256

-- how many messages, and how many groups, may be open around a field
abbrev pub most_levels : ℕ
most_levels = 100

-- the depth of the deepest records: the values of a packed field in the deepest message
abbrev pub deepest : ℕ
deepest = 101
