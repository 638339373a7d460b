-- The schemas A and B of the user's rules, and the cases that the rules mark to be proved, as one list under one statement; the numbers of the rules' tables; sizes at each rung of the ladder;
-- groups that end under their own number, and under another; where letters are broken; dropped spans.
-- Assumes nothing.
use Prim.Native.Nat.{ℕ}
use mathlib.Core.Path.{◌≡◌, refl}
use mathlib.Core.Bool.{Bool, true, false}
use mathlib.Core.List.{List, [], ◌∷◌, ◌++◌, map}
use lib.ListN.{replicate}
use lib.Count.{count_leading_zeros}
use Rattle.spec.specs.Names.{dropped_span, depth_column, number_column, kind_column, value_column, start_column, stop_column, tag_column, bad_mark, bad_tag, bad_varint, bool_kind, bytes_kind, delimited_wire, double_kind, end_group_wire, ends_early, enum_kind, fixed32_kind, fixed32_wire, fixed64_kind, fixed64_wire, float_kind, group_kind, int32_kind, int64_kind, invalid_list, invalid_schema, largest_number, message_kind, most_entries, most_levels, most_types, no_group_open, no_room, not_utf8, other_version, out_of_range, output_short, packed_head, sfixed32_kind, sfixed64_kind, sint32_kind, sint64_kind, start_group_wire, string_kind, too_deep, too_large, uint32_kind, uint64_kind, unknown_bytes, unknown_fixed32, unknown_fixed64, unknown_varint, varint_wire}
use Rattle.spec.specs.Base.{Read, Took, No, meaning, require, longer, ◌>>=◌, digit, limited}
use Rattle.spec.specs.Varint.{varint, size, unzigzag, fixed, tag}
use Rattle.spec.specs.Utf8.{lead, followers, behind, char, chars, valid_prefix}
use Rattle.spec.specs.Kind.{kind_wires, own_wires, wires, wire, shapes, shape, is_scalar, extend, scalar}
use Rattle.spec.specs.Schema.{Schema, good_entry, bad_entry, bad_schema, lookup, unknown_kind, kind_of, says, says_of}
use Rattle.spec.specs.Skip.{content, plain, skip_field, skip_group, skip_field_for_tag, read_unknown_or_skip_group}
use Rattle.spec.specs.Document.{passed, closed, step, go_on, is_run, is_document}
use Rattle.spec.specs.Record.{stride, numbers}
use Rattle.spec.specs.Pull as pull
use Rattle.spec.specs.Reading.{plainly, asking, given, shaped, field, used, ◌followed_by◌, element, elements, contents, span, records, fields, read, within, refused_or, called, reading_by, reading_as, reading, number, place, listed}
use Rattle.spec.specs.declared.Entry.{Entry}

abbrev entry : ℕ → ℕ → ℕ → Bool → ℕ → Entry
entry o n k r c = record { owner = o; number = n; kind = k; repeated = r; child = c }

-- schema A; B is A without 4, 5, 7 of type 0 and 2 of type 1
unfoldable pub schema_a : Schema
schema_a = record {
  types = 2;
  entries =
      entry 0 1 5 false 0 ∷ entry 0 2 9 false 0 ∷ entry 0 3 11 false 1
      ∷ entry 0 4 17 true 0 ∷ entry 0 5 2 false 0 ∷ entry 0 7 8 false 0
      ∷ entry 1 1 13 false 0 ∷ entry 1 2 12 false 0 ∷ entry 1 3 11 false 1 ∷ [];
}

unfoldable pub schema_b : Schema
schema_b = record {
  types = 2;
  entries =
      entry 0 1 5 false 0 ∷ entry 0 2 9 false 0 ∷ entry 0 3 11 false 1
      ∷ entry 1 1 13 false 0 ∷ entry 1 3 11 false 1 ∷ [];
}

-- what the program shows: number and place, and the records
abbrev reads : Schema → List ℕ → List (List ℕ)
reads sch s = let q = reading sch 1024 s in (number q ∷ place q ∷ []) ∷ map numbers (listed q)

-- with dropped spans, and this room
abbrev spans : ℕ → Schema → List ℕ → List (List ℕ)
spans room sch s = let q = reading_as (asking true plainly) sch room s in (number q ∷ place q ∷ []) ∷ map numbers (listed q)

abbrev answer : Read → List (List ℕ)
answer (Took v n) = (0 ∷ n ∷ []) ∷ []
answer (No k) = (k ∷ 0 ∷ []) ∷ []

pub record Case : Type 0 where
  pub is : List (List ℕ)
  pub should : List (List ℕ)

infix 5 ◌gives◌
abbrev ◌gives◌ : List (List ℕ) → List (List ℕ) → Case
a gives b = record { is = a; should = b }

abbrev refused : ℕ → ℕ → List (List ℕ)
refused k p = (k ∷ p ∷ []) ∷ []

abbrev well : List (List ℕ) → List (List ℕ)
well rows = (0 ∷ 0 ∷ []) ∷ rows

abbrev seven : ℕ → ℕ → ℕ → ℕ → ℕ → ℕ → ℕ → List ℕ
seven d n k v a e t = d ∷ n ∷ k ∷ v ∷ a ∷ e ∷ t ∷ []

abbrev listing : List ℕ
listing = 0x08 ∷ 0x96 ∷ 0x01 ∷ 0x12 ∷ 0x02 ∷ 0x4f ∷ 0x4b ∷ 0x1a ∷ 0x04 ∷ 0x08 ∷ 0x05 ∷ 0x12 ∷ 0x00 ∷ 0x22 ∷ 0x04 ∷ 0x01 ∷ 0x02 ∷ 0x80 ∷ 0x01 ∷ []

pub cases : List Case
cases =
    (reads schema_a listing gives well (
    seven 0 1 5 150 1 3 0 ∷ seven 0 2 9 0 5 7 3 ∷ seven 0 3 11 0 9 13 7 ∷ seven 1 1 13 5 10 11 9 ∷ seven 1 2 12 0 13 13 11
    ∷ seven 0 4 20 0 15 19 13 ∷ seven 1 4 17 18446744073709551615 15 16 13 ∷ seven 1 4 17 1 16 17 13 ∷ seven 1 4 17 64 17 19 13 ∷ []))
    ∷ (reads schema_b listing gives well (
    seven 0 1 5 150 1 3 0 ∷ seven 0 2 9 0 5 7 3 ∷ seven 0 3 11 0 9 13 7 ∷ seven 1 1 13 5 10 11 9 ∷ seven 1 2 23 0 13 13 11 ∷ seven 0 4 23 0 15 19 13 ∷ []))
    ∷ (reads schema_a [] gives well [])
    ∷ (reads schema_a (0x08 ∷ []) gives refused 1 0)
    ∷ (reads schema_a (0x0c ∷ []) gives refused 4 0)
    ∷ (reads schema_a (0x08 ∷ 0x80 ∷ 0x80 ∷ 0x80 ∷ 0x80 ∷ 0x08 ∷ []) gives refused 5 0)
    ∷ (reads schema_a (0x08 ∷ replicate 9 0xff ++ 0x01 ∷ []) gives well (seven 0 1 5 18446744073709551615 1 11 0 ∷ []))
    ∷ (reads schema_a (0x08 ∷ replicate 9 0xff ++ 0x02 ∷ []) gives refused 2 0)
    ∷ (reads schema_a (0x88 ∷ 0x00 ∷ 0x05 ∷ []) gives well (seven 0 1 5 5 2 3 0 ∷ []))
    ∷ (reads schema_a (0x1a ∷ 0x06 ∷ 0x08 ∷ 0x80 ∷ 0x80 ∷ 0x80 ∷ 0x80 ∷ 0x10 ∷ []) gives ((2 ∷ 2 ∷ []) ∷ seven 0 3 11 0 2 8 0 ∷ []))
    ∷ (reads schema_a (0x12 ∷ 0x01 ∷ 0xff ∷ []) gives refused 6 2)
    ∷ (reads schema_a (0x0b ∷ 0x14 ∷ []) gives well [])
    ∷ (reads schema_a (0x0b ∷ 0x13 ∷ []) gives refused 1 0)
    ∷ (answer (skip_field_for_tag 0x0b 0 (0x13 ∷ [])) gives ((0 ∷ 1 ∷ []) ∷ []))
    ∷ (reads schema_a (0x22 ∷ 0x00 ∷ []) gives well [])
    ∷ []

pub all_right : map (λ (c : Case). c.is) cases ≡ map (λ (c : Case). c.should) cases
unfolding cases schema_a schema_b meaning require longer ◌>>=◌ digit varint unzigzag fixed tag lead followers behind char chars valid_prefix kind_wires own_wires wires wire shapes shape is_scalar extend scalar good_entry bad_entry bad_schema lookup unknown_kind kind_of says says_of content plain skip_field skip_group skip_field_for_tag given shaped field used ◌followed_by◌ element elements contents span records fields read within refused_or called reading_by reading_as reading number place listed numbers
all_right = refl

-- ---- the numbers that the rules give to the names of specs/Names

pub refusals_are :
    ends_early ∷ bad_varint ∷ bad_tag ∷ no_group_open ∷ out_of_range ∷ not_utf8 ∷ too_deep ∷ no_room ∷ invalid_schema ∷ invalid_list ∷ too_large ∷ output_short ∷ bad_mark ∷ other_version ∷ []
    ≡ 1 ∷ 2 ∷ 3 ∷ 4 ∷ 5 ∷ 6 ∷ 7 ∷ 8 ∷ 9 ∷ 10 ∷ 11 ∷ 12 ∷ 13 ∷ 14 ∷ []
refusals_are = refl

pub kinds_are :
    double_kind ∷ float_kind ∷ int64_kind ∷ uint64_kind ∷ int32_kind ∷ fixed64_kind ∷ fixed32_kind ∷ bool_kind ∷ string_kind ∷ group_kind ∷ message_kind ∷ bytes_kind
    ∷ uint32_kind ∷ enum_kind ∷ sfixed32_kind ∷ sfixed64_kind ∷ sint32_kind ∷ sint64_kind ∷ packed_head ∷ unknown_varint ∷ unknown_fixed64 ∷ unknown_bytes ∷ unknown_fixed32 ∷ dropped_span ∷ []
    ≡ 1 ∷ 2 ∷ 3 ∷ 4 ∷ 5 ∷ 6 ∷ 7 ∷ 8 ∷ 9 ∷ 10 ∷ 11 ∷ 12 ∷ 13 ∷ 14 ∷ 15 ∷ 16 ∷ 17 ∷ 18 ∷ 20 ∷ 21 ∷ 22 ∷ 23 ∷ 24 ∷ 25 ∷ []
kinds_are = refl

pub columns_are : depth_column ∷ number_column ∷ kind_column ∷ value_column ∷ start_column ∷ stop_column ∷ tag_column ∷ stride ∷ [] ≡ 0 ∷ 1 ∷ 2 ∷ 3 ∷ 4 ∷ 5 ∷ 6 ∷ 7 ∷ []
columns_are = refl

pub wires_are : varint_wire ∷ fixed64_wire ∷ delimited_wire ∷ start_group_wire ∷ end_group_wire ∷ fixed32_wire ∷ [] ≡ 0 ∷ 1 ∷ 2 ∷ 3 ∷ 4 ∷ 5 ∷ []
wires_are = refl

pub limits_are : largest_number ∷ most_types ∷ most_entries ∷ most_levels ∷ [] ≡ 536870911 ∷ 32 ∷ 256 ∷ 100 ∷ []
limits_are = refl

-- the largest size that may be read or written, and one more
pub limit_is : limited 2147483647 ∷ limited 2147483648 ∷ [] ≡ Took 2147483647 0 ∷ No 11 ∷ []
unfolding limited
limit_is = refl

-- ---- sizes on both sides of each rung of the ladder: 16,384 takes three bytes, where 16,383 takes two

pub sizes_are :
    map size (
    0 ∷ 127 ∷ 128 ∷ 16383 ∷ 16384 ∷ 2097151 ∷ 2097152 ∷ 268435455 ∷ 268435456 ∷ 34359738367
    ∷ 34359738368 ∷ 4398046511103 ∷ 4398046511104 ∷ 562949953421311 ∷ 562949953421312 ∷ 72057594037927935 ∷ 72057594037927936 ∷ 9223372036854775807 ∷ 9223372036854775808 ∷ 18446744073709551615 ∷ [])
    ≡ 1 ∷ 1 ∷ 2 ∷ 2 ∷ 3 ∷ 3 ∷ 4 ∷ 4 ∷ 5 ∷ 5 ∷ 6 ∷ 6 ∷ 7 ∷ 7 ∷ 8 ∷ 8 ∷ 9 ∷ 9 ∷ 10 ∷ 10 ∷ []
unfolding size count_leading_zeros
sizes_are = refl

-- ---- in a document a group ends under its own number; reading (`0b 14` above) and both skips take any end-group tag

pub documents_are :
    map is_document (
    (0x0b ∷ 0x0c ∷ []) ∷ (0x0b ∷ 0x14 ∷ [])
    -- the Encoding page's: opened as 8 and closed as 8; closed as 7
    ∷ (0x43 ∷ 0x44 ∷ []) ∷ (0x43 ∷ 0x3c ∷ [])
    -- a group in a group: each under its own number; the ends exchanged; the inner one's number not its own; the outer one's
    ∷ (0x0b ∷ 0x13 ∷ 0x14 ∷ 0x0c ∷ []) ∷ (0x0b ∷ 0x13 ∷ 0x0c ∷ 0x14 ∷ []) ∷ (0x0b ∷ 0x13 ∷ 0x0c ∷ 0x0c ∷ []) ∷ (0x0b ∷ 0x13 ∷ 0x14 ∷ 0x14 ∷ [])
    -- one after the other
    ∷ (0x0b ∷ 0x0c ∷ 0x13 ∷ 0x14 ∷ []) ∷ (0x0b ∷ 0x0c ∷ 0x13 ∷ 0x0c ∷ [])
    -- the number counts, not the bytes of the tag; contents are not opened
    ∷ (0x8b ∷ 0x00 ∷ 0x0c ∷ []) ∷ (0x0b ∷ 0x1a ∷ 0x01 ∷ 0x14 ∷ 0x0c ∷ []) ∷ [])
    ≡ true ∷ false ∷ true ∷ false ∷ true ∷ false ∷ false ∷ false ∷ true ∷ false ∷ true ∷ true ∷ []
unfolding is_document is_run step closed passed go_on tag require varint digit longer plain content meaning ◌>>=◌
documents_are = refl

pub skips_are : skip_field_for_tag 0x0b 0 (0x14 ∷ []) ∷ read_unknown_or_skip_group 0x0b 0 (0x14 ∷ []) ∷ [] ≡ Took 0 1 ∷ Took 0 1 ∷ []
unfolding skip_field_for_tag read_unknown_or_skip_group skip_field skip_group plain content tag require varint digit longer meaning ◌>>=◌
skips_are = refl

-- ---- refusal 6 is at the first byte of a broken letter, as the case `12 01 ff` above

-- messages in each other, with strings
unfoldable pub nested : Schema
nested = record { types = 1; entries = entry 0 1 11 true 0 ∷ entry 0 2 9 true 0 ∷ [] }

pub letters_are :
    map (reads nested) (
    -- a byte that may not stand there; no byte more, as the content ends within the letter
    (0x12 ∷ 0x03 ∷ 0x4b ∷ 0xe0 ∷ 0x80 ∷ []) ∷ (0x12 ∷ 0x04 ∷ 0x4f ∷ 0xc3 ∷ 0xa9 ∷ 0xe2 ∷ [])
    -- in the second string; in a message in a message, whose heads stand
    ∷ (0x12 ∷ 0x01 ∷ 0x4b ∷ 0x12 ∷ 0x02 ∷ 0x4b ∷ 0xff ∷ []) ∷ (0x0a ∷ 0x06 ∷ 0x0a ∷ 0x04 ∷ 0x12 ∷ 0x02 ∷ 0x4b ∷ 0x80 ∷ [])
    -- the length comes first, and it is refused at the tag; an unknown content is not checked
    ∷ (0x12 ∷ 0x02 ∷ 0xff ∷ []) ∷ (0x1a ∷ 0x01 ∷ 0xff ∷ []) ∷ [])
    ≡ refused 6 3 ∷ refused 6 5
    ∷ ((6 ∷ 6 ∷ []) ∷ seven 0 2 9 0 2 3 0 ∷ []) ∷ ((6 ∷ 7 ∷ []) ∷ seven 0 1 11 0 2 8 0 ∷ seven 1 1 11 0 4 8 2 ∷ [])
    ∷ refused 1 0 ∷ well (seven 0 3 23 0 2 3 0 ∷ []) ∷ []
unfolding nested meaning require longer ◌>>=◌ digit varint unzigzag fixed tag lead followers behind char chars valid_prefix kind_wires own_wires wires wire shapes shape is_scalar extend scalar good_entry bad_entry bad_schema lookup unknown_kind kind_of says says_of content plain skip_field skip_group skip_field_for_tag given shaped field used ◌followed_by◌ element elements contents span records fields read within refused_or called reading_by reading_as reading number place listed numbers
letters_are = refl

-- the pull reader's place is in its own bytes, and it stays
pub pulled_are :
    pull.step_at (0x01 ∷ 0xff ∷ []) 0 0 pull.string ∷ pull.step_at (0x12 ∷ 0x04 ∷ 0x4f ∷ 0xc3 ∷ 0xa9 ∷ 0xe2 ∷ []) 1 0 pull.string ∷ []
    ≡ pull.says (pull.Refused 6 1) 0 ∷ pull.says (pull.Refused 6 5) 1 ∷ []
unfolding pull.step_at pull.spelled pull.moved content varint digit lead followers behind char chars valid_prefix
pulled_are = refl

-- ---- dropped spans, where they are asked for

-- groups and empty packed fields, in a message and in a message in it, between other fields
abbrev dropping : List ℕ
dropping = 0x08 ∷ 0x05 ∷ 0x1a ∷ 0x06 ∷ 0x1b ∷ 0x08 ∷ 0x01 ∷ 0x1c ∷ 0x08 ∷ 0x07 ∷ 0x22 ∷ 0x80 ∷ 0x00 ∷ []

pub spans_are :
    spans 1 schema_a (0x0b ∷ 0x14 ∷ []) ∷ spans 1 schema_a (0x22 ∷ 0x00 ∷ []) ∷ spans 5 schema_a dropping ∷ reads schema_a dropping
    -- a group in a group is in its span; what the schema does not have is not dropped
    ∷ spans 1 schema_a (0x0b ∷ 0x13 ∷ 0x14 ∷ 0x0c ∷ []) ∷ spans 1 schema_b (0x22 ∷ 0x00 ∷ [])
    -- no room: judged when the group has been skipped or the zero length read, so what is wrong with them comes first
    ∷ spans 0 schema_a (0x0b ∷ 0x0c ∷ []) ∷ spans 0 schema_a (0x0b ∷ 0x13 ∷ []) ∷ spans 1 schema_a (0x08 ∷ 0x05 ∷ 0x22 ∷ 0x00 ∷ []) ∷ spans 0 schema_a (0x22 ∷ 0x80 ∷ []) ∷ []
    ≡ well (seven 0 1 25 0 0 2 0 ∷ []) ∷ well (seven 0 4 25 0 0 2 0 ∷ [])
    ∷ well (seven 0 1 5 5 1 2 0 ∷ seven 0 3 11 0 4 10 2 ∷ seven 1 3 25 0 4 8 4 ∷ seven 1 1 13 7 9 10 8 ∷ seven 0 4 25 0 10 13 10 ∷ [])
    ∷ well (seven 0 1 5 5 1 2 0 ∷ seven 0 3 11 0 4 10 2 ∷ seven 1 1 13 7 9 10 8 ∷ [])
    ∷ well (seven 0 1 25 0 0 4 0 ∷ []) ∷ well (seven 0 4 23 0 2 2 0 ∷ [])
    ∷ refused 8 0 ∷ refused 1 0 ∷ ((8 ∷ 2 ∷ []) ∷ seven 0 1 5 5 1 2 0 ∷ []) ∷ refused 1 0 ∷ []
unfolding schema_a schema_b meaning require longer ◌>>=◌ digit varint unzigzag fixed tag lead followers behind char chars valid_prefix kind_wires own_wires wires wire shapes shape is_scalar extend scalar good_entry bad_entry bad_schema lookup unknown_kind kind_of says says_of content plain skip_field skip_group skip_field_for_tag given shaped field used ◌followed_by◌ element elements contents span records fields read within refused_or called reading_by reading_as reading number place listed numbers
spans_are = refl
