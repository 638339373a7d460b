-- Cases of demand 3 that are computed, as one list under one statement: schema B of the user's rules copies messages of A, and two generations of older
-- schemas copy a message with a string, three levels of messages, packed fields, a double and a negative enum that they lack.
-- Then the laws at two of these lists, which shows that their premises can be met. Assumes nothing.
use Prim.Native.Nat.{ℕ}
use mathlib.Core.Path.{◌≡◌, refl}
use mathlib.Core.Bool.{Bool, true, false}
use mathlib.Core.List.{List, [], ◌∷◌, ◌++◌, map}
use lib.ListN.{length, replicate}
use borrow.Author.Tests.{leb-true}
use Rattle.spec.specs.Base.{limit, meaning, require, longer, ◌>>=◌, digit}
use Rattle.spec.specs.Varint.{varint, shortest, zigzag, unzigzag, fixed, little, tag}
use Rattle.spec.specs.Utf8.{lead, followers, behind, char, chars, valid_prefix}
use Rattle.spec.specs.Kind.{kind_wires, own_wires, wires, wire, shapes, shape, is_scalar, scalar, encoded, fits}
use Rattle.spec.specs.Schema.{Schema, good_entry, bad_entry, bad_schema, lookup, unknown_kind, kind_of, says, says_of}
use Rattle.spec.specs.Skip.{content}
use Rattle.spec.specs.Record.{Record, row, deeper}
use Rattle.spec.specs.Reading.{given, shaped, field, used, ◌followed_by◌, element, elements, contents, span, records, fields, read, within, refused_or, called, reading_by, reading_as, reading, plainly, number, listed}
use Rattle.spec.specs.Writing.{body, bytes_of, written, expected, fitting, inside, record_fault, list_fault, schema_first, list_check, judged, sized, Writing, Wrote, writing}
use Rattle.spec.specs.declared.Entry.{Entry}
use Rattle.spec.proofs.Cases.{schema_a, schema_b}
use Rattle.onward.specs.Onward.{end, keep, leave_out, Older, Seen, held, seen, raw_of, raw, unknown, onward_one, onward_of, onward, GoesOnward}
use Rattle.onward.specs.Under.{first, later, nested, Opens}
use Rattle.onward.specs.Generations.{GoesOnwardTwice}
use Rattle.onward.proofs.OnwardLaws.{demand_three}
use Rattle.onward.proofs.UnderLaws.{opens_alone}
use Rattle.onward.proofs.GenerationLaws.{two_generations}

-- ---- what a case is

-- A list of records with its payload, and what it is to be: its bytes under the newer schema, and what the older one shows of them.
record Case : Type 0 where
  new : Schema
  old : Schema
  payload : List ℕ
  list : List Record
  bytes : List ℕ
  shown : List Seen

-- what is written; what is to be read, by the definition; a refusal; what is read; what is written of that
record Outcome : Type 0 where
  writes : Writing
  due : List Seen
  refusal : ℕ
  reads : List Seen
  again : Writing

abbrev goes : Case → Outcome
goes c =
    let q = reading c.old 100 c.bytes in
    record {
      writes = writing c.new 100 c.payload c.list;
      due = onward c.old c.payload c.list;
      refusal = number q;
      reads = map (seen c.bytes) (listed q);
      again = writing c.old 100 c.bytes (listed q);
    }

abbrev should : Case → Outcome
should c = record { writes = Wrote c.bytes; due = c.shown; refusal = 0; reads = c.shown; again = Wrote c.bytes }

abbrev rec : ℕ → ℕ → ℕ → ℕ → ℕ → ℕ → Record
rec d n k v a e = row d n k v a e 0

abbrev shows : ℕ → ℕ → ℕ → ℕ → List ℕ → Seen
shows d n k v c = record { depth = d; number = n; kind = k; value = v; content = c }

-- ---- schemas A and B: every way to be lacked, in a message and outside

abbrev payload_a : List ℕ
payload_a = 0x4f ∷ 0x4b ∷ 0xff ∷ []

abbrev list_a : List Record
list_a =
    rec 0 1 5 150 0 0 ∷ rec 0 2 9 0 0 2 ∷ rec 0 3 11 0 0 0
    ∷ rec 1 1 13 5 0 0 ∷ rec 1 2 12 0 1 3 ∷ rec 1 3 11 0 0 0 ∷ rec 2 2 12 0 2 2 ∷ rec 2 9 21 7 0 0 ∷ rec 1 2 12 0 0 0
    ∷ rec 0 4 20 0 0 0 ∷ rec 1 4 17 18446744073709551615 0 0 ∷ rec 1 4 17 64 0 0
    ∷ rec 0 4 17 18446744073709551614 0 0 ∷ rec 0 5 2 1065353216 0 0 ∷ rec 0 7 8 1 0 0 ∷ rec 0 2 9 0 1 2 ∷ []

abbrev bytes_a : List ℕ
bytes_a =
    0x08 ∷ 0x96 ∷ 0x01 ∷ 0x12 ∷ 0x02 ∷ 0x4f ∷ 0x4b ∷ 0x1a ∷ 0x0e ∷ 0x08 ∷ 0x05 ∷ 0x12 ∷ 0x02 ∷ 0x4b ∷ 0xff ∷ 0x1a ∷ 0x04 ∷ 0x12 ∷ 0x00 ∷ 0x48 ∷ 0x07 ∷ 0x12 ∷ 0x00
    ∷ 0x22 ∷ 0x03 ∷ 0x01 ∷ 0x80 ∷ 0x01 ∷ 0x20 ∷ 0x03 ∷ 0x2d ∷ 0x00 ∷ 0x00 ∷ 0x80 ∷ 0x3f ∷ 0x38 ∷ 0x01 ∷ 0x12 ∷ 0x01 ∷ 0x4b ∷ []

abbrev shown_b : List Seen
shown_b =
    shows 0 1 5 150 [] ∷ shows 0 2 9 0 (0x4f ∷ 0x4b ∷ []) ∷ shows 0 3 11 0 []
    ∷ shows 1 1 13 5 [] ∷ shows 1 2 23 0 (0x4b ∷ 0xff ∷ []) ∷ shows 1 3 11 0 [] ∷ shows 2 2 23 0 [] ∷ shows 2 9 21 7 [] ∷ shows 1 2 23 0 []
    ∷ shows 0 4 23 0 (0x01 ∷ 0x80 ∷ 0x01 ∷ [])
    ∷ shows 0 4 21 3 [] ∷ shows 0 5 24 1065353216 [] ∷ shows 0 7 21 1 [] ∷ shows 0 2 9 0 (0x4b ∷ []) ∷ []

-- ---- three generations

abbrev entry : ℕ → ℕ → ℕ → Bool → ℕ → Entry
entry o n k r c = record { owner = o; number = n; kind = k; repeated = r; child = c }

unfoldable pub newest : Schema
newest = record {
  types = 3;
  entries =
      entry 0 1 5 false 0 ∷ entry 0 2 9 false 0 ∷ entry 0 3 11 false 1 ∷ entry 0 4 17 true 0 ∷ entry 0 5 1 false 0 ∷ entry 0 6 14 false 0
      ∷ entry 1 1 13 false 0 ∷ entry 1 2 11 false 2 ∷ entry 2 1 9 false 0 ∷ entry 2 2 18 true 0 ∷ [];
}

-- without the double and the packed field of the innermost message
unfoldable pub middle : Schema
middle = record {
  types = 3;
  entries =
      entry 0 1 5 false 0 ∷ entry 0 2 9 false 0 ∷ entry 0 3 11 false 1 ∷ entry 0 4 17 true 0 ∷ entry 0 6 14 false 0
      ∷ entry 1 1 13 false 0 ∷ entry 1 2 11 false 2 ∷ entry 2 1 9 false 0 ∷ [];
}

-- without the string, the messages, the packed field and the enum of the root, too; its count of types is another
unfoldable pub oldest : Schema
oldest = record { types = 4; entries = entry 0 1 5 false 0 ∷ entry 1 1 13 false 0 ∷ entry 1 2 11 false 2 ∷ entry 2 1 9 false 0 ∷ [] }

abbrev payload : List ℕ
payload = 0x48 ∷ 0x69 ∷ 0xc3 ∷ 0xa9 ∷ []

abbrev list : List Record
list =
    rec 0 1 5 7 0 0 ∷ rec 0 2 9 0 0 2
    ∷ rec 0 3 11 0 0 0 ∷ rec 1 1 13 300 0 0
    ∷ rec 1 2 11 0 0 0 ∷ rec 2 1 9 0 2 4 ∷ rec 2 2 20 0 0 0 ∷ rec 3 2 18 18446744073709551615 0 0 ∷ rec 3 2 18 1 0 0
    ∷ rec 1 1 13 0 0 0
    ∷ rec 0 4 20 0 0 0 ∷ rec 1 4 17 18446744073709551614 0 0 ∷ rec 1 4 17 5 0 0
    ∷ rec 0 5 1 4607182418800017408 0 0 ∷ rec 0 6 14 18446744073709551615 0 0 ∷ []

-- the content of the root's message, and the whole
abbrev bytes_of_three : List ℕ
bytes_of_three = 0x08 ∷ 0xac ∷ 0x02 ∷ 0x12 ∷ 0x08 ∷ 0x0a ∷ 0x02 ∷ 0xc3 ∷ 0xa9 ∷ 0x12 ∷ 0x02 ∷ 0x01 ∷ 0x02 ∷ 0x08 ∷ 0x00 ∷ []

abbrev bytes : List ℕ
bytes =
    0x08 ∷ 0x07 ∷ 0x12 ∷ 0x02 ∷ 0x48 ∷ 0x69 ∷ 0x1a ∷ 0x0f ∷ (bytes_of_three
    ++ 0x22 ∷ 0x02 ∷ 0x03 ∷ 0x0a ∷ 0x29 ∷ 0x00 ∷ 0x00 ∷ 0x00 ∷ 0x00 ∷ 0x00 ∷ 0x00 ∷ 0xf0 ∷ 0x3f ∷ 0x30 ∷ replicate 9 0xff ++ 0x01 ∷ [])

abbrev shown_middle : List Seen
shown_middle =
    shows 0 1 5 7 [] ∷ shows 0 2 9 0 (0x48 ∷ 0x69 ∷ [])
    ∷ shows 0 3 11 0 [] ∷ shows 1 1 13 300 []
    ∷ shows 1 2 11 0 [] ∷ shows 2 1 9 0 (0xc3 ∷ 0xa9 ∷ []) ∷ shows 2 2 23 0 (0x01 ∷ 0x02 ∷ [])
    ∷ shows 1 1 13 0 []
    ∷ shows 0 4 20 0 [] ∷ shows 1 4 17 18446744073709551614 [] ∷ shows 1 4 17 5 []
    ∷ shows 0 5 22 4607182418800017408 [] ∷ shows 0 6 14 18446744073709551615 [] ∷ []

abbrev shown_oldest : List Seen
shown_oldest =
    shows 0 1 5 7 [] ∷ shows 0 2 23 0 (0x48 ∷ 0x69 ∷ []) ∷ shows 0 3 23 0 bytes_of_three ∷ shows 0 4 23 0 (0x03 ∷ 0x0a ∷ [])
    ∷ shows 0 5 22 4607182418800017408 [] ∷ shows 0 6 21 18446744073709551615 [] ∷ []

-- ---- the cases

abbrev cases : List Case
cases =
    record { new = schema_a; old = schema_b; payload = payload_a; list = list_a; bytes = bytes_a; shown = shown_b }
    ∷ record { new = newest; old = middle; payload = payload; list = list; bytes = bytes; shown = shown_middle }
    ∷ record { new = middle; old = oldest; payload = bytes; list = listed (reading middle 100 bytes); bytes = bytes; shown = shown_oldest }
    ∷ record { new = newest; old = oldest; payload = payload; list = list; bytes = bytes; shown = shown_oldest }
    ∷ []

pub all_right : map goes cases ≡ map should cases
unfolding schema_a schema_b newest middle oldest meaning require longer ◌>>=◌ digit varint shortest zigzag unzigzag fixed little tag lead followers behind char chars valid_prefix kind_wires own_wires wires wire shapes shape is_scalar scalar encoded fits good_entry bad_entry bad_schema lookup unknown_kind kind_of says says_of content given shaped field used ◌followed_by◌ element elements contents span records fields read within refused_or called reading_by reading_as reading number listed deeper body bytes_of written expected fitting inside record_fault list_fault schema_first list_check judged sized writing held seen raw_of raw unknown onward_one onward_of onward
all_right = refl

-- ---- the laws at these lists

b_is_older : Older schema_b schema_a
unfolding schema_a schema_b
b_is_older = record {
  fewer_entries = keep (keep (keep (leave_out (leave_out (leave_out (keep (leave_out (keep end))))))));
}

-- demand 3, with room for 16 records and 40 bytes
b_goes_onward : GoesOnward plainly schema_b schema_a payload_a list_a 16 40 (written payload_a list_a)
unfolding schema_a schema_b shortest zigzag little lead followers behind char chars valid_prefix kind_wires own_wires wires wire shapes shape is_scalar encoded fits good_entry bad_entry bad_schema lookup unknown_kind kind_of deeper body bytes_of written expected fitting inside record_fault list_fault schema_first list_check
b_goes_onward = demand_three plainly schema_b schema_a payload_a list_a 16 40 (record {
  older = b_is_older;
  old_valid = refl;
  new_valid = refl;
  list_valid = refl;
  small = leb-true (length (written payload_a list_a)) limit refl;
  room_lent = leb-true (length list_a) 16 refl;
  space_lent = leb-true (length (written payload_a list_a)) 40 refl;
})

-- two generations
all_three : GoesOnwardTwice plainly oldest middle newest payload list 15 47 (written payload list)
unfolding newest middle oldest shortest zigzag little lead followers behind char chars valid_prefix kind_wires own_wires wires wire shapes shape is_scalar encoded fits good_entry bad_entry bad_schema lookup unknown_kind kind_of deeper body bytes_of written expected fitting inside record_fault list_fault schema_first list_check
all_three =
    two_generations plainly oldest middle newest payload list 15 47
    (record {
      older = record { fewer_entries = keep (keep (keep (keep (leave_out (keep (keep (keep (keep (leave_out end))))))))) };
      old_valid = refl;
      new_valid = refl;
      list_valid = refl;
      small = leb-true (length (written payload list)) limit refl;
      room_lent = leb-true (length list) 15 refl;
      space_lent = leb-true (length (written payload list)) 47 refl;
    })
    (record { fewer_entries = keep (leave_out (leave_out (leave_out (leave_out (keep (keep (keep end))))))) }) refl

-- the message in the root's message opens, and so does the packed field in it
abbrev in_it : List Record
in_it = rec 2 1 9 0 2 4 ∷ rec 2 2 20 0 0 0 ∷ rec 3 2 18 18446744073709551615 0 0 ∷ rec 3 2 18 1 0 0 ∷ []

message_opens : Opens plainly newest payload (rec 1 2 11 0 0 0) in_it 2 (unknown payload (rec 1 2 11 0 0 0) in_it).content
unfolding newest shortest zigzag little lead followers behind char chars valid_prefix kind_wires own_wires wires wire shapes shape is_scalar encoded fits good_entry bad_entry bad_schema lookup unknown_kind kind_of deeper body bytes_of written expected fitting inside record_fault list_fault schema_first list_check
message_opens =
    opens_alone plainly newest payload list refl refl (leb-true (length (written payload list)) limit refl) (rec 1 2 11 0 0 0) in_it 2 refl
    (later (later (nested refl (later (first refl refl)))))

abbrev in_row : List Record
in_row = rec 3 2 18 18446744073709551615 0 0 ∷ rec 3 2 18 1 0 0 ∷ []

packed_opens : Opens plainly newest payload (rec 2 2 20 0 0 0) in_row 18 (unknown payload (rec 2 2 20 0 0 0) in_row).content
unfolding newest shortest zigzag little lead followers behind char chars valid_prefix kind_wires own_wires wires wire shapes shape is_scalar encoded fits good_entry bad_entry bad_schema lookup unknown_kind kind_of deeper body bytes_of written expected fitting inside record_fault list_fault schema_first list_check
packed_opens =
    opens_alone plainly newest payload list refl refl (leb-true (length (written payload list)) limit refl) (rec 2 2 20 0 0 0) in_row 18 refl
    (later (later (nested refl (later (nested refl (later (first refl refl)))))))
