-- What the answers of the calls say, in the numbers of the definitions. Assumes nothing: these are definitions. Public promises cite it.
use Rattle.std.specs.Prelude.{ℕ, eqb, if◌then◌else◌, Result, Ok, Err}
use Rattle.spec.specs.Names.{bad_mark, bad_tag, bad_varint, ends_early, invalid_list, invalid_schema, no_group_open, no_room, not_utf8, other_version, out_of_range, output_short, too_deep, too_large}
use Rattle.spec.specs.declared.refusals.Refusal.{Refusal}
use Rattle.spec.specs.declared.refusals.Refusal.TheVariants.{EndsEarly, BadVarint, BadTag, NoGroupOpen, OutOfRange, NotUtf8, TooDeep, NoRoom, InvalidSchema, InvalidList, TooLarge, OutputShort, BadMark, OtherVersion}
use Rattle.spec.specs.declared.answers.Stopped.{Stopped}
use Rattle.spec.specs.declared.answers.Unwritten.{Unwritten}
use Rattle.spec.specs.declared.answers.Fault.{Fault}

-- the number of a refusal
abbrev pub number_of : Refusal → ℕ
number_of EndsEarly = ends_early
number_of BadVarint = bad_varint
number_of BadTag = bad_tag
number_of NoGroupOpen = no_group_open
number_of OutOfRange = out_of_range
number_of NotUtf8 = not_utf8
number_of TooDeep = too_deep
number_of NoRoom = no_room
number_of InvalidSchema = invalid_schema
number_of InvalidList = invalid_list
number_of TooLarge = too_large
number_of OutputShort = output_short
number_of BadMark = bad_mark
number_of OtherVersion = other_version

-- the refusal that has this number
unfoldable pub refusal_of : ℕ → Refusal
refusal_of k =
    if eqb k ends_early then EndsEarly else
    if eqb k bad_varint then BadVarint else
    if eqb k bad_tag then BadTag else
    if eqb k no_group_open then NoGroupOpen else
    if eqb k out_of_range then OutOfRange else
    if eqb k not_utf8 then NotUtf8 else
    if eqb k too_deep then TooDeep else
    if eqb k no_room then NoRoom else
    if eqb k invalid_schema then InvalidSchema else
    if eqb k invalid_list then InvalidList else
    if eqb k too_large then TooLarge else
    if eqb k output_short then OutputShort else
    if eqb k bad_mark then BadMark else
    OtherVersion

-- ---- a reading: the refusal's number, 0 for none; how many are in the room; the place of the refusal

abbrev pub read_number : Result ℕ Stopped → ℕ
read_number (Ok n) = 0
read_number (Err e) = number_of e.refusal

abbrev pub read_count : Result ℕ Stopped → ℕ
read_count (Ok n) = n
read_count (Err e) = e.count

abbrev pub read_place : Result ℕ Stopped → ℕ
read_place (Ok n) = 0
read_place (Err e) = e.place

-- ---- a writing: the refusal's number, 0 for none; the size, 0 on most refusals; the index of the fault

abbrev pub written_number : Result ℕ Unwritten → ℕ
written_number (Ok n) = 0
written_number (Err e) = number_of e.refusal

abbrev pub written_size : Result ℕ Unwritten → ℕ
written_size (Ok n) = n
written_size (Err e) = e.size

abbrev pub written_index : Result ℕ Unwritten → ℕ
written_index (Ok n) = 0
written_index (Err e) = e.index

-- the refusal of a list with this fault
abbrev pub unwritten_of : Fault → Unwritten
unwritten_of fault = record { refusal = fault.refusal; size = 0; index = fault.index }
