-- What the calls for C return in a lent array. Assumes nothing: these are definitions. Public promises cite it.
use Rattle.std.specs.Prelude.{ℕ, ◌+◌, List, [], ◌∷◌, eqb, if◌then◌else◌, Result, Ok, Err}
use Rattle.std.proofs.Math.Option.{Option, none, some}
use Rattle.spec.specs.Names.{bool_kind, bytes_kind, double_kind, enum_kind, fixed32_kind, fixed64_kind, float_kind, group_kind, int32_kind, int64_kind, invalid_schema, sfixed32_kind, sfixed64_kind, sint32_kind, sint64_kind, string_kind, uint32_kind, uint64_kind}
use Rattle.spec.specs.Base.{Read, Took, No}
use Rattle.spec.specs.Kind.{int32, uint32, uint64, bool, sint32, sint64, fixed32, sfixed32, fixed64}
use Rattle.spec.specs.Pull.{Ask, raw_tag, value, bytes, string, skip, Said, Number, Content, End, Refused, Moved}
use Rattle.spec.specs.Writing.{Verdict, Fine, Faulty}
use Rattle.spec.specs.Told.{number_of as refusal_number}
use Rattle.spec.specs.declared.refusals.Refusal.{Refusal}
use Rattle.wire.specs.declared.found.Found.{Found}

-- what is read at a place: the value and the place after it, or two zeros
unfoldable pub behind : ℕ → Read → List ℕ
behind at (Took v n) = v ∷ (at + n) ∷ []
behind at (No k) = 0 ∷ 0 ∷ []

-- the same of a function's answer: the refusal's number, and the two numbers
abbrev pub refused : Result Found Refusal → ℕ
refused (Ok f) = 0
refused (Err refusal) = refusal_number refusal

abbrev pub pair : Result Found Refusal → List ℕ
pair (Ok f) = f.value ∷ f.next ∷ []
pair (Err refusal) = 0 ∷ 0 ∷ []

-- the number and the place of what a schema's check finds
abbrev pub number_of : Option ℕ → ℕ
number_of none = 0
number_of (some i) = invalid_schema

abbrev pub entry_of : Option ℕ → ℕ
entry_of none = 0
entry_of (some i) = i

-- the number and the index of what a list's check finds
abbrev pub fault_of : Verdict → ℕ
fault_of Fine = 0
fault_of (Faulty number index) = number

abbrev pub index_of : Verdict → ℕ
index_of Fine = 0
index_of (Faulty number index) = index

-- what a kind asks of a pull reader: its value, a float and a double as their bits, a signed number as its pattern; the number of a group, which no schema has, asks for a skip, and 0 and all others for the raw tag
unfoldable pub asked_by : (kind tag : ℕ) → Ask
asked_by kind tag =
    if eqb kind double_kind then value fixed64 else
    if eqb kind float_kind then value fixed32 else
    if eqb kind int64_kind then value uint64 else
    if eqb kind uint64_kind then value uint64 else
    if eqb kind int32_kind then value int32 else
    if eqb kind fixed64_kind then value fixed64 else
    if eqb kind fixed32_kind then value fixed32 else
    if eqb kind bool_kind then value bool else
    if eqb kind string_kind then string else
    if eqb kind group_kind then skip tag else
    if eqb kind bytes_kind then bytes else
    if eqb kind uint32_kind then value uint32 else
    if eqb kind enum_kind then value int32 else
    if eqb kind sfixed32_kind then value sfixed32 else
    if eqb kind sfixed64_kind then value fixed64 else
    if eqb kind sint32_kind then value sint32 else
    if eqb kind sint64_kind then value sint64 else
    raw_tag

-- ---- what a step says, in numbers

-- which of the four it is: the end, a number, the bounds of a content, the place of a refusal
abbrev pub end_said : ℕ
end_said = 0

abbrev pub number_said : ℕ
number_said = 1

abbrev pub content_said : ℕ
content_said = 2

abbrev pub refused_said : ℕ
refused_said = 3

-- the refusal's number
abbrev pub said_number : Said → ℕ
said_number (Number v) = 0
said_number (Content a z) = 0
said_number End = 0
said_number (Refused k p) = k

-- which of the four, the one or two numbers that go with it, and the position then
abbrev pub said_answer : Said → ℕ → List ℕ
said_answer (Number v) at = number_said ∷ v ∷ 0 ∷ at ∷ []
said_answer (Content a z) at = content_said ∷ a ∷ z ∷ at ∷ []
said_answer End at = end_said ∷ 0 ∷ 0 ∷ at ∷ []
said_answer (Refused k p) at = refused_said ∷ p ∷ 0 ∷ at ∷ []

abbrev pub step_number : Moved → ℕ
step_number m = said_number m.said

abbrev pub step_answer : Moved → List ℕ
step_answer m = said_answer m.said m.at
