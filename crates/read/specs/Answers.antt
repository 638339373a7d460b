-- What the functions of this crate answer, by the definitions of reading. Assumes nothing: these are definitions. Public promises cite it. That a field which is asked
-- for so is the field of the definition is a law (proofs/AskedLaws).
use Rattle.std.specs.Prelude.{ℕ, suc, ◌+◌, ◌-◌, ◌/◌, ◌%◌, ◌^◌, ◌≤◌, ◌<◌, min, ◌≡◌, Bool, true, not, ◌&&◌, ◌||◌, List, drop, get_or, leb, eqb, if◌then◌else◌, Option, Some, None, is_some, Result, Ok, Err}
use Rattle.spec.specs.Names.{bytes_kind, enum_kind, int32_kind, message_kind, most_levels, packed_head, sint32_kind, string_kind, uint32_kind, unknown_bytes, varint_wire, bad_tag, no_group_open, not_utf8, out_of_range, too_deep}
use Rattle.spec.specs.Base.{part, Read, Took, No}
use Rattle.spec.specs.Varint.{varint, varint32, varint64, unzigzag, tag}
use Rattle.spec.specs.Utf8.{utf8, valid_end}
use Rattle.spec.specs.Kind.{Scalar, int32, uint32, uint64, bool, sint32, sint64, fixed32, sfixed32, fixed64, Shape, one, other, string, bytes, message, packed, start_group, end_group, nothing, shape, is_scalar, scalar, signed32, head_kind}
use Rattle.spec.specs.Schema.{Says}
use Rattle.spec.specs.Skip.{content, outer_group}
use Rattle.spec.specs.Told.{number_of}
use Rattle.spec.specs.declared.refusals.Refusal.{Refusal}
use Rattle.wire.specs.Reached.{varint_of}
use Rattle.schema.specs.Layout.{inners_at, kinds_at}
use Rattle.spec.specs.Reading as spec
use Rattle.read.specs.declared.scalar.ShortVarint.{ShortVarint}
use Rattle.read.specs.declared.classify.Row.{Row}
use Rattle.read.specs.declared.classify.Field.{Field}
use Rattle.read.specs.declared.classify.Field.TheVariants as field
use Rattle.read.specs.declared.classify.TagSaid.{TagSaid}
use Rattle.read.specs.declared.classify.Body.{Body}
use Rattle.read.specs.declared.classify.Body.TheVariants as body

-- an answer, with its refusal by the number
abbrev pub numbered : {A : Type 0} → Result A Refusal → Result A ℕ
numbered (Ok x) = Ok x
numbered (Err r) = Err (number_of r)

-- ---- values that are one number

-- of any shape: `bad_tag` where it is none
unfoldable pub scalar_of : Shape → List ℕ → Read
scalar_of (one c) s = scalar c s
scalar_of (other x) s = No bad_tag

-- a short varint, of at most three bytes, is the same at every width
abbrev pub short : (value size : ℕ) → Option ShortVarint
short v n = Some (record { value = v; size = n })

pub data Shortly (s : List ℕ) : Option ShortVarint → Type 0 where
  is_short : {v n : ℕ} → ((k last : ℕ) → varint (suc (suc (suc k))) last s ≡ Took v n) → v < 128 ^ 3 → Shortly s (short v n)
  is_longer : Shortly s None

-- what a varint says, where values are varints
unfoldable pub meant_as : Scalar → ℕ → Option ℕ
meant_as int32 v = Some v
meant_as uint32 v = Some v
meant_as uint64 v = Some v
meant_as bool v = Some (min 1 v)
meant_as sint32 v = Some (unzigzag v)
meant_as sint64 v = Some (unzigzag v)
meant_as fixed32 v = None
meant_as sfixed32 v = None
meant_as fixed64 v = None

unfoldable pub meant_by : Shape → ℕ → Option ℕ
meant_by (one c) v = meant_as c v
meant_by (other x) v = None

-- whether a shape's values are varints
abbrev pub is_int : Shape → Bool
is_int x = is_some (meant_by x 0)

-- whether they are numbers of a fixed size
abbrev pub is_fixed : Shape → Bool
is_fixed x = is_scalar x && not (is_int x)

-- the kinds whose values are a varint64 that must fit 32 signed bits, and those whose values are a varint32
abbrev pub must_fit32 : ℕ → Bool
must_fit32 kind = eqb kind int32_kind || eqb kind enum_kind

abbrev pub is_varint32 : ℕ → Bool
is_varint32 kind = eqb kind uint32_kind || eqb kind sint32_kind

abbrev pub in_range : Bool → ℕ → Bool
in_range fit v = if fit then signed32 v else true

-- a varint as a value of a shape
abbrev pub took_meant : ℕ → Option ℕ → Read
took_meant n (Some v) = Took v n
took_meant n None = No bad_tag

unfoldable pub int_by : Shape → Bool → Read → Read
int_by x fit (Took v n) = if in_range fit v then took_meant n (meant_by x v) else No out_of_range
int_by x fit (No k) = No k

-- ---- contents

-- the kinds whose field has a length
abbrev pub has_length : ℕ → Bool
has_length kind = eqb kind string_kind || eqb kind message_kind || eqb kind bytes_kind || eqb kind packed_head || eqb kind unknown_bytes

abbrev pub length_of : ℕ → List ℕ → Read
length_of kind s = varint_of (not (head_kind kind)) s

-- ---- what comes after a tag, at the place `at`

-- a value, and the range of its record
abbrev pub value_in : (value start end : ℕ) → Result Body ℕ
value_in v a e = Ok (body.Is v a e)

unfoldable pub valued : ℕ → Read → Result Body ℕ
valued at (Took v n) = value_in v at (at + n)
valued at (No k) = Err k

unfoldable pub ranged : ℕ → Read → Result Body ℕ
ranged at (Took a z) = value_in 0 (at + a) (at + z)
ranged at (No k) = Err k

unfoldable pub texted : ℕ → List ℕ → Read → Result Body ℕ
texted at s (Took a z) = if utf8 (part a z s) then value_in 0 (at + a) (at + z) else Err not_utf8
texted at s (No k) = Err k

unfoldable pub bodied : Shape → (depth at : ℕ) → List ℕ → Result Body ℕ
bodied (one c) depth at s = valued at (scalar c s)
bodied (other string) depth at s = texted at s (content varint32 s)
bodied (other bytes) depth at s = ranged at (content varint32 s)
bodied (other message) depth at s = if leb most_levels depth then Err too_deep else ranged at (content varint64 s)
bodied (other packed) depth at s = ranged at (content varint64 s)
bodied (other start_group) depth at s = Ok body.Group
bodied (other end_group) depth at s = Err no_group_open
bodied (other nothing) depth at s = Err bad_tag

-- ---- a field

-- a tag that was found at a place, where `say` is what is known of tags
abbrev pub tag_said : (number kind inner next : ℕ) → TagSaid
tag_said m kind inner next = record { number = m; kind = kind; inner = inner; next = next }

unfoldable pub tag_at : (ℕ → Says) → ℕ → Read → Result TagSaid ℕ
tag_at say at (Took t n) = Ok (tag_said (t / 8) (say t).kind (say t).inner (at + n))
tag_at say at (No k) = Err k

-- what entry i of the tables says of the tag c at a place, which is one byte and whose key it has
abbrev pub quick_tag : List ℕ → (i c at : ℕ) → TagSaid
quick_tag info i c at =
    let kind = get_or info (kinds_at + i) 0 in
    tag_said (c / 8) kind (if eqb kind message_kind then get_or info (inners_at + i) 0 else 0) (at + 1)

-- the kind that is known of a tag
pub data Tells (say : ℕ → Says) (c : ℕ) : Option ℕ → Type 0 where
  tells : {kind : ℕ} → 8 ≤ c → c < 128 → c % 8 ≡ varint_wire → (say c).kind ≡ kind → Tells say c (Some kind)
  tells_not : Tells say c None

unfoldable pub with_body : TagSaid → Body → Field
with_body t (body.Is v a e) = field.Of (record { number = t.number; kind = t.kind; inner = t.inner; value = v; start = a; end = e })
with_body t body.Group = field.Group t.number t.next

unfoldable pub from_body : TagSaid → Result Body ℕ → Result Field ℕ
from_body t (Ok b) = Ok (with_body t b)
from_body t (Err k) = Err k

unfoldable pub from_tag : ℕ → List ℕ → Result TagSaid ℕ → Result Field ℕ
from_tag depth s (Ok t) = from_body t (bodied (shape t.kind) depth t.next (drop t.next s))
from_tag depth s (Err k) = Err k

-- the field at a place of s, as it is asked for
unfoldable pub asked : spec.Look → (depth type at : ℕ) → List ℕ → Result Field ℕ
asked look depth type at s = from_tag depth s (tag_at (look.says type) at (tag (drop at s)))

-- where the broken letter of a string is, counted from its tag: after a tag of n bytes, by what its content reads as
unfoldable pub letter_after : ℕ → List ℕ → Read → ℕ
letter_after n s (Took a z) = n + valid_end a z s
letter_after n s (No k) = 0

-- and from its tag on, by what the tag reads as
unfoldable pub letter_in : List ℕ → Read → ℕ
letter_in s (Took t n) = letter_after n (drop n s) (content varint32 (drop n s))
letter_in s (No k) = 0

-- where the field at the front of s is refused with this number: all but a broken letter is refused at the tag
abbrev pub refused_in : ℕ → List ℕ → ℕ
refused_in k s = if eqb k not_utf8 then letter_in s (varint32 s) else 0

-- the definition's field of a record that is asked for, and of what is asked for at the place `at` of s
abbrev pub as_field : (number kind inner value start end : ℕ) → spec.Field
as_field m kind inner v a e =
    if eqb kind message_kind then spec.Message m inner a e else
    if eqb kind packed_head then spec.Packed m inner a e else
    spec.Value m kind v a e

abbrev pub row_field : ℕ → Row → spec.Field
row_field at r = as_field r.number r.kind r.inner r.value (r.start - at) (r.end - at)

-- A group that was skipped up to `end`, as the row of an empty packed field: both are dropped in the same way.
abbrev pub skipped_row : (number end : ℕ) → Row
skipped_row m e = record { number = m; kind = packed_head; inner = 0; value = 0; start = e; end = e }

unfoldable pub resolved : (depth at : ℕ) → List ℕ → Result Field ℕ → spec.Field
resolved depth at s (Ok (field.Of r)) = row_field at r
resolved depth at s (Ok (field.Group m next)) = spec.given (outer_group depth (drop next s)) λ v l. spec.Dropped m (next - at + l)
resolved depth at s (Err k) = spec.Fault k (refused_in k (drop at s))

-- what a reader may rely on of a record that is asked for at a place, in a message at this depth, of `most` bytes
pub record Held (depth at most : ℕ) (r : Row) : Type 0 where
  pub behind : at < r.start
  pub ordered : r.start ≤ r.end
  pub inside : r.end ≤ most
  pub shallow : r.kind ≡ message_kind → depth < most_levels
  pub message_zero : r.kind ≡ message_kind → r.value ≡ 0
  pub packed_zero : r.kind ≡ packed_head → r.value ≡ 0
