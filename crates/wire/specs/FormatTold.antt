-- What the answers of `wire_format` say, in the numbers of docs/DEFINITIONS.md. Assumes nothing: these are definitions. Public promises cite it.
use Rattle.std.specs.Prelude.{ℕ, ◌+◌, ◌*◌, Option, Some, None, Result, Ok, Err}
use Rattle.spec.specs.Names.{delimited_wire, end_group_wire, fixed32_wire, fixed64_wire, no_wire, start_group_wire, varint_wire}
use Rattle.spec.specs.Base.{Read, Took, No}
use Rattle.spec.specs.Told.{number_of}
use Rattle.spec.specs.declared.refusals.Refusal.{Refusal}
use Rattle.wire.specs.declared.wire_format.WireType.{WireType}
use Rattle.wire.specs.declared.wire_format.WireType.TheVariants.{Varint, Fixed64, LengthDelimited, StartGroup, EndGroup, Fixed32}
use Rattle.wire.specs.declared.wire_format.Tag.{Tag}

-- the number of a wire type
abbrev pub wire_number : WireType → ℕ
wire_number Varint = varint_wire
wire_number Fixed64 = fixed64_wire
wire_number LengthDelimited = delimited_wire
wire_number StartGroup = start_group_wire
wire_number EndGroup = end_group_wire
wire_number Fixed32 = fixed32_wire

-- the same of an answer; `no_wire` where there is none, as in the table of kinds
abbrev pub wire_told : Option WireType → ℕ
wire_told (Some w) = wire_number w
wire_told None = no_wire

-- the integer that a tag is written as
abbrev pub tag_value : Tag → ℕ
tag_value t = t.field_number * 8 + wire_number t.wire_type

-- a tag's integer, or the refusal's number; no bytes are read for it
abbrev pub tag_told : Result Tag Refusal → Read
tag_told (Ok t) = Took (tag_value t) 0
tag_told (Err r) = No (number_of r)

-- a size, or the refusal's number; no bytes are read for it
abbrev pub size_told : Result ℕ Refusal → Read
size_told (Ok n) = Took n 0
size_told (Err r) = No (number_of r)
