-- `write::bytes::put_plain` meets its contract: the wire type of the kind says how the value is written. Assumes nothing.
use mathlib.Core.Path.{◌≡◌, sym, ap, ◌∙◌}
use borrow.Author.Tests.{lt-ltb, le-ltb}
use Rattle.spec.specs.Names.{fixed32_wire, fixed64_wire}
use Rattle.spec.specs.Varint.{encode, little}
use Rattle.spec.specs.Kind.{shape}
use Rattle.write.specs.Backward.{plain}
use Rattle.write.proofs.BodyLaws.{plain_by_wire}
use Rattle.write.proofs.StoreLaws.{stored_as, room_as}
use Rattle.write.proofs.bytes.put_plain.Goals as goal
use Rattle.write.proofs.bytes.put_plain.Goals.{After-coded_of, Else-w-lt-FIXED32, Then-w-lt-FIXED32}

varint : (c : After-coded_of) → let a = c.args in plain (shape a.kind) a.v ≡ encode c.coded_of.result
varint c =
    simp (lt-ltb c.args.w fixed64_wire c.if-w-lt-FIXED64.true) at (plain_by_wire c.args.kind c.args.v c.args.w c.requires.1 c.requires.0)
    ∙ ap encode (sym c.coded_of.ensures)

eight : (c : Then-w-lt-FIXED32) → let a = c.args in plain (shape a.kind) a.v ≡ little 8 a.v
eight c =
    simp (le-ltb c.args.w fixed64_wire c.if-w-lt-FIXED64.false, lt-ltb c.args.w fixed32_wire c.if-w-lt-FIXED32.true) at
    (plain_by_wire c.args.kind c.args.v c.args.w c.requires.1 c.requires.0)

four : (c : Else-w-lt-FIXED32) → let a = c.args in plain (shape a.kind) a.v ≡ little 4 a.v
four c =
    simp (le-ltb c.args.w fixed64_wire c.if-w-lt-FIXED64.false, le-ltb c.args.w fixed32_wire c.if-w-lt-FIXED32.false) at
    (plain_by_wire c.args.kind c.args.v c.args.w c.requires.1 c.requires.0)

pub put_varint-requires : goal.put_varint-requires
put_varint-requires c = room_as (varint (goal.at.put_varint-requires c).After-coded_of) c.requires.2

pub returns-then-w-lt-FIXED64 : goal.returns-then-w-lt-FIXED64
returns-then-w-lt-FIXED64 c = stored_as (sym (varint (goal.at.returns-then-w-lt-FIXED64 c).After-coded_of)) c.put_varint.ensures

pub put_fixed64-requires : goal.put_fixed64-requires
put_fixed64-requires c = room_as (eight (goal.at.put_fixed64-requires c).Then-w-lt-FIXED32) c.requires.2

pub returns-then-w-lt-FIXED32 : goal.returns-then-w-lt-FIXED32
returns-then-w-lt-FIXED32 c = stored_as (sym (eight (goal.at.returns-then-w-lt-FIXED32 c).Then-w-lt-FIXED32)) c.put_fixed64.ensures

pub put_fixed32-requires : goal.put_fixed32-requires
put_fixed32-requires c = room_as (four (goal.at.put_fixed32-requires c).Else-w-lt-FIXED32) c.requires.2

pub returns : goal.returns
returns c = stored_as (sym (four (goal.at.returns c).Else-w-lt-FIXED32)) c.put_fixed32.ensures
