-- `write::bytes::put_fixed64` meets its contract: the library's bytes are the definition's. Assumes nothing.
use mathlib.Core.Path.{sym, ◌∙◌}
use native.Mathlib.Omega.{arith}
use Rattle.write.proofs.FixedLaws.{eight}
use Rattle.write.proofs.StoreLaws.{stored_as, room_as}
use Rattle.write.proofs.bytes.put_fixed64.Goals as goal

pub put_fixed-requires : goal.put_fixed-requires
put_fixed-requires c = (omega arith, room_as (sym (c.to_le_bytes.ensures ∙ eight c.args.v)) c.requires)

pub returns : goal.returns
returns c = stored_as (c.to_le_bytes.ensures ∙ eight c.args.v) c.put_fixed.ensures
