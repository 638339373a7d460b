-- `write::measure::tag_size` meets its contract: the tag of a number below 16 is one byte. Assumes nothing.
use Prim.Native.Nat.{◌*◌}
use mathlib.Core.Path.{sym}
use native.Mathlib.Omega.{arith}
use Rattle.spec.proofs.VarintLaws.{size_one_lem}
use Rattle.write.proofs.measure.tag_size.Goals as goal

pub returns-then-number-lt-TWO_BYTE_TAG : goal.returns-then-number-lt-TWO_BYTE_TAG
returns-then-number-lt-TWO_BYTE_TAG c = sym (size_one_lem (c.args.number * 8) (omega arith))
