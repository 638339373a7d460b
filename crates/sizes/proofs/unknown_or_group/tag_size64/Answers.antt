-- `sizes::unknown_or_group::tag_size64` meets its contract: eight times a number of 61 bits has 64, and more take no more bytes.
-- Assumes nothing.
use Prim.Native.Nat.{◌*◌}
use mathlib.Core.Path.{sym}
use native.Mathlib.Omega.{arith}
use Rattle.spec.proofs.VarintLaws.{size_ten}
use Rattle.sizes.proofs.unknown_or_group.tag_size64.Goals as goal

pub returns-else-number-lt-ABOVE_TAGS : goal.returns-else-number-lt-ABOVE_TAGS
returns-else-number-lt-ABOVE_TAGS c = sym (size_ten (c.args.number * 8) (omega arith))
