-- `wire::zigzag::decode_zig_zag_32` meets its contract: the remainder decides, as in the definition.
-- Assumes nothing.
use Prim.Native.Nat.{◌/◌}
use native.Mathlib.Omega.{arith}
use mathlib.Core.Path.{sym}
use mir.Syntax.{w32}
use mir.ValLaws.{to_z_pos}
use Rattle.wire.proofs.ZigzagLaws.{minus_fits, minus, unzigzag_even, unzigzag_odd}
use Rattle.wire.proofs.zigzag.decode_zig_zag_32.Goals as goal

pub returns-then-n-eq0 : goal.returns-then-n-eq0
returns-then-n-eq0 c = rw (to_z_pos w32 (c.args.n / 2) (omega arith)) (sym (unzigzag_even c.args.n c.if-n-eq0.true))

pub overflow_sub-result : goal.overflow_sub-result
overflow_sub-result c = minus_fits w32 (c.args.n / 2) (omega arith)

pub returns : goal.returns
returns c = rw (minus w32 (c.args.n / 2) (omega arith), unzigzag_odd c.args.n c.if-n-eq0.false) (omega arith)
