-- `wire::wire_format::WireType::new` meets its contract, number by number. Assumes nothing.
use Prim.Native.Nat.{ℕ, ◌≤◌, ◌<◌}
use mathlib.Core.Path.{◌≡◌, sym}
use native.Mathlib.Omega.{arith}
use borrow.Author.Tests.{le-leb, lt-leb}
use lib.Dec.{leb}
use Rattle.spec.specs.Names.{delimited_wire, end_group_wire, fixed32_wire, fixed64_wire, no_wire, start_group_wire, varint_wire}
use Rattle.std.specs.Prelude.{if◌then◌else◌}
use Rattle.wire.proofs.wire_format.WireType.new.Goals as goal

is : (n k : ℕ) → n ≡ k → k ≤ fixed32_wire → k ≡ (if leb n fixed32_wire then n else no_wire)
is n k e h = simp (le-leb n fixed32_wire (omega arith)) (sym e)

pub returns-in-0 : goal.returns-in-0
returns-in-0 c = is c.args.n varint_wire (omega arith) (omega arith)

pub returns-in-1 : goal.returns-in-1
returns-in-1 c = is c.args.n fixed64_wire (omega arith) (omega arith)

pub returns-in-2 : goal.returns-in-2
returns-in-2 c = is c.args.n delimited_wire (omega arith) (omega arith)

pub returns-in-3 : goal.returns-in-3
returns-in-3 c = is c.args.n start_group_wire (omega arith) (omega arith)

pub returns-in-4 : goal.returns-in-4
returns-in-4 c = is c.args.n end_group_wire (omega arith) (omega arith)

pub returns-in-5 : goal.returns-in-5
returns-in-5 c = is c.args.n fixed32_wire (omega arith) (omega arith)

pub returns-in_default : goal.returns-in_default
returns-in_default c =
    let h : fixed32_wire < c.args.n = omega arith in
    simp (lt-leb c.args.n fixed32_wire h)
