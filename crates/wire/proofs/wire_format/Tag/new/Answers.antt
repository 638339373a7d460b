-- `wire::wire_format::Tag::new` meets its contract: the number and the wire type are what division by 8 gives. Assumes nothing.
use Prim.Native.Nat.{ℕ, ◌+◌, ◌*◌, ◌/◌, ◌%◌}
use mathlib.Core.Path.{◌≡◌, sym, ap, ◌∙◌}
use native.Mathlib.Omega.{arith}
use borrow.Author.Tests.{le-leb, lt-leb}
use Rattle.spec.specs.Names.{fixed32_wire}
use Rattle.spec.specs.Base.{Took, require}
use Rattle.wire.specs.FormatTold.{wire_number, wire_told}
use Rattle.wire.proofs.FormatLaws.{known, not_found}
use Rattle.wire.proofs.wire_format.Tag.new.Goals as goal

pub returns-then-field_number-eq0 : goal.returns-then-field_number-eq0
unfolding require
returns-then-field_number-eq0 c =
    let v : ℕ = c.args.value in
    let is = known (v % 8) c.in-Some.wire_type (sym (ap wire_told c.in-Some.is) ∙ c.new.ensures) in
    simp (le-leb (v % 8) fixed32_wire is.0, lt-leb 1 (v / 8) (omega arith))

pub returns : goal.returns
unfolding require
returns c =
    let v : ℕ = c.args.value in
    let is = known (v % 8) c.in-Some.wire_type (sym (ap wire_told c.in-Some.is) ∙ c.new.ensures) in
    let whole : v / 8 * 8 + wire_number c.in-Some.wire_type ≡ v = omega (arith, is.1) in
    simp (le-leb (v % 8) fixed32_wire is.0, le-leb 1 (v / 8) (omega arith)) (ap (λ (x : ℕ). Took x 0) whole)

pub returns-in_default : goal.returns-in_default
unfolding require
returns-in_default c =
    let v : ℕ = c.args.value in
    let is = not_found (v % 8) _ c.in_default.not-Some c.new.ensures in
    simp (lt-leb (v % 8) fixed32_wire is)
