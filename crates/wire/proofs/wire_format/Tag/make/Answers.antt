-- `wire::wire_format::Tag::make` meets its contract: each test is one of the definition's. Assumes nothing.
use Prim.Native.Nat.{ℕ, ◌+◌, ◌*◌}
use mathlib.Core.Path.{sym, ap, ◌∙◌}
use native.Mathlib.Omega.{arith}
use borrow.Author.Tests.{le-leb, lt-leb}
use Rattle.spec.specs.Names.{fixed32_wire, largest_number}
use Rattle.spec.specs.Base.{Took}
use Rattle.spec.specs.Varint.{make_tag}
use Rattle.wire.specs.FormatTold.{wire_told}
use Rattle.wire.proofs.FormatLaws.{known, not_found}
use Rattle.wire.proofs.wire_format.Tag.make.Goals as goal

pub returns-then-number-eq0 : goal.returns-then-number-eq0
unfolding make_tag
returns-then-number-eq0 c = simp (lt-leb 1 c.args.number (omega arith))

pub returns-then-number-gt-FIELD_NUMBER_MAX : goal.returns-then-number-gt-FIELD_NUMBER_MAX
unfolding make_tag
returns-then-number-gt-FIELD_NUMBER_MAX c =
    let n : ℕ = c.args.number in
    simp (le-leb 1 n (omega arith), lt-leb n largest_number (omega arith))

pub returns : goal.returns
unfolding make_tag
returns c =
    let n : ℕ = c.args.number in
    let w : ℕ = c.args.wire_type in
    let is = known w c.in-Some.known (sym (ap wire_told c.in-Some.is) ∙ c.new.ensures) in
    simp (le-leb 1 n (omega arith), le-leb n largest_number (omega arith), le-leb w fixed32_wire is.0) (ap (λ (x : ℕ). Took (n * 8 + x) 0) is.1)

pub returns-in_default : goal.returns-in_default
unfolding make_tag
returns-in_default c =
    let n : ℕ = c.args.number in
    let w : ℕ = c.args.wire_type in
    let is = not_found w _ c.in_default.not-Some c.new.ensures in
    simp (le-leb 1 n (omega arith), le-leb n largest_number (omega arith), lt-leb w fixed32_wire is)
