-- `sizes::unknown_or_group::record_size` meets its contract: the four unknown kinds count, and no other. Assumes nothing.
use Prim.Native.Nat.{ℕ}
use mathlib.Core.Path.{◌≡◌, sym, ap, ◌∙◌}
use mathlib.Core.Bool.{false}
use native.Mathlib.Omega.{arith}
use borrow.Author.Tests.{le-leb, lt-leb}
use lib.ListN.{get_or}
use Rattle.spec.specs.Names.{kind_column, unknown_fixed32, unknown_varint}
use Rattle.spec.specs.Base.{between}
use Rattle.spec.specs.Kind.{shape}
use Rattle.spec.specs.Sizes.{value_size}
use Rattle.sizes.specs.SizeParts.{capped}
use Rattle.sizes.proofs.ValueSizes.{size_most}
use Rattle.sizes.proofs.UnknownLaws.{unknown_size, other_size}
use Rattle.sizes.proofs.unknown_or_group.record_size.Goals as goal
use Rattle.sizes.proofs.unknown_or_group.record_size.Goals.{then-kind-lt-UNKNOWN_VARINT-via-then-kind-lt-UNKNOWN_VARINT, then-kind-lt-UNKNOWN_VARINT-via-else-kind-lt-UNKNOWN_VARINT+then-kind-gt-UNKNOWN_FIXED32}

pub returns-then-kind-lt-UNKNOWN_VARINT-clause-value : goal.returns-then-kind-lt-UNKNOWN_VARINT-clause-value
returns-then-kind-lt-UNKNOWN_VARINT-clause-value c =
    let k : ℕ = get_or c.args.numbers.now kind_column 0 in
    let none : between unknown_varint unknown_fixed32 k ≡ false =
    elim c.then-kind-lt-UNKNOWN_VARINT.branch [
      | then-kind-lt-UNKNOWN_VARINT-via-then-kind-lt-UNKNOWN_VARINT w ↦ simp (lt-leb unknown_varint k (omega arith))
      | then-kind-lt-UNKNOWN_VARINT-via-else-kind-lt-UNKNOWN_VARINT+then-kind-gt-UNKNOWN_FIXED32 w ↦
          simp (le-leb unknown_varint k (omega arith), lt-leb k unknown_fixed32 (omega arith))
    ] in
    ap capped (sym (other_size c.args.numbers.now c.requires none))

pub overflow_add-result : goal.overflow_add-result
overflow_add-result c = record { fits = omega (arith, size_most) }

pub returns-clause-value : goal.returns-clause-value
returns-clause-value c =
    let k : ℕ = get_or c.args.numbers.now kind_column 0 in
    let body = c.value_size.ensures ∙ ap (λ n. capped (value_size (shape k) n)) c.value_of.ensures in
    omega (arith, c.tag_size64.ensures, body, unknown_size c.args.numbers.now c.requires (omega arith) (omega arith))

pub returns-clause-upper_bound : goal.returns-clause-upper_bound
returns-clause-upper_bound c = omega (arith, size_most)
