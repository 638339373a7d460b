-- `read::packed::packed` meets its contract. Assumes nothing.
use native.Mathlib.Omega.{arith}
use mathlib.Core.Path.{sym, ◌∙◌}
use Rattle.spec.specs.Kind.{shape}
use Rattle.read.proofs.Turn.{int_scalar, fixed_scalar, no_elements}
use Rattle.read.proofs.packed.packed.Goals as goal

pub elements-requires : goal.elements-requires
elements-requires c =
    let int = sym c.is_int.ensures ∙ c.if-is_int.true in
    (sym int, int_scalar (shape c.args.kind) int, omega arith, omega arith)

pub elements-requires-then-is_fixed : goal.elements-requires-then-is_fixed
elements-requires-then-is_fixed c =
    (sym (sym c.is_int.ensures ∙ c.if-is_int.false), fixed_scalar (shape c.args.kind) (sym c.is_fixed.ensures ∙ c.if-is_fixed.true), omega arith, omega arith)

pub returns : goal.returns
returns c = no_elements (shape c.args.kind) _ _ _ _ _ _ _ _ (sym c.is_int.ensures ∙ c.if-is_int.false) (sym c.is_fixed.ensures ∙ c.if-is_fixed.false)
