-- `sizes::value_size` meets its contract: the wire type of the kind says how the size is found. Assumes nothing.
use Prim.Native.Nat.{ℕ}
use mathlib.Core.Path.{sym, ap, ◌∙◌}
use native.Mathlib.Omega.{arith}
use borrow.Author.Tests.{ne_eqb}
use Rattle.spec.specs.Names.{delimited_wire, fixed32_wire, fixed64_wire, varint_wire}
use Rattle.spec.specs.Varint.{size}
use Rattle.sizes.specs.SizeParts.{capped, coded}
use Rattle.sizes.proofs.ValueSizes.{value_by_wire, capped_varint}
use Rattle.sizes.proofs.value_size.Goals as goal

pub returns-in-0 : goal.returns-in-0
returns-in-0 c =
    let k : ℕ = c.args.kind in
    let v : ℕ = c.args.value in
    c.compute_raw_varint64_size.ensures ∙ ap size (c.coded_of.ensures ∙ ap (λ (n : ℕ). coded n v) c.from.ensures) ∙ capped_varint _
    ∙ ap capped (sym (value_by_wire k v varint_wire (sym c.in-0.is ∙ c.wire_of.ensures)))

pub returns-in-1 : goal.returns-in-1
returns-in-1 c = ap capped (sym (value_by_wire c.args.kind c.args.value fixed64_wire (sym c.in-1.is ∙ c.wire_of.ensures)))

pub returns-in-2 : goal.returns-in-2
returns-in-2 c =
    let k : ℕ = c.args.kind in
    let v : ℕ = c.args.value in
    c.prefixed_size.ensures ∙ ap capped (sym (value_by_wire k v delimited_wire (sym c.in-2.is ∙ c.wire_of.ensures)))

pub returns-in-5 : goal.returns-in-5
returns-in-5 c = ap capped (sym (value_by_wire c.args.kind c.args.value fixed32_wire (sym c.in-5.is ∙ c.wire_of.ensures)))

pub returns-in_default : goal.returns-in_default
returns-in_default c =
    let w : ℕ = c.wire_of.result in
    let none = simp (ne_eqb w varint_wire (omega arith), ne_eqb w fixed64_wire (omega arith), ne_eqb w delimited_wire (omega arith), ne_eqb w fixed32_wire (omega arith)) at (value_by_wire c.args.kind c.args.value w c.wire_of.ensures) in
    ap capped (sym none)
