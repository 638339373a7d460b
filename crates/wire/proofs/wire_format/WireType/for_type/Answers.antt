-- `wire::wire_format::WireType::for_type` meets its contract: each entry of the table is a wire type's number or `no_wire`. Assumes nothing.
use Prim.Native.Nat.{ℕ, ◌≤◌, min}
use mathlib.Core.Path.{◌≡◌, sym, ◌∙◌}
use native.Mathlib.Omega.{arith}
use lib.Dec.{leb}
use lib.ListN.{length, get_or, get_or-eq_default}
use Rattle.spec.specs.Names.{fixed32_wire, no_wire, own_kinds}
use Rattle.std.specs.Prelude.{if◌then◌else◌}
use Rattle.spec.specs.Kind.{kind_wires}
use Rattle.spec.proofs.Below.{equal_below}
use Rattle.wire.proofs.wire_format.WireType.for_type.Goals as goal

-- an entry, as a wire type is found for it
abbrev found : ℕ → ℕ
unfolding kind_wires
found k = if leb (get_or kind_wires k 0) fixed32_wire then get_or kind_wires k 0 else no_wire

pub overflow_cast-n-then-kind-lt-OWN_KINDS : goal.overflow_cast-n-then-kind-lt-OWN_KINDS
unfolding kind_wires
overflow_cast-n-then-kind-lt-OWN_KINDS c =
    let k : ℕ = c.args.kind in
    let small : min no_wire (get_or kind_wires k 0) ≡ get_or kind_wires k 0 = equal_below (λ i. min no_wire (get_or kind_wires i 0)) (λ i. get_or kind_wires i 0) own_kinds k tt (omega arith) in
    record { fits = omega arith }

pub returns-then-kind-lt-OWN_KINDS : goal.returns-then-kind-lt-OWN_KINDS
unfolding kind_wires
returns-then-kind-lt-OWN_KINDS c = c.new.ensures ∙ equal_below found (λ k. get_or kind_wires k no_wire) own_kinds c.args.kind tt (omega arith)

pub returns : goal.returns
unfolding kind_wires
returns c =
    let past : length kind_wires ≤ c.args.kind = omega arith in
    sym (get_or-eq_default kind_wires no_wire past)
