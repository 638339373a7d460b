-- `wire::wire_format::wire_of` meets its contract: the rule of each table is one test over its entries. Assumes nothing.
use Prim.Native.Nat.{ℕ, ◌+◌, ◌-◌, ◌≤◌}
use mathlib.Core.Path.{◌≡◌, sym, ap, ◌∙◌}
use native.Mathlib.Omega.{arith}
use lib.ListN.{length, get_or, get_or-eq_default}
use Rattle.spec.specs.Names.{all_kinds, no_wire, own_kinds}
use Rattle.spec.specs.Kind.{kind_wires, own_wires, wires, wire}
use Rattle.spec.proofs.Below.{equal_below}
use Rattle.wire.proofs.wire_format.wire_of.Goals as goal

pub returns-then-kind-lt-OWN_KINDS : goal.returns-then-kind-lt-OWN_KINDS
unfolding kind_wires own_wires wires wire
returns-then-kind-lt-OWN_KINDS c = equal_below (λ k. get_or kind_wires k 0) wire own_kinds c.args.kind tt (omega arith)

pub returns-then-kind-lt-ALL_KINDS : goal.returns-then-kind-lt-ALL_KINDS
unfolding kind_wires own_wires wires wire
returns-then-kind-lt-ALL_KINDS c =
    let k : ℕ = c.args.kind in
    let back : own_kinds + (k - own_kinds) ≡ k = omega arith in
    equal_below (λ n. get_or own_wires n 0) (λ n. wire (own_kinds + n)) (all_kinds - own_kinds) (k - own_kinds) tt (omega arith) ∙ ap wire back

pub returns : goal.returns
unfolding kind_wires own_wires wires wire
returns c =
    let past : length wires ≤ c.args.kind = omega arith in
    sym (get_or-eq_default wires no_wire past)
