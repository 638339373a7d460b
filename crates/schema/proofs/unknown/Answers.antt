-- `schema::unknown` meets its contract: the table is the definition's, entry by entry. Assumes nothing.
use native.Mathlib.Omega.{arith}
use mathlib.Core.Path.{ap}
use Prim.Native.Nat.{ℕ, ◌%◌}
use mathlib.Core.List.{[], ◌∷◌}
use lib.ListN.{get_or}
use Rattle.spec.specs.Names.{group_end, group_start, unknown_bytes, unknown_fixed32, unknown_fixed64, unknown_varint}
use Rattle.spec.specs.Schema.{unknown_kind}
use Rattle.spec.proofs.Below.{equal_below}
use Rattle.schema.proofs.unknown.Goals as goal

pub returns : goal.returns
unfolding unknown_kind
returns c = ap (λ (k : ℕ). record { kind = k; inner = 0 }) (equal_below (λ w. get_or (unknown_varint ∷ unknown_fixed64 ∷ unknown_bytes ∷ group_start ∷ group_end ∷ unknown_fixed32 ∷ 0 ∷ 0 ∷ []) w 0) unknown_kind 8 (c.args.tag % 8) tt (omega arith))
