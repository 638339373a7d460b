-- `schema::search` meets its contract. The loop's invariant: what is searched in all is what is searched from here. Assumes nothing.
use Rattle.std.proofs.Common.{ℕ, ◌≡◌, ◌-◌, ◌<◌, ◌≤◌}
use Rattle.schema.specs.Search.{seek}
use Rattle.schema.proofs.search.Given as goal

abbrev pub invariant-loop-lo : goal.invariant-loop-lo
invariant-loop-lo g l =
    (l.lo ≤ l.hi) × (l.hi ≤ l.count) × ((row : ℕ → ℕ) → ((i x : ℕ) → i < l.count → goal.F-post g l.at i x → x ≡ row i) → seek l.count row l.count l.key 0 l.count ≡ seek (l.hi - l.lo) row l.count l.key l.lo l.hi)

abbrev pub decreases-loop-lo : goal.decreases-loop-lo
decreases-loop-lo g l = l.hi - l.lo
