-- `read::room::put` meets its contract: its stores are those of the definition, column by column. Assumes nothing.
use Prim.Native.Nat.{ℕ, ◌+◌}
use native.Mathlib.Omega.{arith}
use native.Mathlib.Nat.{add-zero}
use mathlib.Core.Path.{◌≡◌, refl, sym, ap}
use mathlib.Core.List.{List}
use lib.ListN.{set, length-set}
use Rattle.spec.specs.Names.{number_column, kind_column, value_column, start_column, stop_column, tag_column}
use Rattle.spec.specs.Record.{row, numbers}
use Rattle.read.specs.Emit.{stored_from, placed}
use Rattle.read.proofs.room.put.Goals as goal

pub bounds-room-to-2 : goal.bounds-room-to-2
bounds-room-to-2 c = simp length-set (omega arith)

pub bounds-room-to-3 : goal.bounds-room-to-3
bounds-room-to-3 c = simp length-set (omega arith)

pub bounds-room-to-4 : goal.bounds-room-to-4
bounds-room-to-4 c = simp length-set (omega arith)

pub bounds-room-to-5 : goal.bounds-room-to-5
bounds-room-to-5 c = simp length-set (omega arith)

pub bounds-room-to-6 : goal.bounds-room-to-6
bounds-room-to-6 c = simp length-set (omega arith)

pub bounds-room-to-7 : goal.bounds-room-to-7
bounds-room-to-7 c = simp length-set (omega arith)

-- the columns, one by one
columns : (room : List ℕ) (b d n k v a e t : ℕ)
    → set (set (set (set (set (set (set room b d) (b + number_column) n) (b + kind_column) k) (b + value_column) v) (b + start_column) a) (b + stop_column) e) (b + tag_column) t
    ≡ placed room b (row d n k v a e t)
unfolding numbers stored_from
columns room b d n k v a e t =
    ap (λ (i : ℕ). set (set (set (set (set (set (set room i d) (b + number_column) n) (b + kind_column) k) (b + value_column) v) (b + start_column) a) (b + stop_column) e) (b + tag_column) t)
    (sym (add-zero b))

pub returns : goal.returns
returns c = (rw c.from.ensures (columns _ _ _ _ _ _ _ _ _), refl)
