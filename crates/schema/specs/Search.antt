-- A search by halves. What is searched is any function from places to numbers, so that the same is said of the numbers of a schema and of
-- the keys of its tables. Assumes nothing: these are definitions. Public promises cite it.
use Rattle.std.specs.Prelude.{ℕ, zero, suc, ◌+◌, ◌*◌, ◌/◌, not, List, length, get_or, ltb, eqb, if◌then◌else◌}
use Rattle.std.proofs.Math.Option.{Option, none, some}
use Rattle.spec.specs.Names.{entry_number_column}
use Rattle.spec.specs.Schema.{entry_stride}
use Rattle.schema.specs.Layout.{owner_unit}

-- The place between lo and hi where `at` is `key`, and `lost` where none is found. k is no less than hi - lo.
unfoldable pub seek : ℕ → (at : ℕ → ℕ) → (lost key lo hi : ℕ) → ℕ
seek zero at lost key lo hi = lost
seek (suc k) at lost key lo hi =
    let mid = (lo + hi) / 2 in
    let above = seek k at lost key (mid + 1) hi in
    let below = seek k at lost key lo mid in
    if not (ltb lo hi) then lost else
    if eqb (at mid) key then mid else
    if ltb (at mid) key then above else below

-- ---- among the numbers of a schema, `entry_stride` to an entry, of any length

-- owner and number of the entry at a place, as one number
abbrev pub owner_number : List ℕ → ℕ → ℕ
owner_number ns i = get_or ns (i * entry_stride) 0 * owner_unit + get_or ns (i * entry_stride + entry_number_column) 0

-- a place below the count, or none
abbrev pub within : ℕ → ℕ → Option ℕ
within count i = if ltb i count then some i else none

unfoldable pub find_in : List ℕ → (owner number : ℕ) → Option ℕ
find_in ns owner number =
    let count = length ns / entry_stride in
    within count (seek count (owner_number ns) count (owner * owner_unit + number) 0 count)
