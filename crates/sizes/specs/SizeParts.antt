-- What the parts of the sizes answer: a size that is cut off just above the limit, so that no sum of such sizes can wrap, and the number that is written
-- for a value. Assumes nothing: these are definitions. Public promises cite `capped` and `coded`; the other, inner functions alone.
use Rattle.std.specs.Prelude.{ℕ, ◌+◌, ◌-◌, List, eqb, get_or, min, if◌then◌else◌}
use Rattle.spec.specs.Names.{kind_column, sint32_kind, sint64_kind, start_column, stop_column, unknown_bytes, value_column}
use Rattle.spec.specs.Base.{between, limit}
use Rattle.spec.specs.Varint.{zigzag}

-- at most one more than the limit
abbrev pub capped : ℕ → ℕ
capped n = min (limit + 1) n

-- sint32 and sint64 are written as zigzag
abbrev pub coded : ℕ → ℕ → ℕ
coded kind v = if between sint32_kind sint64_kind kind then zigzag v else v

-- the value of an unknown number, the length of unknown bytes, of the numbers of a record
abbrev pub unknown_value : List ℕ → ℕ
unknown_value ns = if eqb (get_or ns kind_column 0) unknown_bytes then get_or ns stop_column 0 - get_or ns start_column 0 else get_or ns value_column 0
