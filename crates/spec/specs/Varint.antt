-- Varints, zigzag, little-endian numbers and tags, from the Encoding page. Assumes nothing: these are definitions. Public promises cite it.
use Rattle.std.specs.Prelude.{ℕ, zero, suc, ◌+◌, ◌-◌, ◌*◌, ◌/◌, ◌%◌, ◌^◌, ◌≤◌, ◌<◌, max, ◌≡◌, ◌↔◌, Bool, ◌&&◌, List, [], ◌∷◌, leb, ltb, eqb, if◌then◌else◌}
use Rattle.std.specs.Int.Count.{count_leading_zeros}
use Rattle.spec.specs.Names.{bad_tag, bad_varint, ends_early, fixed32_wire, largest_number}
use Rattle.spec.specs.Base.{between, Read, Took, No, digit, require}

-- A varint of at most k bytes and one more, which is at most `last`: seven bits a byte, the lowest first; after a byte of 128 or more comes another.
unfoldable pub varint : ℕ → ℕ → List ℕ → Read
varint k last [] = No ends_early
varint zero last (b ∷ s) = if leb b last then Took b 1 else No bad_varint
varint (suc k) last (b ∷ s) =
    let more = digit 128 (b % 128) (varint k last s) in
    if ltb b 128 then Took b 1 else more

-- at most ten bytes, the tenth at most 01; at most five, the fifth at most 0f
abbrev pub varint64 : List ℕ → Read
varint64 s = varint 9 1 s

abbrev pub varint32 : List ℕ → Read
varint32 s = varint 4 15 s

-- the shortest varint of v, of at most k bytes and one more
unfoldable pub shortest : ℕ → ℕ → List ℕ
shortest zero v = v ∷ []
shortest (suc k) v =
    let more = (128 + v % 128) ∷ shortest k (v / 128) in
    if ltb v 128 then v ∷ [] else more

abbrev pub encode : ℕ → List ℕ
encode v = shortest 9 v

-- how many bits of a v below 2 ^ 64 are significant, and how many bytes its shortest varint takes
abbrev pub bits : ℕ → ℕ
bits v = 64 - count_leading_zeros 64 v

unfoldable pub size : ℕ → ℕ
size v = (max 1 (bits v) + 6) / 7

-- The same rule as a ladder of powers of 128. A value stands on rung n when it is below 128 to the n and not below 128 to the n - 1. The first rung has no lower
-- bound, so that 0 stands on it, and the last has no upper bound.
pub record Rung (last v n : ℕ) : Type 0 where
  pub low : 1 ≤ n
  pub high : n ≤ last
  pub reached : 1 < n → 128 ^ (n - 1) ≤ v
  pub below : n < last → v < 128 ^ n

-- A value takes n bytes exactly when it stands on rung n of ten: one byte below 128, ten from 128 to the 9 on. VarintLaws.size_ladder proves it.
abbrev pub SizeLadder : Type 0
SizeLadder = (v n : ℕ) → (size v ≡ n) ↔ Rung 10 v n

abbrev pub tag_size : ℕ → ℕ
tag_size number = size (number * 8)

-- Zigzag: 0, -1, 1, -2 .. are 0, 1, 2, 3 ... A signed number is its 64-bit pattern, so this is one rule for both widths.
unfoldable pub unzigzag : ℕ → ℕ
unzigzag n = if eqb (n % 2) 0 then n / 2 else 2 ^ 64 - 1 - n / 2

unfoldable pub zigzag : ℕ → ℕ
zigzag v = if ltb v (2 ^ 63) then 2 * v else 2 * (2 ^ 64 - v) - 1

-- n bytes, the lowest first
unfoldable pub fixed : ℕ → List ℕ → Read
fixed zero s = Took 0 0
fixed (suc n) [] = No ends_early
fixed (suc n) (b ∷ s) = digit 256 b (fixed n s)

unfoldable pub little : ℕ → ℕ → List ℕ
little zero v = []
little (suc n) v = v % 256 ∷ little n (v / 256)

-- A tag is a varint32: the number times 8, plus the wire type. Wire types 6 and 7 and number 0 are refused.
abbrev pub good_tag : ℕ → Bool
good_tag t = leb (t % 8) fixed32_wire && leb 1 (t / 8)

unfoldable pub tag : List ℕ → Read
tag s = require bad_tag good_tag (varint32 s)

-- the tag of this number and wire type; no bytes are read for it
unfoldable pub make_tag : ℕ → ℕ → Read
make_tag number w = if between 1 largest_number number && leb w fixed32_wire then Took (number * 8 + w) 0 else No bad_tag
