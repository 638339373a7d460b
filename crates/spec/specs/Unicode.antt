-- UTF-8 from the other side, as RFC 3629, section 3, builds it: the scalar values of Unicode, the octets of each, and the strings of such octets.
-- Nothing here cites the table of section 4 (specs/Utf8); that both say the same is proved (proofs/UnicodeLaws).
-- Assumes nothing: these are definitions. Only laws cite it.
use Rattle.std.specs.Prelude.{ℕ, ◌+◌, ◌/◌, ◌%◌, ◌≤◌, List, [], ◌∷◌, ◌++◌, leb, if◌then◌else◌}

-- A Unicode scalar value: 0 to 10ffff without d800 to dfff, which are kept for the surrogates of UTF-16.
pub data ScalarValue : ℕ → Type 0 where
  below_surrogates : {v : ℕ} → v ≤ 0xd7ff → ScalarValue v
  above_surrogates : {v : ℕ} → 0xe000 ≤ v → v ≤ 0x10ffff → ScalarValue v

-- an octet 10xxxxxx, with the lowest six bits of v
abbrev pub six : ℕ → ℕ
six v = 0x80 + v % 64

-- The octets of v: one, or a first octet 110xxxxx, 1110xxxx or 11110xxx that has the highest bits, and six bits in each of the others.
unfoldable pub spell : ℕ → List ℕ
spell v =
    if leb v 0x7f then v ∷ [] else
    if leb v 0x7ff then (0xc0 + v / 64) ∷ six v ∷ [] else
    if leb v 0xffff then (0xe0 + v / 64 / 64) ∷ six (v / 64) ∷ six v ∷ [] else
    (0xf0 + v / 64 / 64 / 64) ∷ six (v / 64 / 64) ∷ six (v / 64) ∷ six v ∷ []

-- Bytes that are the spellings of scalar values, one after the other.
pub data Text : List ℕ → Type 0 where
  nothing : Text []
  scalar : {v : ℕ} {s : List ℕ} → ScalarValue v → Text s → Text (spell v ++ s)
