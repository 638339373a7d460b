-- UTF-8, from the table of RFC 3629, section 4. Assumes nothing: these are definitions. Public promises cite it.
use Rattle.std.specs.Prelude.{ℕ, zero, suc, ◌+◌, Bool, true, false, ◌&&◌, List, [], ◌∷◌, length, drop, leb, eqb, if◌then◌else◌}
use Rattle.spec.specs.Base.{between, part}

-- What a lead byte says: how many bytes follow, and the bounds of the first of them; or that it is none.
pub data Lead : Type 0 where
  Follow : ℕ → ℕ → ℕ → Lead
  NoLead : Lead

unfoldable pub lead : ℕ → Lead
lead b =
    if leb b 0x7f then Follow 0 0x80 0xbf else
    if between 0xc2 0xdf b then Follow 1 0x80 0xbf else
    if eqb b 0xe0 then Follow 2 0xa0 0xbf else
    if between 0xe1 0xec b then Follow 2 0x80 0xbf else
    if eqb b 0xed then Follow 2 0x80 0x9f else
    if between 0xee 0xef b then Follow 2 0x80 0xbf else
    if eqb b 0xf0 then Follow 3 0x90 0xbf else
    if between 0xf1 0xf3 b then Follow 3 0x80 0xbf else
    if eqb b 0xf4 then Follow 3 0x80 0x8f else
    NoLead

-- n bytes stand in front, the first between lo and hi, the others between 80 and bf
unfoldable pub followers : ℕ → ℕ → ℕ → List ℕ → Bool
followers zero lo hi s = true
followers (suc n) lo hi [] = false
followers (suc n) lo hi (b ∷ s) = between lo hi b && followers n 0x80 0xbf s

-- how long the character in front is; 0 where there is none
unfoldable pub behind : Lead → List ℕ → ℕ
behind (Follow n lo hi) s = if followers n lo hi s then n + 1 else 0
behind NoLead s = 0

unfoldable pub char : List ℕ → ℕ
char [] = 0
char (b ∷ s) = behind (lead b) s

-- the length of the longest prefix that is made of at most k characters
unfoldable pub chars : ℕ → List ℕ → ℕ
chars zero s = 0
chars (suc k) s =
    let more = char s + chars k (drop (char s) s) in
    if eqb (char s) 0 then 0 else more

-- the length of the longest valid prefix
unfoldable pub valid_prefix : List ℕ → ℕ
valid_prefix s = chars (length s) s

abbrev pub utf8 : List ℕ → Bool
utf8 s = eqb (valid_prefix s) (length s)

-- where that prefix of a content ends, which stands in s from a up to z: the place of its first character that is broken
abbrev pub valid_end : (a z : ℕ) → List ℕ → ℕ
valid_end a z s = a + valid_prefix (part a z s)
