-- What the functions of this crate store: bytes from a position on, and the texts of numbers and of listings.
-- A text is a list of bytes in ASCII. Assumes nothing: these are definitions. Public promises cite it.
use Rattle.std.specs.Prelude.{ℕ, zero, suc, ◌+◌, ◌/◌, ◌%◌, ◌≡◌, List, [], ◌∷◌, ◌++◌, ltb, eqb, length, set, if◌then◌else◌}
use Rattle.spec.specs.Names.{tag_column}

-- ---- storing

-- One byte at a position, where there is room for it: the position then, and the slice then.
unfoldable pub put : ℕ → ℕ → List ℕ → ℕ × List ℕ
put at b out = if ltb at (length out) then (at + 1, set out at b) else (at, out)

-- a text, byte by byte
unfoldable pub puts : ℕ → List ℕ → List ℕ → ℕ × List ℕ
puts at [] out = (at, out)
puts at (b ∷ bs) out = puts (put at b out).0 bs (put at b out).1

-- What was stored from `at` on is the text, and `next` is the position after it.
pub record Shown (out : List ℕ) (at : ℕ) (text : List ℕ) (after : List ℕ) (next : ℕ) : Type 0 where
  pub says : puts at text out ≡ (next, after)

-- ---- bytes of texts

-- `0`; what gives the letter of a hexadecimal digit above nine; a space
abbrev pub zero_glyph : ℕ
zero_glyph = 48

abbrev pub letters : ℕ
letters = 87

abbrev pub blank : ℕ
blank = 32

-- `ok ` and `refused ` and ` at `
abbrev pub ok_text : List ℕ
ok_text = 111 ∷ 107 ∷ 32 ∷ []

abbrev pub refused_text : List ℕ
refused_text = 114 ∷ 101 ∷ 102 ∷ 117 ∷ 115 ∷ 101 ∷ 100 ∷ 32 ∷ []

abbrev pub at_text : List ℕ
at_text = 32 ∷ 97 ∷ 116 ∷ 32 ∷ []

-- ---- numbers

-- the digits of a number in decimal, the last `left` at the most
unfoldable pub digits_of : ℕ → ℕ → List ℕ
digits_of zero n = []
digits_of (suc left) n =
    let more = digits_of left (n / 10) ++ ((zero_glyph + n % 10) ∷ []) in
    if ltb n 10 then (zero_glyph + n) ∷ [] else more

-- a number of 64 bits has twenty digits at the most
unfoldable pub decimal : ℕ → List ℕ
decimal n = digits_of 20 n

-- a digit of hexadecimal
unfoldable pub glyph : ℕ → ℕ
glyph d = if ltb d 10 then zero_glyph + d else letters + d

unfoldable pub hexadecimal : List ℕ → List ℕ
hexadecimal [] = []
hexadecimal (b ∷ bs) = glyph (b / 16) ∷ glyph (b % 16) ∷ hexadecimal bs

-- ---- rows

-- Rows of numbers, from a column on; `last` is their last column: `before` stands before the first number, `between` before each further row, `within` before the
-- other numbers of a row.
unfoldable pub rows : (last before between within column : ℕ) → List ℕ → List ℕ
rows last before between within column [] = []
rows last before between within column (n ∷ ns) =
    let on = rows last within between within (column + 1) ns in
    let anew = rows last between between within 0 ns in
    (before ∷ []) ++ (decimal n ++ (if ltb column last then on else anew))

-- `ok COUNT` or `refused NUMBER at PLACE`
unfoldable pub verdict : (number count place : ℕ) → List ℕ
verdict number count place =
    if eqb number 0 then ok_text ++ decimal count
    else refused_text ++ (decimal number ++ (at_text ++ decimal place))

-- `depth number kind value start end tag`
unfoldable pub header : List ℕ
header =
    100 ∷ 101 ∷ 112 ∷ 116 ∷ 104 ∷ 32 ∷ 110 ∷ 117 ∷ 109 ∷ 98 ∷ 101 ∷ 114 ∷ 32 ∷ 107 ∷ 105 ∷ 110 ∷ 100 ∷ 32 ∷ 118 ∷ 97 ∷ 108 ∷ 117 ∷ 101 ∷ 32 ∷ 115 ∷ 116 ∷ 97
    ∷ 114 ∷ 116 ∷ 32 ∷ 101 ∷ 110 ∷ 100 ∷ 32 ∷ 116 ∷ 97 ∷ 103 ∷ []

-- The lines of a reading: one for each row, and how it ended; `end` stands before each.
unfoldable pub lines : (number count place : ℕ) → List ℕ → (last end : ℕ) → List ℕ
lines number count place list last end = rows last end end blank 0 list ++ ((end ∷ []) ++ verdict number count place)

-- The listing of records: the header, a line for each record, how the reading ended; `end` stands between lines.
unfoldable pub listing : (number count place : ℕ) → List ℕ → (end : ℕ) → List ℕ
listing number count place list end = header ++ lines number count place list tag_column end
