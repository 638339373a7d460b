-- The texts of answers, and of what a call left in a buffer that was made of one pattern before it. Assumes nothing: these are definitions. Public promises cite it.
use Rattle.std.specs.Prelude.{ℕ, ◌*◌, Bool, not, nat_eq, List, [], ◌∷◌, ◌++◌, take, drop, if◌then◌else◌, Result, Ok, Err}
use Rattle.std.specs.List.{list_any}
use Rattle.spec.specs.Told.{number_of, read_number, read_count, read_place, written_number, written_size, written_index}
use Rattle.spec.specs.declared.answers.Stopped.{Stopped}
use Rattle.spec.specs.declared.answers.Unwritten.{Unwritten}
use Rattle.spec.specs.declared.refusals.Refusal.{Refusal}
use Rattle.printing.specs.Text.{blank, refused_text, decimal, hexadecimal, rows}
use Rattle.printing.specs.declared.Layout.{Layout}

-- three numbers, a space between each and the next
unfoldable pub three : (a b c : ℕ) → List ℕ
three a b c = decimal a ++ ((blank ∷ []) ++ (decimal b ++ ((blank ∷ []) ++ decimal c)))

-- a size, or `refused` and the number
unfoldable pub size_or_refusal : Result ℕ Refusal → List ℕ
size_or_refusal (Ok size) = decimal size
size_or_refusal (Err refusal) = refused_text ++ decimal (number_of refusal)

-- ` touched`
abbrev pub touched_text : List ℕ
touched_text = 32 ∷ 116 ∷ 111 ∷ 117 ∷ 99 ∷ 104 ∷ 101 ∷ 100 ∷ []

unfoldable pub touched_if : Bool → List ℕ
touched_if touched = if touched then touched_text else []

-- ` -`
abbrev pub none_text : List ℕ
none_text = 32 ∷ 45 ∷ []

-- rows, or `-` where there are no numbers
unfoldable pub rows_or_none : Layout → List ℕ → List ℕ
rows_or_none layout [] = none_text
rows_or_none layout (n ∷ ns) = rows layout.last layout.first layout.between layout.within 0 (n ∷ ns)

-- bytes after a space, or `-` where there are none
unfoldable pub bytes_or_none : List ℕ → List ℕ
bytes_or_none [] = none_text
bytes_or_none (b ∷ bs) = (blank ∷ []) ++ hexadecimal (b ∷ bs)

-- whether a number is not the pattern
unfoldable pub changed : ℕ → List ℕ → Bool
changed pattern = list_any (λ n. not (nat_eq n pattern))

-- The numbers of a reading, what it left at the front of the room, and whether anything after that has changed.
unfoldable pub reading_text : Result ℕ Stopped → (stride : ℕ) → Layout → (pattern : ℕ) → (room : List ℕ) → List ℕ
reading_text read stride layout pattern room =
    let n = read_count read * stride in
    three (read_number read) (read_count read) (read_place read) ++ (rows_or_none layout (take n room) ++ touched_if (changed pattern (drop n room)))

-- how many bytes were written
abbrev pub sent : Result ℕ Unwritten → ℕ
sent (Ok size) = size
sent (Err e) = 0

-- The numbers of a writing, the bytes that it left at the front of the output, and whether any after them has changed.
unfoldable pub writing_text : Result ℕ Unwritten → (pattern : ℕ) → (output : List ℕ) → List ℕ
writing_text wrote pattern output =
    three (written_number wrote) (written_size wrote) (written_index wrote)
    ++ (bytes_or_none (take (sent wrote) output) ++ touched_if (changed pattern (drop (sent wrote) output)))
