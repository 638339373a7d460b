-- A record, and how lists of records are laid out in lent numbers. Assumes nothing: these are definitions. Public promises cite it.
use Rattle.std.specs.Prelude.{ℕ, zero, suc, ◌+◌, List, [], ◌∷◌, ◌++◌, length, drop, get_or, ltb, if◌then◌else◌}
use Rattle.spec.specs.Names.{number_column, kind_column, value_column, start_column, stop_column, tag_column}

-- A record; `tag` is the place of its field's tag, for a packed element that of its head. Writing and the list check ignore it.
pub record Record : Type 0 where
  pub depth : ℕ
  pub number : ℕ
  pub kind : ℕ
  pub value : ℕ
  pub start : ℕ
  pub stop : ℕ
  pub tag : ℕ

abbrev pub row : (depth number kind value start stop tag : ℕ) → Record
row d n k v a e t = record { depth = d; number = n; kind = k; value = v; start = a; stop = e; tag = t }

-- how many records in front stand deeper than d
unfoldable pub deeper : ℕ → List Record → ℕ
deeper d [] = 0
deeper d (r ∷ rs) =
    let more = deeper d rs + 1 in
    if ltb d r.depth then more else 0

-- ---- as numbers, one record after the other

-- how many numbers a record has; those that are stored; the record whose numbers begin at a place, and at the front
abbrev pub stride : ℕ
stride = 7

unfoldable pub numbers : Record → List ℕ
numbers r = r.depth ∷ r.number ∷ r.kind ∷ r.value ∷ r.start ∷ r.stop ∷ r.tag ∷ []

abbrev pub record_at : List ℕ → ℕ → Record
record_at ns at = row (get_or ns at 0) (get_or ns (at + number_column) 0) (get_or ns (at + kind_column) 0) (get_or ns (at + value_column) 0) (get_or ns (at + start_column) 0) (get_or ns (at + stop_column) 0) (get_or ns (at + tag_column) 0)

abbrev pub loaded : List ℕ → Record
loaded ns = record_at ns 0

unfoldable pub stored : List Record → List ℕ
stored [] = []
stored (r ∷ rs) = numbers r ++ stored rs

-- A remainder of fewer numbers than a record has is an incomplete record: of depth 0, so that a packed head before it has no record one deeper after it,
-- and of kind 0, which no list may have.
abbrev pub broken : Record
broken = row 0 0 0 0 0 0 0

-- the records that some numbers are; k is no less than the count of the numbers
unfoldable pub records_up_to : ℕ → List ℕ → List Record
records_up_to zero ns = []
records_up_to (suc k) [] = []
records_up_to (suc k) (n ∷ ns) =
    let more = loaded (n ∷ ns) ∷ records_up_to k (drop stride (n ∷ ns)) in
    if ltb (length (n ∷ ns)) stride then broken ∷ [] else more

unfoldable pub records_of : List ℕ → List Record
records_of ns = records_up_to (length ns) ns

-- those from a place on
abbrev pub records_from : List ℕ → ℕ → List Record
records_from ns at = records_of (drop at ns)
