-- What a reading that asks for dropped spans gives: the records of one that does not ask, and the dropped spans; and in its records every byte of the input.
-- And what writing makes of the tags' places and of dropped spans.
-- Assumes nothing: these are definitions. Only laws cite it.
use Rattle.std.specs.Prelude.{ℕ, ◌+◌, ◌≤◌, ◌<◌, ◌≡◌, Bool, true, false, List, [], ◌∷◌, ◌++◌, map, length, take, eqb, if◌then◌else◌}
use Rattle.spec.specs.Names.{dropped_span, invalid_list, message_kind, no_room, packed_head}
use Rattle.spec.specs.Kind.{head_kind}
use Rattle.spec.specs.Schema.{Schema}
use Rattle.spec.specs.Record.{Record, row, deeper}
use Rattle.spec.specs.Reading.{Mode, asking, Reading, Done, Refused, ◌then◌, after, reading_as, number}
use Rattle.spec.specs.Writing.{Place, record_fault, Fine, list_check, writing}

-- ---- the same records, and the dropped spans

-- a reading without its records of dropped spans
unfoldable pub without_dropped : Reading → Reading
without_dropped Done = Done
without_dropped (Refused k p) = Refused k p
without_dropped (r then q) =
    let rest = without_dropped q in
    if eqb r.kind dropped_span then rest else r then rest

-- A reading that asks is, without its dropped spans, the reading that does not ask, unless the call that asks is refused 8. SpanLaws.same_unless_full proves it.
abbrev pub SameUnlessFull : Type 0
SameUnlessFull =
    (mode : Mode) (sch : Schema) (room : ℕ) (s : List ℕ) → (number (reading_as (asking true mode) sch room s) ≡ no_room → ⊥)
    → reading_as (asking false mode) sch room s ≡ without_dropped (reading_as (asking true mode) sch room s)

-- ---- every byte, as a tree

-- the head of a message, or of a packed field
abbrev pub is_head : Record → Bool
is_head r = head_kind r.kind

-- The values of a packed field whose content stands from `at` up to `to`: each begins where the one before it ended. They stand at this depth, carry the place of
-- the field's tag, and are no heads.
pub data Row (d tag : ℕ) : (at to : ℕ) → List Record → Type 0 where
  no_value : {at : ℕ} → Row d tag at at []
  value : {at to : ℕ} {r : Record} {rs : List Record} → r.depth ≡ d → r.tag ≡ tag → is_head r ≡ false → r.start ≡ at → at < r.stop → Row d tag r.stop to rs
      → Row d tag at to (r ∷ rs)

-- The records of a message of this depth, whose fields stand from `at` up to `to`. The span of a field goes from its tag up to its end: the first begins at `at`, each
-- of the others begins where the one before it ended, and the last ends at `to`. The records under a message's head cover its content in the same way, one deeper; those
-- under a packed field's head are a `Row`.
pub data Covers : (d at to : ℕ) → List Record → Type 0 where
  no_field : {d at : ℕ} → Covers d at at []
  one : {d at to : ℕ} {r : Record} {rs : List Record} → r.depth ≡ d → r.tag ≡ at → is_head r ≡ false → at ≤ r.start → r.start ≤ r.stop → at < r.stop
      → Covers d r.stop to rs → Covers d at to (r ∷ rs)
  message : {d at to : ℕ} {r : Record} {qs rs : List Record} → r.depth ≡ d → r.tag ≡ at → r.kind ≡ message_kind → at < r.start
      → Covers (d + 1) r.start r.stop qs → Covers d r.stop to rs → Covers d at to (r ∷ (qs ++ rs))
  packed : {d at to : ℕ} {r : Record} {qs rs : List Record} → r.depth ≡ d → r.tag ≡ at → r.kind ≡ packed_head → at < r.start → r.start < r.stop
      → Row (d + 1) r.tag r.start r.stop qs → Covers d r.stop to rs → Covers d at to (r ∷ (qs ++ rs))

-- Where a reading that asks ends well, its records cover the input. SpanLaws.covering proves it.
abbrev pub Covering : Type 0
Covering =
    (mode : Mode) (sch : Schema) (room : ℕ) (s : List ℕ) (rs : List Record) → reading_as (asking true mode) sch room s ≡ after rs Done → Covers 0 0 (length s) rs

-- ---- every byte, in the list as it is read

-- those of one depth
unfoldable pub of_depth : ℕ → List Record → List Record
of_depth d [] = []
of_depth d (r ∷ rs) =
    let rest = of_depth d rs in
    if eqb r.depth d then r ∷ rest else rest

-- The spans of these records, each from its tag up to its end, stand end to end from `at` up to `to`.
pub data EndToEnd : (at to : ℕ) → List Record → Type 0 where
  nothing_left : {at : ℕ} → EndToEnd at at []
  and_then : {at to : ℕ} {r : Record} {rs : List Record} → r.tag ≡ at → at < r.stop → EndToEnd r.stop to rs → EndToEnd at to (r ∷ rs)

-- Where a reading that asks ends well, its outermost records stand end to end from 0 to the input's end, so that one can be cut out. SpanLaws.outermost proves it.
abbrev pub Outermost : Type 0
Outermost =
    (mode : Mode) (sch : Schema) (room : ℕ) (s : List ℕ) (rs : List Record) → reading_as (asking true mode) sch room s ≡ after rs Done → EndToEnd 0 (length s) (of_depth 0 rs)

-- The same inside every message: of the records under its head, those one deeper stand end to end from its content's start to its end. SpanLaws.inside proves it.
abbrev pub Inside : Type 0
Inside =
    (mode : Mode) (sch : Schema) (room : ℕ) (s : List ℕ) (before : List Record) (r : Record) (later : List Record)
    → reading_as (asking true mode) sch room s ≡ after (before ++ (r ∷ later)) Done → r.kind ≡ message_kind
    → EndToEnd r.start r.stop (of_depth (r.depth + 1) (take (deeper r.depth later) later))

-- ---- lists that are written

-- a record without the place of its tag
abbrev pub untagged : Record → Record
untagged r = row r.depth r.number r.kind r.value r.start r.stop 0

-- The list check and writing, and so the size, ignore the places of tags: lists that differ in nothing else get the same answer. FlatLaws.ignores_tags proves it.
abbrev pub IgnoresTags : Type 0
IgnoresTags =
    (sch : Schema) (space : ℕ) (payload : List ℕ) (rs qs : List Record) → map untagged rs ≡ map untagged qs
    → (list_check sch payload rs ≡ list_check sch payload qs) × (writing sch space payload rs ≡ writing sch space payload qs)

-- A valid list has no dropped span, wherever it stands; the record itself is refused 10 (`DroppedFault`). SpanLaws.no_span_listed and dropped-fault prove it.
abbrev pub NoSpanListed : Type 0
NoSpanListed =
    (sch : Schema) (payload : List ℕ) (before : List Record) (r : Record) (later : List Record) → r.kind ≡ dropped_span → list_check sch payload (before ++ (r ∷ later)) ≡ Fine → ⊥

abbrev pub DroppedFault : Type 0
DroppedFault =
    (sch : Schema) (payload : List ℕ) (here : List Place) (r : Record) (later : List Record) → r.kind ≡ dropped_span → record_fault sch payload here r later ≡ invalid_list
