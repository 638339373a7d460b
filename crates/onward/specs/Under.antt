-- That a content holds all that was under it: the content of a message or packed field, read alone, shows the records that were under its head. So who
-- receives an unknown field from an older reader, and has the newer schema, has everything. Assumes nothing: these are definitions. Only laws cite it.
use Rattle.std.specs.Prelude.{ℕ, ◌+◌, ◌-◌, ◌≤◌, ◌≡◌, true, List, ◌∷◌, map, length, take, drop, eqb, if◌then◌else◌}
use Rattle.std.proofs.Math.Option.{none}
use Rattle.spec.specs.Names.{message_kind, packed_head}
use Rattle.spec.specs.Base.{limit}
use Rattle.spec.specs.Kind.{shape}
use Rattle.spec.specs.Schema.{Schema, bad_schema, lookup, inside_of}
use Rattle.spec.specs.Record.{Record, row, deeper}
use Rattle.spec.specs.declared.Mode.{Mode}
use Rattle.spec.specs.Reading.{looking, Reading, Done, contents, read, after}
use Rattle.spec.specs.Writing.{written, Fine, list_check}
use Rattle.spec.specs.Spans.{is_head}
use Rattle.onward.specs.Onward.{seen, unknown}

-- ---- a head somewhere in a list

-- The record r stands among the records of a message of this type, or in a message among them, at any depth. `under` are the records under it, and `inner` is what the
-- schema says is in it: the type of a message's fields, or the kind of a packed field's elements.
pub data Among (sch : Schema) (r : Record) (under : List Record) (inner : ℕ) : (type : ℕ) → List Record → Type 0 where
  first : {type : ℕ} {rs : List Record} → under ≡ take (deeper r.depth rs) rs → inner ≡ inside_of r.kind (lookup sch.entries type r.number)
      → Among sch r under inner type (r ∷ rs)
  later : {type : ℕ} {q : Record} {rs : List Record} → Among sch r under inner type (drop (deeper q.depth rs) rs) → Among sch r under inner type (q ∷ rs)
  nested : {type : ℕ} {q : Record} {rs : List Record} → q.kind ≡ message_kind
      → Among sch r under inner (lookup sch.entries type q.number).child (take (deeper q.depth rs) rs) → Among sch r under inner type (q ∷ rs)

-- ---- its content alone

-- The bytes s of its content, read alone, from depth 0 on: the elements of a packed field, or the fields of a message.
abbrev pub alone : Mode → Schema → Record → (inner : ℕ) → List ℕ → Reading
alone mode sch r inner s = if eqb r.kind packed_head then contents (shape inner) 0 r.number inner 0 0 s else read (looking mode sch) 0 inner 0 s

-- the same record, n levels further out
abbrev pub lifted : ℕ → Record → Record
lifted n r = row (r.depth - n) r.number r.kind r.value r.start r.stop r.tag

-- They are read without refusal, as a list that shows the records `under` r, from depth 0 on.
pub record Opens (mode : Mode) (sch : Schema) (payload : List ℕ) (r : Record) (under : List Record) (inner : ℕ) (s : List ℕ) : Type 0 where
  pub list : List Record
  pub reads : alone mode sch r inner s ≡ after list Done
  pub shows : map (seen s) list ≡ map (seen payload) (map (lifted (r.depth + 1)) under)

-- In a list that is valid under the new schema, each head: the content that a reader which lacks the field has of it opens. UnderLaws.opens_alone proves it.
abbrev pub OpensAlone : Type 0
OpensAlone =
    (mode : Mode) (new : Schema) (payload : List ℕ) (rs : List Record) → bad_schema new ≡ none → list_check new payload rs ≡ Fine → length (written payload rs) ≤ limit
    → (r : Record) (under : List Record) (inner : ℕ) → is_head r ≡ true → Among new r under inner 0 rs
    → Opens mode new payload r under inner (unknown payload r under).content
