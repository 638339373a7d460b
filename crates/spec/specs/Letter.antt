-- What the place of refusal 6 tells: which letter of which string is broken. A letter is a character of UTF-8. Assumes nothing: these are definitions. Only laws cite it.
use Rattle.std.specs.Prelude.{ℕ, ◌+◌, ◌≤◌, ◌<◌, ◌≡◌, true, false, List, length, drop}
use Rattle.std.proofs.Math.Option.{Option}
use Rattle.spec.specs.Names.{not_utf8, string_kind}
use Rattle.spec.specs.Base.{part, Took}
use Rattle.spec.specs.Varint.{varint32, tag}
use Rattle.spec.specs.Utf8.{utf8}
use Rattle.spec.specs.Unicode.{Text}
use Rattle.spec.specs.Schema.{Schema}
use Rattle.spec.specs.Skip.{content}
use Rattle.spec.specs.Reading.{Mode, Look, looking, Message, field, used, reading_by, reading_as, number, place}
use Rattle.spec.specs.Pull.{Ask, Refused, string, step_at}

-- A content stands in s from `start` up to `stop`. Its bytes before `place` are whole letters, by both readings of RFC 3629, and no front of it that is longer is.
-- So the letter that begins at `place` is broken: by a byte that may not stand there, or because the content ends within the letter.
pub record BrokenAt (s : List ℕ) (start stop place : ℕ) : Type 0 where
  pub in_order : start ≤ place
  pub before_end : place < stop
  pub in_bytes : stop ≤ length s
  pub whole : utf8 (part start place s) ≡ true
  pub letters : Text (part start place s)
  pub no_longer : (n : ℕ) → place < n → n ≤ stop → utf8 (part start n s) ≡ false
  pub no_letters : (n : ℕ) → place < n → n ≤ stop → Text (part start n s) → ⊥

-- A place of the message s where a field begins, or a message ends: it is `at`, in a message of this depth and type, and u are the bytes from there to the end of that message.
-- The first field stands in front; after a field comes the next one; and a message has fields within.
pub data FieldAt (look : Look) (s : List ℕ) : (depth type at : ℕ) → List ℕ → Type 0 where
  first : FieldAt look s 0 0 0 s
  next : {depth type at : ℕ} {u : List ℕ} → FieldAt look s depth type at u
      → FieldAt look s depth type (at + used (field look depth type u)) (drop (used (field look depth type u)) u)
  within : {depth type at m child a e : ℕ} {u : List ℕ} → FieldAt look s depth type at u → field look depth type u ≡ Message m child a e
      → FieldAt look s (depth + 1) child (at + a) (part a e u)

-- A string of the message s: a field whose tag is a string's, then its length, then its content, from `start` up to `stop`.
pub record StringAt (look : Look) (s : List ℕ) (start stop : ℕ) : Type 0 where
  pub depth : ℕ
  pub type : ℕ
  pub at : ℕ
  pub u : List ℕ
  pub is_field : FieldAt look s depth type at u
  pub value : ℕ
  pub after_tag : ℕ
  pub is_tag : tag u ≡ Took value after_tag
  pub is_string : (look.says type value).kind ≡ string_kind
  pub from : ℕ
  pub to : ℕ
  pub is_content : content varint32 (drop after_tag u) ≡ Took from to
  pub starts : start ≡ at + after_tag + from
  pub stops : stop ≡ at + after_tag + to

pub record BrokenLetter (look : Look) (s : List ℕ) (place : ℕ) : Type 0 where
  pub start : ℕ
  pub stop : ℕ
  pub of_string : StringAt look s start stop
  pub broken : BrokenAt s start stop place

-- What an operator is told: where reading is refused 6, at any depth, its place is the first byte of a broken letter, in a string of the message.
-- LetterLaws.tells_letter proves it of reading under a schema, and LetterLaws.told_letter of reading over whatever is known of tags, such as what prepared tables say.
abbrev pub TellsLetter : Type 0
TellsLetter =
    (mode : Mode) (sch : Schema) (room : ℕ) (s : List ℕ) → number (reading_as mode sch room s) ≡ not_utf8
    → BrokenLetter (looking mode sch) s (place (reading_as mode sch room s))

abbrev pub ToldLetter : Type 0
ToldLetter = (bad : Option ℕ) (look : Look) (room : ℕ) (s : List ℕ) → number (reading_by bad look room s) ≡ not_utf8 → BrokenLetter look s (place (reading_by bad look room s))

-- The same of the pull reader: a step that is refused 6 is a string's, its place is in the reader's own bytes, and it stays where it was. LetterLaws.pull_tells_letter proves it.
abbrev pub PullTellsLetter : Type 0
PullTellsLetter =
    (s : List ℕ) (at level p : ℕ) (ask : Ask) → (step_at s at level ask).said ≡ Refused not_utf8 p
    → (ask ≡ string) × (a z : ℕ) × (content varint32 (drop at s) ≡ Took a z) × BrokenAt s (at + a) (at + z) p × ((step_at s at level ask).at ≡ at)
