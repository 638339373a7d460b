-- Laws of the two calls: what a reading from the start of the room answers, and what is refused before it. Assumes nothing.
use Prim.Native.Nat.{ℕ, ◌/◌, ◌≤◌, ◌<◌}
use native.Mathlib.Omega.{arith}
use mathlib.Core.Path.{◌≡◌, refl, sym, ap, ap₂, ◌∙◌}
use mathlib.Core.Option.{Option, none, some}
use mathlib.Core.List.{List}
use lib.ListN.{length}
use borrow.Author.Tests.{lt-ltb, le-ltb}
use Rattle.spec.specs.Names.{invalid_schema, too_large}
use Rattle.spec.specs.Base.{limit}
use Rattle.spec.specs.Record.{stride, stored}
use Rattle.spec.specs.Reading.{Look, Reading, Refused, within, refused_or, called, number, place, listed, room_after, read, reading_by, reading_as}
use Rattle.spec.specs.Schema.{bad_schema, says}
use Rattle.spec.proofs.SchemaLaws.{valid_types}
use Rattle.spec.proofs.ValidLaws.{goes}
use Rattle.skip.proofs.KnownLaws.{some_number}
use Rattle.schema.specs.Tables.{keys_of, info_of, table_says}
use Rattle.schema.proofs.TableLaws.{table_says_lem, said_message}
use Rattle.std.specs.Prelude.{Result, Ok, Err}
use Rattle.spec.specs.Told.{number_of, read_number, read_place, read_count}
use Rattle.spec.specs.declared.answers.Stopped.{Stopped}
use Rattle.spec.specs.declared.refusals.Refusal.{Refusal}
use Rattle.spec.proofs.ToldLaws.{same_refusal}
use Rattle.read.specs.Prepared.{PreparedReads}
use Rattle.read.specs.Emit.{left, emit, counted}
use Rattle.read.specs.declared.room.Stop.{Stop}
use Rattle.read.proofs.CongLaws.{read_cong}
use Rattle.read.proofs.EmitLaws.{emit_all, ended_going, ended_stopped}

-- the answer and the room that a reading leaves
abbrev pub Answers : Reading → Result ℕ Stopped → (room room' : List ℕ) → Type 0
Answers q a room room' = (read_number a ≡ number q) × (read_place a ≡ place q) × (read_count a ≡ length (listed q)) × (room' ≡ room_after q room)

-- any two answers to a call, and any two rooms, are equal
same_stop : (a b : Stopped) → a.refusal ≡ b.refusal → a.count ≡ b.count → a.place ≡ b.place → a ≡ b
same_stop a b e f g =
    ap (λ (r : Refusal). record { refusal = r; count = a.count; place = a.place }) e
    ∙ ap₂ (λ (n p : ℕ). record { refusal = b.refusal; count = n; place = p }) f g

pub one_answer : (q : Reading) (a b : Result ℕ Stopped) (room x y : List ℕ) → Answers q a room x → Answers q b room y → (a ≡ b) × (x ≡ y)
one_answer q (Ok n) (Ok m) room x y h g = (ap Ok (h.2 ∙ sym g.2), h.3 ∙ sym g.3)
one_answer q (Ok n) (Err b) room x y h g = absurd (omega (arith, some_number b.refusal, h.0, g.0))
one_answer q (Err a) (Ok n) room x y h g = absurd (omega (arith, some_number a.refusal, h.0, g.0))
one_answer q (Err a) (Err b) room x y h g = (ap Err (same_stop a b (same_refusal (h.0 ∙ sym g.0)) (h.2 ∙ sym g.2) (h.1 ∙ sym g.1)), h.3 ∙ sym g.3)

pub answers_refused : (q : Reading) (r : Refusal) (p : ℕ) (room : List ℕ) → q ≡ Refused (number_of r) p → Answers q (Err (record { refusal = r; count = 0; place = p })) room room
unfolding number place listed stored
answers_refused q r p room e = rw e (refl, refl, refl, refl)

module _ (q : Reading) (room room' : List ℕ) where
  abbrev fits : Reading
  fits = within (length room / stride) q

  pub answers_read : {to : ℕ} → left (Ok to) room' ≡ emit room 0 q → Answers fits (Ok (to / stride)) room room'
  answers_read e =
      let h = ended_going 0 fits (e ∙ emit_all room q) in
      (h.0, h.1, omega (arith, h.2), h.3)

  pub answers_stopped : (x : Stop) → left (Err x) room' ≡ emit room 0 q → Answers fits (Err (counted x)) room room'
  answers_stopped x e =
      let h = ended_stopped 0 fits (e ∙ emit_all room q) in
      (h.0, h.1, omega (arith, h.2), h.3)

-- under tables, which have no bad entry
pub answers_prepared : (look : Look) (s room room' : List ℕ) (r : Result ℕ Stopped) → length s ≤ limit
    → Answers (within (length room / stride) (read look 0 0 0 s)) r room room' → Answers (reading_by none look (length room / stride) s) r room room'
answers_prepared look s room room' r h a = rw (goes none look (length room / stride) s h refl) a

-- ---- what is refused before the bytes are read

module _ (bad : Option ℕ) (look : Look) (n : ℕ) (s : List ℕ) where
  pub reading_long : limit < length s → reading_by bad look n s ≡ Refused too_large 0
  unfolding reading_by called
  reading_long h = rw (lt-ltb limit (length s) h)

  pub reading_bad : {i : ℕ} → length s ≤ limit → bad ≡ some i → reading_by bad look n s ≡ Refused invalid_schema i
  unfolding reading_by called refused_or
  reading_bad h e = rw (le-ltb limit (length s) h, e)

-- ---- the tables of a schema

-- two readings that are one where no entry is bad
called_cong : (bad : Option ℕ) (s : List ℕ) (p q : Reading) → (bad ≡ none → p ≡ q) → called bad s p ≡ called bad s q
unfolding called refused_or
called_cong none s p q e = ap (called none s) (e refl)
called_cong (some i) s p q e = refl

pub prepared_reads : PreparedReads
unfolding reading_by reading_as
prepared_reads mode sch n s =
    called_cong (bad_schema sch) s _ _ λ valid.
    let few = valid_types sch valid in
    ap (within n)
    (sym (read_cong mode sch.types (says sch) (table_says (keys_of sch) (info_of sch))
    (λ type t a b c d. sym (table_says_lem sch valid type t (omega (arith, a, few.1)) b c d))
    (λ type t d. said_message sch valid type t d)
    0 0 0 s (omega (arith, few.0))))
