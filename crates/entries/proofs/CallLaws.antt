-- What a caller may rely on: any two answers that a call allows are equal, and any two states of a lent buffer. A call over a slice of entries and the one over
-- numbers promise in the same form, so each law is of both. Assumes nothing.
use Prim.Native.Nat.{ℕ}
use mathlib.Core.Path.{◌≡◌, sym, ◌∙◌}
use mathlib.Core.Option as math
use mathlib.Core.List.{List}
use lib.ListN.{length}
use Rattle.std.specs.Prelude.{Option, Result}
use Rattle.spec.specs.Reading.{Reading}
use Rattle.spec.specs.Writing.{Verdict, Writing}
use Rattle.spec.specs.declared.Entry.{Entry}
use Rattle.spec.specs.declared.answers.Fault.{Fault}
use Rattle.spec.specs.declared.answers.Stopped.{Stopped}
use Rattle.spec.specs.declared.answers.Unwritten.{Unwritten}
use Rattle.spec.proofs.ToldLaws.{same_written}
use Rattle.schema.specs.Told.{place}
use Rattle.schema.proofs.ToldLaws.{place_once}
use Rattle.read.proofs.CallLaws as reading
use Rattle.list.specs.Told.{as_verdict}
use Rattle.list.proofs.CallLaws as checking
use Rattle.sizes.specs.Answers.{Tells}
use Rattle.write.proofs.CallLaws as writing
use Rattle.entries.specs.Copied.{copied_to}

pub one_place : (p : math.Option ℕ) (a b : Option ℕ) → place a ≡ p → place b ≡ p → a ≡ b
one_place p a b h g = place_once a b (h ∙ sym g)

pub one_copy : (es : List Entry) (array : List ℕ) (a b : ℕ) (x y : List ℕ) → (a ≡ length es) × (x ≡ copied_to es array) → (b ≡ length es) × (y ≡ copied_to es array) → (a ≡ b) × (x ≡ y)
one_copy es array a b x y h g = (h.0 ∙ sym g.0, h.1 ∙ sym g.1)

pub one_reading : (q : Reading) (a b : Result ℕ Stopped) (room x y : List ℕ) → reading.Answers q a room x → reading.Answers q b room y → (a ≡ b) × (x ≡ y)
one_reading q a b room x y h g = reading.one_answer q a b room x y h g

pub one_verdict : (v : Verdict) (a b : Result (Unit {0}) Fault) → as_verdict a ≡ v → as_verdict b ≡ v → a ≡ b
one_verdict v a b h g = checking.one_answer v a b h g

pub one_size : (w : Writing) (a b : Result ℕ Unwritten) → Tells w a → Tells w b → a ≡ b
one_size w a b h g = same_written a b (h.number ∙ sym g.number) (h.size ∙ sym g.size) (h.index ∙ sym g.index)

pub one_writing : (w : Writing) (a b : Result ℕ Unwritten) (out x y : List ℕ) → writing.Answers w a out x → writing.Answers w b out y → (a ≡ b) × (x ≡ y)
one_writing w a b out x y h g = writing.one_answer w a b out x y h g
