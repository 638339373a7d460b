-- The plain round trip of the calls: what `write` wrote without refusal, `read` reads back under the same schema, where there is room for as many
-- records: the same depths, numbers, kinds, values and contents. Assumes nothing.
use Prim.Native.Nat.{ℕ, ◌*◌, ◌/◌, ◌≤◌}
use native.Mathlib.Omega.{arith}
use mathlib.Core.Path.{◌≡◌, refl, sym, ap₂, ◌∙◌, subst}
use mathlib.Core.List.{List, map}
use lib.ListN.{length, take}
use Rattle.spec.specs.Base.{limit}
use Rattle.spec.specs.Schema.{Schema}
use Rattle.spec.specs.Record.{Record, stride, records_of}
use Rattle.spec.specs.Reading.{plainly, reading}
use Rattle.spec.specs.Writing as spec
use Rattle.spec.proofs.SizeLaws.{Answered, wrote, short, above, faulty, writing_answered}
use Rattle.onward.specs.Onward.{seen}
use Rattle.onward.proofs.OnwardLaws.{there_and_back}
use Rattle.onward.proofs.RoomLaws.{onward_answer}
use Rattle.read.proofs.CallLaws as read-laws
use Rattle.std.specs.Prelude.{Result}
use Rattle.spec.specs.Told.{read_number, read_count, written_number, written_size}
use Rattle.spec.specs.declared.answers.Stopped.{Stopped}
use Rattle.spec.specs.declared.answers.Unwritten.{Unwritten}
use Rattle.write.proofs.CallLaws as write-laws
use Rattle.trip.specs.Copy.{writes, reads}
use Rattle.trip.proofs.CopyLaws.{room_records}
use Rattle.trip.proofs.TripLaws.{told_front}

-- a writing that is not refused
was_written : {room : ℕ} {b : List ℕ} {w : spec.Writing} → Answered room b w → spec.number w ≡ 0 → (w ≡ spec.Wrote b) × (length b ≤ limit) × (length b ≤ room)
unfolding spec.number
was_written (wrote h j) e = (refl, h, j)
was_written (short h j) e = absurd (omega arith)
was_written (above h) e = absurd (omega arith)
was_written (faulty h j) e = absurd (omega arith)

was_fine : (v : spec.Verdict) (w : spec.Writing) {b : List ℕ} → spec.judged v w ≡ spec.Wrote b → v ≡ spec.Fine
unfolding spec.judged
was_fine spec.Fine w e = refl
was_fine (spec.Faulty k i) w e = let z : ◌≡◌ {A = ℕ} 0 1 = cc in absurd (omega arith)

module _ (sch : Schema) (list payload out room : List ℕ) where
  abbrev rs : List Record
  rs = records_of list

  pub reads_back : (a : Result ℕ Unwritten) {out' : List ℕ} (b : Result ℕ Stopped) {room' : List ℕ}
      → write-laws.Answers (writes sch list payload out) a out out' → written_number a ≡ 0
      → read-laws.Answers (reads sch (take (written_size a) out') room) b room room' → length (records_of list) ≤ length room / stride
      → (read_number b ≡ 0) × (map (seen (take (written_size a) out')) (records_of (take (stride * read_count b) room')) ≡ map (seen payload) (records_of list))
  unfolding spec.writing reading
  reads_back a {out'} b {room'} w zero r enough =
      let s : List ℕ = spec.written payload rs in
      let is = was_written (writing_answered sch (length out) payload rs) (sym w.0.number ∙ zero) in
      let f = write-laws.check_fine sch payload rs (was_fine (spec.list_check sch payload rs) (spec.sized (length out) s) is.0) in
      let g = there_and_back plainly sch payload rs (length room / stride) (length out) f.0 f.1 is.1 enough is.2 in
      let sends : take (written_size a) out' ≡ s = told_front is.0 a w.0 out w.1 in
      let there = subst (λ (x : List ℕ). read-laws.Answers (reads sch x room) b room room') sends r in
      let answer = onward_answer g.0 in
      let lists : records_of (take (stride * read_count b) room') ≡ g.0.list = room_records sch s room there.2 there.3 (stride * read_count b) refl ∙ answer.2 in (
        there.0 ∙ answer.0,
        ap₂ (λ (x : List ℕ) (y : List Record). map (seen x) y) sends lists ∙ g.0.shows ∙ g.1,
      )
