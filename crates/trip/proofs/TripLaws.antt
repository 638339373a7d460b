-- Laws of the trip: its promise from those of its steps, that it determines every answer and buffer, and demand 3. Assumes nothing.
use Prim.Native.Nat.{ℕ, ◌*◌, ◌/◌, ◌≤◌}
use mathlib.Core.Path.{◌≡◌, refl, sym, ap, ap₂, ◌∙◌, subst}
use mathlib.Core.List.{List, map}
use lib.ListN.{length, take, drop}
use lib.Seq.{take_at}
use Rattle.spec.specs.Schema.{Schema}
use Rattle.spec.specs.Record.{Record, stride, records_of}
use Rattle.spec.specs.Reading.{plainly, reading, number, listed}
use Rattle.spec.specs.Writing as spec
use Rattle.spec.specs.Writing.{sent}
use Rattle.onward.specs.Onward.{seen, GoesOnward}
use Rattle.onward.proofs.OnwardLaws.{demand_three}
use Rattle.onward.proofs.RoomLaws.{onward_answer}
use Rattle.read.proofs.CallLaws as read-laws
use Rattle.std.specs.Prelude.{Result}
use Rattle.spec.specs.Told.{read_count, written_number, written_size}
use Rattle.spec.specs.declared.answers.Stopped.{Stopped}
use Rattle.spec.specs.declared.answers.Unwritten.{Unwritten}
use Rattle.spec.proofs.ToldLaws.{same_written}
use Rattle.sizes.specs.Answers.{Tells}
use Rattle.write.proofs.CallLaws as write-laws
use Rattle.trip.specs.Copy.{writes, reads, rewrites, PassedOn, Copied, Demanded, message, Unharmed}
use Rattle.trip.specs.declared.Trip.{Trip}
use Rattle.trip.proofs.CopyLaws.{room_records}

-- ---- from the promises of the steps

-- what is written again are the first k numbers of the room
pub passed_on : (old : Schema) (s room again : List ℕ) (k : ℕ) {got : Result ℕ Stopped} {rewrote : Result ℕ Unwritten} {room' again' : List ℕ}
    → read-laws.Answers (reads old s room) got room room'
    → write-laws.Answers (spec.writing old (length again) s (records_of (take k room'))) rewrote again again'
    → k ≡ stride * read_count got → PassedOn old s room again got rewrote room' again'
passed_on old s room again k {rewrote = rewrote} {room' = room'} {again'} r v is =
    let same : spec.writing old (length again) s (records_of (take k room')) ≡ rewrites old s room again =
    ap (spec.writing old (length again) s) (room_records old s room r.2 r.3 k is) in
    let back = subst (λ (x : spec.Writing). write-laws.Answers x rewrote again again') same v in
    record { number_is = r.0; place_is = r.1; count_is = r.2; room_holds = r.3; rewrote_is = back.0; again_holds = back.1 }

module _ (new old : Schema) (list payload bytes room again : List ℕ) where
  -- s is what was read
  pub copied : {wrote rewrote : Result ℕ Unwritten} {got : Result ℕ Stopped} {bytes' room' again' s : List ℕ}
      → write-laws.Answers (writes new list payload bytes) wrote bytes bytes' → s ≡ sent (writes new list payload bytes)
      → PassedOn old s room again got rewrote room' again'
      → Copied new old list payload bytes room again (record { wrote = wrote; read = got; again = rewrote }) bytes' room' again'
  copied {rewrote = rewrote} {got} {room' = room'} {again'} w is p =
      record { wrote_is = w.0; bytes_hold = w.1; passed = subst (λ (x : List ℕ). PassedOn old x room again got rewrote room' again') is p }

  -- any two answers, and any two of each buffer, are equal
  pub one_answer : {t u : Trip} {bytes₁ bytes₂ room₁ room₂ again₁ again₂ : List ℕ}
      → Copied new old list payload bytes room again t bytes₁ room₁ again₁ → Copied new old list payload bytes room again u bytes₂ room₂ again₂
      → (t ≡ u) × (bytes₁ ≡ bytes₂) × (room₁ ≡ room₂) × (again₁ ≡ again₂)
  one_answer {t} {u} {room₁ = room₁} {room₂ = room₂} h g =
      let p = h.passed in
      let q = g.passed in
      let r =
      read-laws.one_answer (reads old (sent (writes new list payload bytes)) room) t.read u.read room room₁ room₂
      (p.number_is, p.place_is, p.count_is, p.room_holds) (q.number_is, q.place_is, q.count_is, q.room_holds) in
      let wrote : t.wrote ≡ u.wrote =
      same_written t.wrote u.wrote (h.wrote_is.number ∙ sym g.wrote_is.number) (h.wrote_is.size ∙ sym g.wrote_is.size) (h.wrote_is.index ∙ sym g.wrote_is.index) in
      let rewrote : t.again ≡ u.again =
      same_written t.again u.again (p.rewrote_is.number ∙ sym q.rewrote_is.number) (p.rewrote_is.size ∙ sym q.rewrote_is.size)
      (p.rewrote_is.index ∙ sym q.rewrote_is.index) in
      let same : t ≡ u =
      ap₂ (λ (x y : Result ℕ Unwritten). record { wrote = x; read = t.read; again = y }) wrote rewrote
      ∙ ap (λ (x : Result ℕ Stopped). record { wrote = u.wrote; read = x; again = u.again }) r.0 in
      (same, h.bytes_hold ∙ sym g.bytes_hold, r.1, p.again_holds ∙ sym q.again_holds)

-- ---- demand 3

-- what an answer and an output tell of a writing that is not refused
module _ {w : spec.Writing} {s : List ℕ} (is : w ≡ spec.Wrote s) (a : Result ℕ Unwritten) (tells : Tells w a) where
  told_well : written_number a ≡ 0
  unfolding spec.number
  told_well = tells.number ∙ ap spec.number is

  pub told_front : (out : List ℕ) {out' : List ℕ} → out' ≡ spec.output w out → take (written_size a) out' ≡ s
  unfolding spec.size spec.output
  told_front out holds =
      let size_is : written_size a ≡ length s = tells.size ∙ ap spec.size is in
      ap₂ take size_is (holds ∙ ap (λ (x : spec.Writing). spec.output x out) is) ∙ take_at s (drop (length s) out) (length s) refl

module _ (new old : Schema) (list payload bytes room again : List ℕ) (d : Demanded new old list payload bytes room again) where
  abbrev rs : List Record
  rs = records_of list

  abbrev s : List ℕ
  s = spec.written payload rs

  goes : (space : ℕ) → length s ≤ space → GoesOnward plainly old new payload rs (length room / stride) space s
  goes space h =
      let g = d.given in
      demand_three plainly old new payload rs (length room / stride) space
      (record { older = g.older; old_valid = g.old_valid; new_valid = g.new_valid; list_valid = g.list_valid; small = g.small; room_lent = g.room_lent; space_lent = h })

  pub demand_3 : {t : Trip} {bytes' room' again' : List ℕ} → Copied new old list payload bytes room again t bytes' room' again'
      → Unharmed old list payload t bytes' room' again'
  unfolding sent reading
  demand_3 {t} {bytes'} {room'} {again'} c =
      let p = c.passed in
      let g = goes (length again) d.room_again in
      let w : writes new list payload bytes ≡ spec.Wrote s = (goes (length bytes) d.given.space_lent).writes in
      let went : sent (writes new list payload bytes) ≡ s = ap sent w in
      let answer = onward_answer g in
      let q : reads old (sent (writes new list payload bytes)) room ≡ reads old s room = ap (λ (x : List ℕ). reads old x room) went in
      let v : rewrites old (sent (writes new list payload bytes)) room again ≡ spec.Wrote s =
      ap (λ (x : List ℕ). rewrites old x room again) went ∙ ap (spec.writing old (length again) s) answer.2 ∙ g.again in
      let sends : message t bytes' ≡ s = told_front w t.wrote c.wrote_is bytes c.bytes_hold in
      let lists : records_of (take (stride * read_count t.read) room') ≡ g.list =
      room_records old (sent (writes new list payload bytes)) room p.count_is p.room_holds (stride * read_count t.read) refl ∙ ap listed q ∙ answer.2 in
      record {
        writes_well = told_well w t.wrote c.wrote_is;
        reads_well = p.number_is ∙ ap number q ∙ answer.0;
        rewrites_well = told_well v t.again p.rewrote_is;
        bytes_of_list = sends;
        shows = ap₂ (λ (x : List ℕ) (y : List Record). map (seen x) y) sends lists ∙ g.shows;
        same_bytes = told_front v t.again p.rewrote_is again p.again_holds ∙ sym sends;
      }
