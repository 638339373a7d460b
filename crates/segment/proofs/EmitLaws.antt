-- Laws of storing ranges: one after the other, and that all of it, from the start of the room, leaves what the definition of the call says.
-- Assumes nothing.
use Prim.Native.Nat.{ℕ, suc, ◌+◌, ◌-◌, ◌*◌, ◌/◌, ◌%◌, ◌≤◌, ◌<◌}
use native.Mathlib.Omega.{arith}
use mathlib.Core.Path.{◌≡◌, refl, sym, ap, ap₂, ◌∙◌}
use mathlib.Core.Bool.{Bool, true, false}
use mathlib.Core.List.{List, [], ◌∷◌, ◌++◌, append_assoc}
use lib.ListN.{length, drop, set, length-set, length-append, length-drop, drop_of_length-le}
use lib.Seq.{set-append_seam, drop-drop}
use lib.Dec.{leb}
use borrow.Author.Tests.{le-leb, lt-leb}
use Rattle.spec.specs.Names.{ends_early}
use Rattle.std.specs.Prelude.{if◌then◌else◌, Result, Ok, Err}
use Rattle.spec.specs.Base.{Took, No}
use Rattle.spec.specs.Varint.{varint32}
use Rattle.spec.specs.Skip.{content, spanned}
use Rattle.spec.specs.Told.{number_of, read_number, read_count, read_place}
use Rattle.spec.specs.declared.answers.Stopped.{Stopped}
use Rattle.spec.specs.declared.refusals.Refusal.{Refusal}
use Rattle.spec.specs.declared.refusals.Refusal.TheVariants.{NoRoom}
use Rattle.wire.specs.Answers.{as_read, value_at}
use Rattle.wire.proofs.FoundLaws.{Placed, varint_placed}
use Rattle.segment.specs.Segment.{front_size, range_stride, Range, range, Ranges, Done, Refused, ◌then◌, split, within, number, place, listed, stored, room_after}
use Rattle.segment.specs.Emit.{left, emit, to_read, Further, Told}
use Rattle.segment.proofs.SegmentLaws.{split_nil, split_took, split_no}
use Rattle.segment.proofs.RangeLaws.{within_fits}

-- ---- the whole call

-- with the numbers `pre` in use and `rest` after them
emit_after : (q : Ranges) (pre rest : List ℕ) → range_stride * length (listed q) ≤ length rest
    → emit (pre ++ rest) (length pre) q ≡ left (number q) (place q) (length pre + range_stride * length (listed q)) (pre ++ room_after q rest)
unfolding emit number place listed stored
emit_after Done pre rest h = ap (λ (n : ℕ). left 0 0 n (pre ++ rest)) (omega arith)
emit_after (Refused k p) pre rest h = ap (λ (n : ℕ). left k p n (pre ++ rest)) (omega arith)
emit_after (r then q) pre [] h = absurd (omega arith)
emit_after (r then q) pre (x ∷ []) h = absurd (omega arith)
emit_after (r then q) pre (x ∷ y ∷ rest) h =
    let a : ℕ = r.start in
    let e : ℕ = r.stop in
    let one : List ℕ = pre ++ (a ∷ []) in
    let two : List ℕ = one ++ (e ∷ []) in
    let after_one : length one ≡ length pre + 1 = length-append pre (a ∷ []) in
    let after_two : length two ≡ length pre + range_stride = length-append one (e ∷ []) ∙ omega arith in
    let same : two ++ rest ≡ set (set (pre ++ (x ∷ y ∷ rest)) (length pre) a) (length pre + 1) e =
    append_assoc one (e ∷ []) rest ∙ sym (set-append_seam one y rest e) ∙ ap (λ (n : ℕ). set (one ++ (y ∷ rest)) n e) after_one
    ∙ ap (λ (l : List ℕ). set l (length pre + 1) e) (append_assoc pre (a ∷ []) (y ∷ rest) ∙ sym (set-append_seam pre x (y ∷ rest) a)) in
    ap₂ (λ (l : List ℕ) (n : ℕ). emit l n q) (sym same) (sym after_two)
    ∙ emit_after q two rest (omega arith)
    ∙ ap₂ (left (number q) (place q)) (omega arith)
    (append_assoc one (e ∷ []) (room_after q rest) ∙ append_assoc pre (a ∷ []) (e ∷ room_after q rest))

-- from the start of the room, which has room for whole ranges only, with what an answer tells of it
told : (s room : List ℕ) (answer : Result ℕ Stopped) {k p to : ℕ} {room' : List ℕ}
    → left k p to room' ≡ emit room 0 (to_read s (length room / range_stride * range_stride) front_size 0)
    → (read_number answer ≡ k) × (read_count answer ≡ to / range_stride) × (read_place answer ≡ p)
    → Told (within (length room / range_stride) (split front_size (drop front_size s))) room answer room'
told s room answer {k} {p} {to} {room'} e c =
    let q : Ranges = within (length room / range_stride) (split front_size (drop front_size s)) in
    let most : (length room / range_stride * range_stride - 0) / range_stride ≡ length room / range_stride = omega arith in
    let all : left k p to room' ≡ left (number q) (place q) (0 + range_stride * length (listed q)) (room_after q room) =
    e ∙ ap (λ (m : ℕ). emit room 0 (within m (split front_size (drop front_size s)))) most
    ∙ emit_after q [] room (omega (arith, within_fits (length room / range_stride) (split front_size (drop front_size s)))) in
    let number-of : k ≡ number q = cc in
    let place_of_lem : p ≡ place q = cc in
    let used : to ≡ 0 + range_stride * length (listed q) = cc in
    let room_of : room' ≡ room_after q room = cc in
    record { refusal = c.0 ∙ number-of; at = c.2 ∙ place_of_lem; count = omega (arith, c.1); leaves = room_of }

-- ---- one message, where its length was read

module _ (s : List ℕ) (at : ℕ) where
  -- its content is there
  pub message_there : (n next : ℕ) → as_read at (value_at n next) ≡ varint32 (drop at s) → n ≤ length s - next
      → split at (drop at s) ≡ (range next (next + n) at then split (next + n) (drop (next + n) s))
  unfolding content
  message_there n next p h =
      let i : Placed _ s at n next = varint_placed 4 15 s at p refl in
      let all : ℕ = length (drop at s) in
      let a : ℕ = next - at in
      let e : ℕ = next - at + n in
      let start : at + a ≡ next = omega (arith, i.past) in
      let stop : at + e ≡ next + n = omega (arith, i.past) in
      let long : leb e all ≡ true = le-leb e all (omega (arith, i.past, i.inside, length-drop at s)) in
      let is : content varint32 (drop at s) ≡ Took a e = ap (spanned all) (sym p) ∙ ap (λ (b : Bool). if b then Took a e else No ends_early) long in
      split_took at a e (drop at s) is (omega (arith, i.past, i.inside, length-drop at s))
      ∙ ap (λ (x : List ℕ). range (at + a) (at + e) at then split (at + e) x) (drop-drop e at s)
      ∙ ap₂ (λ (x y : ℕ). range x y at then split y (drop y s)) start stop

  -- it runs past the end
  pub message_short : (n next : ℕ) → as_read at (value_at n next) ≡ varint32 (drop at s) → length s - next < n → split at (drop at s) ≡ Refused ends_early at
  unfolding content
  message_short n next p h =
      let i : Placed _ s at n next = varint_placed 4 15 s at p refl in
      let all : ℕ = length (drop at s) in
      let a : ℕ = next - at in
      let e : ℕ = next - at + n in
      let long : leb e all ≡ false = lt-leb e all (omega (arith, i.past, i.inside, length-drop at s)) in
      split_no at ends_early (drop at s) (ap (spanned all) (sym p) ∙ ap (λ (b : Bool). if b then Took a e else No ends_early) long)
      (omega (arith, i.past, i.inside, length-drop at s))

  -- the length is refused
  pub message_bad : (r : Refusal) → as_read at (Err r) ≡ varint32 (drop at s) → at < length s → split at (drop at s) ≡ Refused (number_of r) at
  unfolding content
  message_bad r p h = split_no at (number_of r) (drop at s) (ap (spanned (length (drop at s))) (sym p)) (omega (arith, length-drop at s))

  -- there is none
  pub message_none : length s ≤ at → split at (drop at s) ≡ Done
  message_none h = ap (split at) (drop_of_length-le s h) ∙ split_nil at

-- ---- a loop

module _ {s : List ℕ} {most : ℕ} {room₀ : List ℕ} {from used : ℕ} {room : List ℕ} {at to : ℕ} (h : Further s most room₀ from used room at to) where
  -- a part of the work was done by another
  pub on_by : {room' : List ℕ} {at' to' : ℕ} → Further s most room at to room' at' to' → Further s most room₀ from used room' at' to'
  on_by g =
      record { same = h.same ∙ g.same; on = omega (arith, h.on, g.on); inside = g.inside; fits = g.fits; even = g.even; kept = g.kept ∙ h.kept }

  -- a range is stored
  pub stores : {r : Range} {at' : ℕ} → split at (drop at s) ≡ (r then split at' (drop at' s)) → at ≤ at' → at' ≤ length s → to < most → most % range_stride ≡ 0
      → Further s most room₀ from used (set (set room to r.start) (to + 1) r.stop) at' (to + range_stride)
  unfolding emit within
  stores {r} {at'} e on inside l even =
      let one_more : (most - to) / range_stride ≡ suc ((most - (to + range_stride)) / range_stride) = omega (arith, h.even) in
      record {
        same = h.same ∙ ap₂ (λ (n : ℕ) (x : Ranges). emit room to (within n x)) one_more e;
        on = omega (arith, h.on);
        inside = inside;
        fits = omega (arith, h.even);
        even = omega (arith, h.even);
        kept = length-set (set room to r.start) (to + 1) r.stop ∙ length-set room to r.start ∙ h.kept;
      }

-- the ends of the whole call: nothing is left to read, a refusal, a message that finds no room
module _ {s room₀ room : List ℕ} {at to : ℕ} (h : Further s (length room₀ / range_stride * range_stride) room₀ front_size 0 room at to) where
  pub ends : split at (drop at s) ≡ Done → Told (within (length room₀ / range_stride) (split front_size (drop front_size s))) room₀ (Ok (to / range_stride)) room
  unfolding emit within
  ends e =
      told s room₀ (Ok (to / range_stride))
      (sym (h.same ∙ ap (λ (q : Ranges). emit room to (within ((length room₀ / range_stride * range_stride - to) / range_stride) q)) e)) (refl, refl, refl)

  pub stops : {r : Refusal} {p : ℕ} {u : Stopped} → split at (drop at s) ≡ Refused (number_of r) p → u ≡ record { refusal = r; count = to / range_stride; place = p }
      → Told (within (length room₀ / range_stride) (split front_size (drop front_size s))) room₀ (Err u) room
  unfolding emit within
  stops {r} {p} e is =
      rw is
      (told s room₀ (Err (record { refusal = r; count = to / range_stride; place = p }))
      (sym (h.same ∙ ap (λ (q : Ranges). emit room to (within ((length room₀ / range_stride * range_stride - to) / range_stride) q)) e)) (refl, refl, refl))

  pub full : {r : Range} {q : Ranges} {u : Stopped} → split at (drop at s) ≡ (r then q) → length room₀ / range_stride * range_stride ≤ to
      → u ≡ record { refusal = NoRoom; count = to / range_stride; place = r.place }
      → Told (within (length room₀ / range_stride) (split front_size (drop front_size s))) room₀ (Err u) room
  unfolding emit within
  full {r} e l is =
      let none : (length room₀ / range_stride * range_stride - to) / range_stride ≡ 0 = omega arith in
      rw is
      (told s room₀ (Err (record { refusal = NoRoom; count = to / range_stride; place = r.place }))
      (sym (h.same ∙ ap₂ (λ (n : ℕ) (x : Ranges). emit room to (within n x)) none e)) (refl, refl, refl))
