-- The iterations of the loop over a message's fields, in plain values, and what the records of one field are. Assumes nothing.
use Prim.Native.Nat.{ℕ, suc, ◌+◌, ◌-◌, ◌/◌, ◌%◌, ◌≤◌, ◌<◌}
use native.Mathlib.Omega.{arith}
use native.Mathlib.Nat.{add-zero}
use mathlib.Core.Path.{◌≡◌, refl, sym, ap, ap₂, ◌∙◌, subst}
use mathlib.Core.Bool.{true, false}
use mathlib.Core.List.{List, [], ◌∷◌}
use lib.ListN.{length, get_or, drop, length-drop, drop_of_length-le}
use lib.Seq.{drop-drop, drop-cons}
use lib.Dec.{leb, eqb}
use borrow.Author.Tests.{le-leb, lt-ltb, eq-eqb, ne_eqb, eqb-true, eqb-false, leb-true}
use Rattle.spec.specs.Names.{dropped_span, message_kind, packed_head, varint_wire, no_room}
use Rattle.spec.specs.Base.{part, Read, Took, No, require}
use Rattle.spec.specs.Varint.{varint, tag}
use Rattle.spec.specs.Kind.{Shape, one, other, shape}
use Rattle.spec.specs.Schema.{Says}
use Rattle.spec.specs.Skip.{outer_group}
use Rattle.spec.specs.Record.{Record, row, stride}
use Rattle.spec.specs.Reading as spec
use Rattle.spec.specs.declared.Mode.{Mode}
use Rattle.spec.specs.Reading.{Look, Reading, Done, Refused, ◌then◌, ◌followed_by◌, contents, span, records, read, used}
use Rattle.spec.proofs.Laws.{chosen, by_test}
use Rattle.spec.proofs.FieldLaws.{span_none, span_asked}
use Rattle.spec.proofs.ReadingLaws.{Sound, is_fault, read_nil, read_cons, field_sound}
use Rattle.spec.specs.Told.{number_of}
use Rattle.spec.specs.declared.refusals.Refusal.{Refusal}
use Rattle.skip.specs.Passed as skip
use Rattle.skip.proofs.SkipAnswers.{takes_outer}
use Rattle.std.specs.Prelude.{Option, Some, Result, Ok, Err}
use Rattle.read.specs.Answers.{numbered, scalar_of, short, Shortly, meant_by, Tells, tells, tells_not, asked, refused_in, row_field, skipped_row, resolved, Held}
use Rattle.read.specs.Emit.{Left, going, stopped, left, placed, emit}
use Rattle.read.specs.declared.room.Stop.{Stop}
use Rattle.read.specs.declared.scalar.ShortVarint.{ShortVarint}
use Rattle.read.specs.declared.classify.Row.{Row}
use Rattle.read.specs.declared.classify.Field.{Field}
use Rattle.read.specs.declared.classify.Field.TheVariants as field
use Rattle.read.proofs.AskedLaws.{asked_held, asked_group}
use Rattle.read.proofs.EmitLaws.{call_stop, call_go, emit_room, emit_full, placed_length}
use Rattle.read.proofs.Turn.{Here, ends, stops, stored, took_in, takes_of, short_scalar}

-- ---- what a reader that goes on leaves fits

data Fits : Left → Type 0 where
  fits_go : {n : ℕ} {room : List ℕ} → n ≤ length room → Fits (going n room)
  fits_stop : {k n p : ℕ} {room : List ℕ} → Fits (stopped k n p room)

emit_fits : (q : Reading) (room : List ℕ) (b : ℕ) → b ≤ length room → Fits (emit room b q)
unfolding emit
emit_fits Done room b h = fits_go h
emit_fits (Refused k p) room b h = fits_stop
emit_fits (r then q) room b h =
    chosen Fits (leb (b + stride) (length room))
    (λ e. emit_fits q (placed room b r) (b + stride) (omega (arith, leb-true (b + stride) (length room) e, placed_length room b r)))
    (λ e. fits_stop)

goes_on : {n : ℕ} {room : List ℕ} → Fits (going n room) → n ≤ length room
goes_on (fits_go h) = h

-- ---- the records of a field that is asked for

part_at : (at a e : ℕ) (s : List ℕ) → at ≤ a → part (a - at) (e - at) (drop at s) ≡ part a e s
part_at at a e s h =
    let x : e - at - (a - at) ≡ e - a = omega arith in
    let y : at + (a - at) ≡ a = omega arith in
    rw (x, drop-drop, y)

module _ (mode : Mode) (inner : ℕ → ℕ → List ℕ → Reading) {depth at most : ℕ} {f : Row} (h : Held depth at most f) (off : ℕ) (s : List ℕ) where
  abbrev recs : Reading
  recs = records mode inner depth (off + at) (drop at s) (row_field at f)

  abbrev this : Record
  this = row depth f.number f.kind f.value (off + f.start) (off + f.end) (off + at)

  from_start : off + at + (f.start - at) ≡ off + f.start
  from_start = omega (arith, h.behind)

  to_end : off + at + (f.end - at) ≡ off + f.end
  to_end = omega (arith, h.behind, h.ordered)

  content_part : part (f.start - at) (f.end - at) (drop at s) ≡ part f.start f.end s
  content_part = part_at at f.start f.end s (omega (arith, h.behind))

  pub row_message : f.kind ≡ message_kind → recs ≡ (this then inner f.inner (off + f.start) (part f.start f.end s))
  unfolding records
  row_message k = rw (h.message_zero k, k, from_start, to_end, content_part)

  pub row_packed : f.kind ≡ packed_head → (f.start ≡ f.end → ⊥) → recs ≡ (this then contents (shape f.inner) (depth + 1) f.number f.inner (off + at) (off + f.start) (part f.start f.end s))
  unfolding records
  row_packed k some =
      let differ : eqb (f.start - at) (f.end - at) ≡ false = ne_eqb (f.start - at) (f.end - at) (λ e. some (omega (arith, h.behind, h.ordered, e))) in
      rw (h.packed_zero k, k, differ, from_start, to_end, content_part)

  row_empty : f.kind ≡ packed_head → f.start ≡ f.end → recs ≡ span mode depth f.number (off + at) (off + f.end - (off + at))
  unfolding records
  row_empty k same =
      let alike : eqb (f.start - at) (f.end - at) ≡ true = eq-eqb (f.start - at) (f.end - at) (omega (arith, same)) in
      let long : f.end - at ≡ off + f.end - (off + at) = omega arith in
      rw (k, alike, long)

  pub row_dropped : f.kind ≡ packed_head → f.start ≡ f.end → (room : List ℕ) (to : ℕ) {x : Left}
      → x ≡ emit room to (span mode depth f.number (off + at) (off + f.end - (off + at))) → x ≡ emit room to recs
  row_dropped k same room to e = e ∙ sym (ap (emit room to) (row_empty k same))

  pub row_value : (f.kind ≡ message_kind → ⊥) → (f.kind ≡ packed_head → ⊥) → recs ≡ (this then Done)
  unfolding records
  row_value j k = rw (ne_eqb f.kind message_kind j, ne_eqb f.kind packed_head k, from_start, to_end)

  -- the same, whatever is below it
  row_first : (f.kind ≡ packed_head → f.start ≡ f.end → ⊥) → (q : Reading) × (recs ≡ (this then q))
  row_first some =
      by_test (eqb f.kind message_kind)
      (λ e. (_, row_message (eqb-true f.kind message_kind e)))
      (λ e. by_test (eqb f.kind packed_head)
      (λ k. (_, row_packed (eqb-true f.kind packed_head k) (some (eqb-true f.kind packed_head k))))
      (λ k. (Done, row_value (eqb-false f.kind message_kind e) (eqb-false f.kind packed_head k))))

  pub row_full : (f.kind ≡ packed_head → f.start ≡ f.end → ⊥) → (room : List ℕ) (to : ℕ) → to ≤ length room → length room - to < stride → stopped no_room to (off + at) room ≡ emit room to recs
  row_full some room to i l = let x = row_first some in sym (ap (emit room to) x.1 ∙ emit_full room to this x.0 (omega arith))

-- a record is stored, and then what is below it
pub put_then : (room : List ℕ) (to : ℕ) {room' : List ℕ} {to' : ℕ} {r : Record} {all q : Reading} {out : Left} → all ≡ (r then q) → to + stride ≤ length room
    → room' ≡ placed room to r → to' ≡ to + stride → out ≡ emit room' to' q → out ≡ emit room to all
put_then room to {room'} {to'} {r} {all} {q} e l is next o =
    o ∙ ap₂ (λ (x : List ℕ) (n : ℕ). emit x n q) is next ∙ sym (ap (emit room to) e ∙ emit_room room to r q l)

pub put_only : (room : List ℕ) (to : ℕ) {room' : List ℕ} {to' : ℕ} {r : Record} {all : Reading} → all ≡ (r then Done) → to + stride ≤ length room
    → room' ≡ placed room to r → to' ≡ to + stride → going to' room' ≡ emit room to all
unfolding emit
put_only room to e l is next = put_then room to e l is next refl

-- ---- what is dropped: no record, or one with its span

module _ (mode : Mode) (depth m tag end : ℕ) (room : List ℕ) (to : ℕ) where
  abbrev dropping : Reading
  dropping = span mode depth m tag (end - tag)

  pub span_passed : mode.dropped ≡ false → going to room ≡ emit room to dropping
  unfolding emit
  span_passed h = sym (ap (emit room to) (span_none mode depth m tag (end - tag) h))

  module _ (h : mode.dropped ≡ true) where
    pub span_full : to ≤ length room → length room - to < stride → stopped no_room to tag room ≡ emit room to dropping
    span_full i l = sym (ap (emit room to) (span_asked mode depth m tag (end - tag) h) ∙ emit_full room to _ Done (omega arith))

    pub span_stored : tag ≤ end → to + stride ≤ length room → {room' : List ℕ} {to' : ℕ} → room' ≡ placed room to (row depth m dropped_span 0 tag end tag) → to' ≡ to + stride
        → going to' room' ≡ emit room to dropping
    span_stored i l is next =
        let there : tag + (end - tag) ≡ end = omega arith in
        put_only room to (span_asked mode depth m tag (end - tag) h ∙ rw there) l is next

-- the same place of a loop, said otherwise
pub moved : {f : ℕ → List ℕ → Reading} {s : List ℕ} {off : ℕ} {room₀ : List ℕ} {from b : ℕ} {room : List ℕ} {at to : ℕ} {room' : List ℕ} {at' to' : ℕ}
    → Here f s off room₀ from b room at to → room' ≡ room → at' ≡ at → to' ≡ to → Here f s off room₀ from b room' at' to'
moved h e₁ e₂ e₃ = rw (e₁, e₂, e₃) h

-- the place of a fault lies in the bytes
fault_bound : {most k p : ℕ} → Sound most (spec.Fault k p) → p ≤ most
fault_bound (is_fault h) = h

-- ---- the first field

module _ (look : Look) (depth ty : ℕ) where
  first : (l : List ℕ) (a : ℕ) (x : spec.Field) → 0 < length l → x ≡ spec.field look depth ty l
      → read look depth ty a l ≡ (records look.mode (read look (depth + 1)) depth a l x followed_by read look depth ty (a + used x) (drop (used x) l))
  first [] a x h e = absurd (omega arith)
  first (b ∷ l) a x h e = read_cons look depth ty a b l ∙ rw e

  module _ (s : List ℕ) (off at : ℕ) (lt : at < length s) where
    abbrev todo : ℕ → Reading
    todo i = read look depth ty (off + i) (drop i s)

    abbrev stands : spec.Field → Type 0
    stands x = x ≡ spec.field look depth ty (drop at s)

    turned : (x : spec.Field) → stands x → todo at ≡ (records look.mode (read look (depth + 1)) depth (off + at) (drop at s) x followed_by todo (at + used x))
    turned x e =
        let next : off + at + used x ≡ off + (at + used x) = omega arith in
        first (drop at s) (off + at) x (omega (arith, length-drop at s)) e ∙ rw (drop-drop, next)

    value : (m k v a e : ℕ) → stands (spec.Value m k v a e) → todo at ≡ (row depth m k v (off + at + a) (off + at + e) (off + at) then todo (at + e))
    unfolding records used ◌followed_by◌
    value m k v a e is = turned (spec.Value m k v a e) is

    fault : (k p : ℕ) → stands (spec.Fault k p) → todo at ≡ Refused k (off + at + p)
    unfolding records used ◌followed_by◌
    fault k p is = turned (spec.Fault k p) is

-- The field at a place gives the records of a row, and ends where the row does.
pub record Given (look : Look) (depth ty : ℕ) (s : List ℕ) (off at : ℕ) (f : Row) : Type 0 where
  pub held : Held depth at (length s) f
  pub same : records look.mode (read look (depth + 1)) depth (off + at) (drop at s) (spec.field look depth ty (drop at s))
      ≡ records look.mode (read look (depth + 1)) depth (off + at) (drop at s) (row_field at f)
  pub ends : at + used (spec.field look depth ty (drop at s)) ≡ f.end

used_row : {depth at most : ℕ} {f : Row} → Held depth at most f → at + used (row_field at f) ≡ f.end
unfolding used
used_row {at = at} {f = f} held =
    by_test (eqb f.kind message_kind)
    (λ k. rw (eqb-true f.kind message_kind k) (omega (arith, held.behind, held.ordered)))
    (λ j. by_test (eqb f.kind packed_head)
    (λ k. rw (eqb-true f.kind packed_head k) (omega (arith, held.behind, held.ordered)))
    (λ k. rw (j, k) (omega (arith, held.behind, held.ordered))))

-- a group that was skipped: its row is that of an empty packed field
group_row : {look : Look} {depth ty : ℕ} {s : List ℕ} {off at m end : ℕ} → spec.field look depth ty (drop at s) ≡ spec.Dropped m (end - at) → at < end → end ≤ length s
    → Given look depth ty s off at (skipped_row m end)
unfolding records used
group_row {look} {depth} {ty} {s} {off} {at} {m} {end} same i j =
    let alike : eqb (end - at) (end - at) ≡ true = eq-eqb (end - at) (end - at) refl in
    record {
      held = record { behind = i; ordered = omega arith; inside = j; shallow = λ e. absurd (omega arith); message_zero = λ e. refl; packed_zero = λ e. refl };
      same = rw (same, alike);
      ends = rw same (omega arith);
    }

-- ---- a loop over the fields

module _ (look : Look) (depth ty : ℕ) {s : List ℕ} {off : ℕ} {room₀ : List ℕ} {from : ℕ} {room : List ℕ} {at to : ℕ}
    (h : Here (read look depth ty) s off room₀ 0 from room at to) where
  abbrev all : Left
  all = emit room₀ from (read look depth ty off s)

  from_first : {x : Left} → x ≡ emit room₀ from (read look depth ty (off + 0) (drop 0 s)) → x ≡ all
  from_first e = e ∙ ap (λ (o : ℕ). emit room₀ from (read look depth ty o s)) (add-zero off)

  pub fields_end : length s ≤ at → going to room ≡ all
  fields_end l = from_first (ends h.further (ap (read look depth ty (off + at)) (drop_of_length-le s {i = at} l) ∙ read_nil look depth ty (off + at)))

  -- a field, whose records another stores
  module _ (lt : at < length s) {f : Row} (g : Given look depth ty s off at f) (room' : List ℕ) (a : Result ℕ Stop)
      (called : left a room' ≡ emit room to (records look.mode (read look (depth + 1)) depth (off + at) (drop at s) (row_field at f))) where
    there : emit room₀ from (read look depth ty (off + 0) (drop 0 s))
        ≡ emit room to (records look.mode (read look (depth + 1)) depth (off + at) (drop at s) (row_field at f) followed_by read look depth ty (off + f.end) (drop f.end s))
    there = h.further.same ∙ ap (emit room to) (turned look depth ty s off at lt _ refl ∙ rw (g.same, g.ends))

    pub row_stops : {x : Stop} → a ≡ Err x → left (Err x) room' ≡ all
    row_stops z = ap (λ (x : Result ℕ Stop). left x room') (sym z) ∙ from_first (call_stop room to _ _ room' there called z)

    pub row_goes : {n : ℕ} → a ≡ Ok n → length room' ≡ length room → Here (read look depth ty) s off room₀ 0 from room' f.end n
    row_goes {n} z l =
        record {
          further =
              record {
                same = call_go room to _ _ room' there called z;
                on = omega arith;
                inside = g.held.inside;
                fits = goes_on (subst Fits (sym called ∙ ap (λ (x : Result ℕ Stop). left x room') z) (emit_fits _ room to h.further.fits));
                kept = l ∙ h.further.kept;
              };
        }

  module _ (lt : at < length s) {r : Result Field Refusal} (e : resolved depth at s (numbered r) ≡ spec.field look depth ty (drop at s)) where
    is_field : {x : Result Field Refusal} → r ≡ x → resolved depth at s (numbered x) ≡ spec.field look depth ty (drop at s)
    is_field is = ap (λ (y : Result Field Refusal). resolved depth at s (numbered y)) (sym is) ∙ e

    -- a refusal, whose place lies in the slice
    module _ {x : Refusal} {p : ℕ} (is : r ≡ Err x) (there : p ≡ at + refused_in (number_of x) (drop at s)) where
      pub bad_within : p ≤ length s
      unfolding resolved
      bad_within = omega (arith, fault_bound (subst (Sound (length (drop at s))) (sym (is_field is)) (field_sound look depth ty (drop at s))), length-drop at s)

      pub field_bad : stopped (number_of x) to (off + p) room ≡ all
      unfolding resolved
      field_bad =
          let q : off + at + refused_in (number_of x) (drop at s) ≡ off + p = omega arith in
          from_first (stops h.further (fault look depth ty s off at lt (number_of x) (refused_in (number_of x) (drop at s)) (is_field is) ∙ rw q))

    -- a record, which another stores
    pub row_given : {f : Row} → r ≡ Ok (field.Of f) → numbered r ≡ asked look depth ty at s → Given look depth ty s off at f
    unfolding resolved
    row_given {f} is asks =
        let held = asked_held look depth ty at s f (sym asks ∙ ap numbered is) in
        let same : spec.field look depth ty (drop at s) ≡ row_field at f = sym (is_field is) in
        record {
          held = held;
          same = ap (records look.mode (read look (depth + 1)) depth (off + at) (drop at s)) same;
          ends = ap (λ (x : spec.Field). at + used x) same ∙ used_row held;
        }

    -- a group, which is skipped
    module _ {m next : ℕ} (is : r ≡ Ok (field.Group m next)) {q : Result ℕ Refusal} (skipped : skip.past next q ≡ outer_group depth (drop next s)) where
      pub group_bad : {x : Refusal} → q ≡ Err x → stopped (number_of x) to (off + at) room ≡ all
      unfolding resolved spec.given
      group_bad {x} z =
          let none-there : outer_group depth (drop next s) ≡ No (number_of x) = sym skipped ∙ ap (skip.past next) z in
          let at_once : off + at + 0 ≡ off + at = omega arith in
          from_first (stops h.further (fault look depth ty s off at lt (number_of x) 0 (ap (λ (x : Read). spec.given x (λ v l. spec.Dropped m (next - at + l))) (sym none-there) ∙ is_field is) ∙ rw at_once))

      pub group_given : numbered r ≡ asked look depth ty at s → {end : ℕ} → q ≡ Ok end → {f : Row} → f ≡ skipped_row m end → Given look depth ty s off at f
      unfolding resolved spec.given
      group_given asks {end} z {f} row =
          let took-group : outer_group depth (drop next s) ≡ Took 0 (end - next) = sym skipped ∙ ap (skip.past next) z in
          let in_it = asked_group look depth ty at s (sym asks ∙ ap numbered is) in
          let k = took_in (takes_outer depth (drop next s)) took-group in
          let long : next - at + (end - next) ≡ end - at = omega (arith, in_it.0, k.0) in
          let same : spec.field look depth ty (drop at s) ≡ spec.Dropped m (end - at) =
          sym (ap (λ (x : Read). spec.given x (λ v l. spec.Dropped m (next - at + l))) (sym took-group) ∙ is_field is) ∙ ap (spec.Dropped m) long in
          rw row (group_row same (omega (arith, in_it.0, k.0)) (omega (arith, k.0, k.1, length-drop next s)))

-- ---- a short integer after a tag of one byte

tag_one : (c : ℕ) (l : List ℕ) → 8 ≤ c → c < 128 → c % 8 ≡ varint_wire → tag (c ∷ l) ≡ Took c 1
unfolding tag varint require
tag_one c l h j z = rw (lt-ltb c 128 j, z, le-leb 1 (c / 8) (omega arith))

shaped_one : (mode : Mode) (x : Shape) (depth inner m kind n : ℕ) (l : List ℕ) {w z : ℕ} → scalar_of x l ≡ Took w z → spec.shaped mode x depth inner m kind n l ≡ spec.Value m kind w n (n + z)
unfolding spec.shaped scalar_of spec.given
shaped_one mode (one c) depth inner m kind n l e = rw e
shaped_one mode (other x) depth inner m kind n l e = let z : ◌≡◌ {A = ℕ} 0 1 = cc in absurd (omega arith)

told_kind : {say : ℕ → Says} {c : ℕ} {r : Option ℕ} (k : ℕ) → Tells say c r → r ≡ Some k → (8 ≤ c) × (c < 128) × (c % 8 ≡ varint_wire) × ((say c).kind ≡ k)
told_kind k (tells {kind} h j z e) is = let same : kind ≡ k = cc in (h, j, z, e ∙ same)
told_kind k tells_not is = let z : ◌≡◌ {A = ℕ} 0 1 = cc in absurd (omega arith)

module _ (look : Look) (depth ty : ℕ) {s : List ℕ} {off : ℕ} {room₀ : List ℕ} {from b : ℕ} {room : List ℕ} {at to : ℕ}
    (h : Here (read look depth ty) s off room₀ from b room at to) (lt : at + 1 < length s)
    {r : Option ℕ} (t : Tells (look.says ty) (get_or s at 0) r) {k : ℕ} (is-kind : r ≡ Some k)
    {a : Option ShortVarint} (e : Shortly (drop (at + 1) s) a) {v n : ℕ} (is : a ≡ short v n) {m : Option ℕ} (means : m ≡ meant_by (shape k) v) {w : ℕ} (that : m ≡ Some w) where
  abbrev c : ℕ
  c = get_or s at 0

  int_here : scalar_of (shape k) (drop (at + 1) s) ≡ Took w n
  int_here = short_scalar (shape k) (drop (at + 1) s) (subst (Shortly (drop (at + 1) s)) is e) (sym means ∙ that)

  pub int_within : (1 ≤ n) × (at + 1 + n ≤ length s) × (c < 128)
  int_within = let i = took_in (takes_of (shape k) (drop (at + 1) s)) int_here in (i.0, omega (arith, i.1, length-drop (at + 1) s), (told_kind k t is-kind).1)

  int_field : spec.Value (c / 8) k w 1 (1 + n) ≡ spec.field look depth ty (drop at s)
  unfolding spec.field spec.given
  int_field =
      let q = told_kind k t is-kind in
      let front : drop at s ≡ c ∷ drop (suc at) s = drop-cons s at 0 (omega arith) in
      let tagged : tag (drop at s) ≡ Took c 1 = ap tag front ∙ tag_one c (drop (suc at) s) q.0 q.1 q.2 in
      sym (rw (tagged, drop-drop, q.3) (shaped_one look.mode (shape k) depth (look.says ty c).inner (c / 8) k 1 (drop (at + 1) s) int_here))

  pub int_stored : {tag : ℕ} → tag ≡ off + at → {room' : List ℕ} {to' : ℕ} → to + stride ≤ length room
      → room' ≡ placed room to (row depth (c / 8) k w (tag + 1) (tag + (n + 1)) tag) → to' ≡ to + stride
      → Here (read look depth ty) s off room₀ from b room' (at + (n + 1)) to'
  int_stored {tag} here l put next =
      let size : 1 + n ≡ n + 1 = omega arith in
      record {
        further =
            stored h.further (value look depth ty s off at (omega arith) (c / 8) k w 1 (n + 1) (rw size at int_field) ∙ rw (sym here)) (omega arith) (omega (arith, int_within.1)) l
            put next;
      }
