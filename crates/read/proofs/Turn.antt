-- The iterations of a reader's loop, in plain values. `Further` says where a loop is: what was to be emitted is what the rest emits from here. Here
-- is how each end and each iteration follows from that. Assumes nothing.
use Prim.Native.Nat.{ℕ, ◌+◌, ◌-◌, ◌^◌, ◌≤◌, ◌<◌, min}
use native.Mathlib.Omega.{arith}
use native.Mathlib.Nat.{add-zero}
use mathlib.Core.Path.{◌≡◌, refl, sym, ap, ◌∙◌, subst}
use mathlib.Core.Bool.{true, false, false≢true}
use mathlib.Core.List.{List, [], ◌∷◌}
use lib.ListN.{length, drop, length-drop, drop_of_length-le}
use lib.Seq.{drop-drop}
use borrow.Author.Tests.{lt-ltb}
use Rattle.spec.specs.Names.{no_room}
use Rattle.spec.specs.Base.{Read, Took, No, meaning, require}
use Rattle.spec.specs.Varint.{unzigzag}
use Rattle.spec.specs.Kind.{Scalar, int32, uint32, uint64, bool, sint32, sint64, fixed32, sfixed32, fixed64, Shape, one, other, shape, is_scalar, scalar}
use Rattle.spec.specs.Record.{Record, row, stride}
use Rattle.spec.specs.Reading.{Reading, Done, Refused, ◌then◌, element, elements, contents}
use Rattle.spec.proofs.Laws.{Takes, took, none, takes_scalar}
use Rattle.spec.proofs.ReadingLaws.{elements_cons}
use Rattle.spec.specs.Told.{number_of}
use Rattle.spec.specs.declared.refusals.Refusal.{Refusal}
use Rattle.wire.specs.declared.found.Found.{Found}
use Rattle.wire.specs.Answers.{as_read, value_at}
use Rattle.std.specs.Prelude.{Option, Some, Result, Err}
use Rattle.read.specs.Answers.{scalar_of, short, Shortly, is_short, meant_as, meant_by, is_int, is_fixed}
use Rattle.read.specs.Emit.{Left, going, stopped, placed, emit, Further}
use Rattle.read.specs.declared.scalar.ShortVarint.{ShortVarint}
use Rattle.read.proofs.EmitLaws.{emit_room, emit_full, placed_length}

-- ---- any loop

pub start : {most : ℕ} (todo : ℕ → Reading) (room : List ℕ) (at b : ℕ) → at ≤ most → b ≤ length room → Further most todo room at b room at b
start todo room at b h j = record { same = refl; on = omega arith; inside = h; fits = j; kept = refl }

module _ {most : ℕ} {todo : ℕ → Reading} {room₀ : List ℕ} {from b : ℕ} {room : List ℕ} {at to : ℕ} (h : Further most todo room₀ from b room at to) where
  -- a part of the work was done by another
  pub on_by : {room' : List ℕ} {at' to' : ℕ} → Further most todo room at to room' at' to' → Further most todo room₀ from b room' at' to'
  on_by g = record { same = h.same ∙ g.same; on = omega (arith, h.on, g.on); inside = g.inside; fits = g.fits; kept = g.kept ∙ h.kept }

  -- the ends: nothing is left to do, a refusal, a record that finds no room
  pub ends : todo at ≡ Done → going to room ≡ emit room₀ b (todo from)
  unfolding emit
  ends e = sym (h.same ∙ ap (emit room to) e)

  pub stops : {k p : ℕ} → todo at ≡ Refused k p → stopped k to p room ≡ emit room₀ b (todo from)
  unfolding emit
  stops e = sym (h.same ∙ ap (emit room to) e)

  pub full : {r : Record} {q : Reading} → todo at ≡ (r then q) → length room - to < stride → stopped no_room to r.tag room ≡ emit room₀ b (todo from)
  full {r} {q} e l = sym (h.same ∙ ap (emit room to) e ∙ emit_full room to r q (omega (arith, h.fits)))

  -- a record is stored
  pub stored : {r : Record} {at' : ℕ} {room' : List ℕ} {to' : ℕ} → todo at ≡ (r then todo at') → at ≤ at' → at' ≤ most → to + stride ≤ length room
      → room' ≡ placed room to r → to' ≡ to + stride → Further most todo room₀ from b room' at' to'
  stored {r} {at'} {room'} {to'} e on inside l is next =
      let long : length room' ≡ length room = ap length is ∙ placed_length room to r in
      record {
        same = h.same ∙ ap (emit room to) e ∙ emit_room room to r (todo at') l ∙ ap (λ (x : List ℕ). emit x (to + stride) (todo at')) (sym is) ∙ ap (λ (n : ℕ). emit room' n (todo at')) (sym next);
        on = omega (arith, h.on, on);
        inside = inside;
        fits = omega (arith, long, next, l);
        kept = long ∙ h.kept;
      }

-- A loop over the bytes s, which stand at `off`: f says what there is to do with bytes at a place.
pub record Here (f : ℕ → List ℕ → Reading) (s : List ℕ) (off : ℕ) (room₀ : List ℕ) (from b : ℕ) (room : List ℕ) (at to : ℕ) : Type 0 where
  pub further : Further (length s) (λ i. f (off + i) (drop i s)) room₀ from b room at to

pub here : (f : ℕ → List ℕ → Reading) (s : List ℕ) (off : ℕ) (room : List ℕ) (at b : ℕ) → at ≤ length s → b ≤ length room → Here f s off room at b room at b
here f s off room at b h j = record { further = start (λ i. f (off + i) (drop i s)) room at b h j }

pub here_by : {f : ℕ → List ℕ → Reading} {s : List ℕ} {off : ℕ} {room₀ : List ℕ} {from b : ℕ} {room : List ℕ} {at to : ℕ} {room' : List ℕ} {at' to' : ℕ}
    → Here f s off room₀ from b room at to → Further (length s) (λ i. f (off + i) (drop i s)) room at to room' at' to' → Here f s off room₀ from b room' at' to'
here_by h g = record { further = on_by h.further g }

-- ---- the elements of a packed field

pub took_in : {least most : ℕ} {r : Read} {v n : ℕ} → Takes least most r → r ≡ Took v n → (least ≤ n) × (n ≤ most)
took_in {n = n} (took {n = k} h j) e = let same : k ≡ n = cc in (omega arith, omega arith)
took_in none e = let z : ◌≡◌ {A = ℕ} 0 1 = cc in absurd (omega arith)

pub takes_of : (x : Shape) (s : List ℕ) → Takes 1 (length s) (scalar_of x s)
unfolding scalar_of
takes_of (one c) s = takes_scalar c s
takes_of (other x) s = none

module _ (d m kind t : ℕ) where
  contents_none : (x : Shape) (at : ℕ) → contents x d m kind t at [] ≡ Done
  unfolding contents elements
  contents_none (one c) at = refl
  contents_none (other x) at = refl

  contents_some : (x : Shape) (at : ℕ) (s : List ℕ) {v n : ℕ} → 0 < length s → scalar_of x s ≡ Took v n
      → contents x d m kind t at s ≡ (row d m kind v at (at + n) t then contents x d m kind t (at + n) (drop n s))
  unfolding contents scalar_of element
  contents_some (one c) at [] h e = absurd (omega arith)
  contents_some (one c) at (b ∷ s) h e = elements_cons c d m kind t at b s ∙ rw e
  contents_some (other x) at s h e = let z : ◌≡◌ {A = ℕ} 0 1 = cc in absurd (omega arith)

  contents_bad : (x : Shape) (at : ℕ) (s : List ℕ) {k : ℕ} → 0 < length s → is_scalar x ≡ true → scalar_of x s ≡ No k → contents x d m kind t at s ≡ Refused k t
  unfolding contents scalar_of element is_scalar
  contents_bad (one c) at [] h i e = absurd (omega arith)
  contents_bad (one c) at (b ∷ s) h i e = elements_cons c d m kind t at b s ∙ rw e
  contents_bad (other x) at s h i e = absurd (false≢true i)

-- the kinds of elements: an integer and a number of fixed size are one number, and what is neither has none
pub int_scalar : (x : Shape) → is_int x ≡ true → is_scalar x ≡ true
unfolding is_scalar meant_by
int_scalar (one c) h = refl
int_scalar (other x) h = absurd (false≢true h)

pub fixed_scalar : (x : Shape) → is_fixed x ≡ true → is_scalar x ≡ true
unfolding is_scalar
fixed_scalar (one c) h = refl
fixed_scalar (other x) h = absurd (false≢true h)

pub no_elements : (x : Shape) (d m kind t at : ℕ) (s : List ℕ) (room : List ℕ) (to : ℕ) → is_int x ≡ false → is_fixed x ≡ false → going to room ≡ emit room to (contents x d m kind t at s)
unfolding contents emit is_scalar
no_elements (one c) d m kind t at s room to i h = absurd (false≢true (sym (sym (rw i refl) ∙ h)))
no_elements (other x) d m kind t at s room to i h = refl

-- a short varint is the value that it means
short_one : (c : Scalar) (s : List ℕ) (v n w : ℕ) → Shortly s (short v n) → meant_as c v ≡ Some w → scalar c s ≡ Took w n
unfolding scalar meant_as meaning require
short_one int32 s v n w (is_short f l) e = let same : v ≡ w = cc in rw (f 6 1, lt-ltb v (2 ^ 31) (omega arith), same)
short_one uint32 s v n w (is_short f l) e = let same : v ≡ w = cc in rw (f 1 15, same)
short_one uint64 s v n w (is_short f l) e = let same : v ≡ w = cc in rw (f 6 1, same)
short_one bool s v n w (is_short f l) e = let same : min 1 v ≡ w = cc in rw (f 6 1, same)
short_one sint32 s v n w (is_short f l) e = let same : unzigzag v ≡ w = cc in rw (f 1 15, same)
short_one sint64 s v n w (is_short f l) e = let same : unzigzag v ≡ w = cc in rw (f 6 1, same)
short_one fixed32 s v n w h e = let z : ◌≡◌ {A = ℕ} 0 1 = cc in absurd (omega arith)
short_one sfixed32 s v n w h e = let z : ◌≡◌ {A = ℕ} 0 1 = cc in absurd (omega arith)
short_one fixed64 s v n w h e = let z : ◌≡◌ {A = ℕ} 0 1 = cc in absurd (omega arith)

pub short_scalar : (x : Shape) (s : List ℕ) {v n w : ℕ} → Shortly s (short v n) → meant_by x v ≡ Some w → scalar_of x s ≡ Took w n
unfolding scalar_of meant_by
short_scalar (one c) s {v} {n} {w} h e = short_one c s v n w h e
short_scalar (other x) s h e = let z : ◌≡◌ {A = ℕ} 0 1 = cc in absurd (omega arith)

-- The content p stands at `off`.
module _ (p : List ℕ) (off depth number kind tag : ℕ) where
  abbrev what : ℕ → List ℕ → Reading
  what = contents (shape kind) depth number kind tag

  abbrev content : ℕ → Reading
  content at = what (off + at) (drop at p)

  module _ {at : ℕ} (lt : at < length p) where
    -- an element that takes n bytes, and how many those may be
    element_size : {v n : ℕ} → scalar_of (shape kind) (drop at p) ≡ Took v n → (1 ≤ n) × (at + n ≤ length p)
    element_size {v} {n} e =
        let k = took_in (takes_of (shape kind) (drop at p)) e in
        (k.0, omega (arith, k.1, length-drop at p))

    element_here : {v n : ℕ} → scalar_of (shape kind) (drop at p) ≡ Took v n
        → content at ≡ (row depth number kind v (off + at) (off + (at + n)) tag then content (at + n))
    element_here {v} {n} e =
        let next : off + at + n ≡ off + (at + n) = omega arith in
        contents_some depth number kind tag (shape kind) (off + at) (drop at p) (omega (arith, length-drop at p)) e
        ∙ rw (next, drop-drop)

    element_bad : {k : ℕ} → is_scalar (shape kind) ≡ true → scalar_of (shape kind) (drop at p) ≡ No k → content at ≡ Refused k tag
    element_bad i e = contents_bad depth number kind tag (shape kind) (off + at) (drop at p) (omega (arith, length-drop at p)) i e

    -- the same of an element that was found with the place after it
    found_size : {r : Result Found Refusal} {v next : ℕ} → r ≡ value_at v next → as_read at r ≡ scalar_of (shape kind) (drop at p) → (at < next) × (next ≤ length p)
    found_size {r} {v} {next} is e =
        let k = element_size {v = v} {n = next - at} (sym e ∙ ap (as_read at) is) in
        (omega (arith, k.0), omega (arith, k.0, k.1))

    found_here : {r : Result Found Refusal} {v next : ℕ} → r ≡ value_at v next → as_read at r ≡ scalar_of (shape kind) (drop at p)
        → content at ≡ (row depth number kind v (off + at) (off + next) tag then content next)
    found_here {r} {v} {next} is e =
        let k = found_size is e in
        let behind : at + (next - at) ≡ next = omega (arith, k.0) in
        element_here {v = v} {n = next - at} (sym e ∙ ap (as_read at) is) ∙ rw behind

-- a loop over its elements
module _ (depth number kind tag : ℕ) {p : List ℕ} {off : ℕ} {room₀ : List ℕ} {from : ℕ} {room : List ℕ} {at to : ℕ}
    (h : Here (contents (shape kind) depth number kind tag) p off room₀ 0 from room at to) where
  abbrev all : Left
  all = emit room₀ from (contents (shape kind) depth number kind tag off p)

  from_first : {x : Left} → x ≡ emit room₀ from (contents (shape kind) depth number kind tag (off + 0) (drop 0 p)) → x ≡ all
  from_first e = e ∙ ap (λ (o : ℕ). emit room₀ from (contents (shape kind) depth number kind tag o p)) (add-zero off)

  pub elements_end : length p ≤ at → going to room ≡ all
  elements_end l =
      from_first (ends h.further (ap (contents (shape kind) depth number kind tag (off + at)) (drop_of_length-le p {i = at} l) ∙ contents_none depth number kind tag (shape kind) (off + at)))

  module _ (lt : at < length p) {r : Result Found Refusal} (e : as_read at r ≡ scalar_of (shape kind) (drop at p)) where
    pub element_refused : {k : Refusal} → is_scalar (shape kind) ≡ true → r ≡ Err k → stopped (number_of k) to tag room ≡ all
    element_refused i is = from_first (stops h.further (element_bad p off depth number kind tag lt i (sym e ∙ ap (as_read at) is)))

    pub element_full : {v next : ℕ} → r ≡ value_at v next → length room - to < stride → stopped no_room to tag room ≡ all
    element_full is l = from_first (full h.further (found_here p off depth number kind tag lt is e) l)

    pub element_within : {v next : ℕ} → r ≡ value_at v next → (at < next) × (next ≤ length p)
    element_within is = found_size p off depth number kind tag lt is e

    pub element_stored : {v next : ℕ} → r ≡ value_at v next → {room' : List ℕ} {to' : ℕ} → to + stride ≤ length room
        → room' ≡ placed room to (row depth number kind v (off + at) (off + next) tag) → to' ≡ to + stride
        → Here (contents (shape kind) depth number kind tag) p off room₀ 0 from room' next to'
    element_stored is l put next =
        let k = element_within is in
        record { further = stored h.further (found_here p off depth number kind tag lt is e) (omega (arith, k.0)) k.1 l put next }

-- a loop over short ones, each the value that its varint means
module _ (depth number kind tag : ℕ) {p : List ℕ} {off : ℕ} {room₀ : List ℕ} {from b : ℕ} {room : List ℕ} {at to : ℕ}
    (h : Here (contents (shape kind) depth number kind tag) p off room₀ from b room at to) (lt : at < length p)
    {r : Option ShortVarint} (e : Shortly (drop at p) r) {v n : ℕ} (is : r ≡ short v n) {m : Option ℕ} (means : m ≡ meant_by (shape kind) v) {w : ℕ} (that : m ≡ Some w) where
  this : scalar_of (shape kind) (drop at p) ≡ Took w n
  this = short_scalar (shape kind) (drop at p) (subst (Shortly (drop at p)) is e) (sym means ∙ that)

  pub short_within : (1 ≤ n) × (at + n ≤ length p)
  short_within = element_size p off depth number kind tag lt {v = w} {n = n} this

  pub short_stored : {start : ℕ} → start ≡ off + at → {room' : List ℕ} {to' : ℕ} → to + stride ≤ length room
      → room' ≡ placed room to (row depth number kind w start (start + n) tag) → to' ≡ to + stride
      → Here (contents (shape kind) depth number kind tag) p off room₀ from b room' (at + n) to'
  short_stored {start} here l put next =
      let end : off + (at + n) ≡ start + n = omega arith in
      record {
        further =
            stored h.further (element_here p off depth number kind tag lt {v = w} {n = n} this ∙ rw (sym here, end)) (omega arith) short_within.1 l put next;
      }
