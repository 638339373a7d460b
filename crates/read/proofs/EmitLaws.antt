-- Laws of storing: one reading after another, what a reader that was called leaves to its caller, and that a reading from the start of the room
-- leaves what the definition of the call says. Assumes nothing.
use Prim.Native.Nat.{ℕ, suc, ◌+◌, ◌*◌, ◌/◌, ◌≤◌, ◌<◌}
use native.Mathlib.Decide.{dec_lt}
use native.Mathlib.Omega.{arith}
use mathlib.Core.Path.{◌≡◌, refl, sym, ap, ap₂, ◌∙◌}
use mathlib.Core.Bool.{Bool, true, false}
use mathlib.Core.List.{List, [], ◌∷◌, ◌++◌, append_assoc}
use lib.ListN.{length, drop, set, length-set, length-append, length-drop}
use lib.Seq.{set-append_seam, drop-drop}
use lib.Dec.{leb}
use borrow.Author.Tests.{le-leb, lt-leb}
use Rattle.spec.specs.Names.{no_room}
use Rattle.std.specs.Prelude.{if◌then◌else◌}
use Rattle.spec.specs.Base.{filled}
use Rattle.spec.specs.Record.{Record, stride, numbers, stored}
use Rattle.spec.specs.Reading.{Reading, Done, Refused, ◌then◌, ◌followed_by◌, within, number, place, listed, room_after}
use Rattle.std.specs.Prelude.{Result, Ok, Err}
use Rattle.read.specs.Emit.{Left, going, stopped, left, stored_from, placed, emit}
use Rattle.read.specs.declared.room.Stop.{Stop}

-- ---- one reading after another

-- on with q, unless stopped
pub onward : Left → Reading → Left
onward (going b room) q = emit room b q
onward (stopped k b p room) q = stopped k b p room

onward_go : {a : Result ℕ Stop} {b : ℕ} (room : List ℕ) (q : Reading) → a ≡ Ok b → onward (left a room) q ≡ emit room b q
unfolding onward
onward_go room q e = rw e

onward_stop : {a : Result ℕ Stop} {x : Stop} (room : List ℕ) (q : Reading) → a ≡ Err x → onward (left a room) q ≡ left a room
unfolding onward
onward_stop room q e = rw e

choice_onward : (b : Bool) (x x' y : Left) (q : Reading) → x ≡ onward x' q → y ≡ onward y q → (if b then x else y) ≡ onward (if b then x' else y) q
choice_onward true x x' y q e f = e
choice_onward false x x' y q e f = f

pub emit_followed : (room : List ℕ) (b : ℕ) (p q : Reading) → emit room b (p followed_by q) ≡ onward (emit room b p) q
unfolding emit onward ◌followed_by◌
emit_followed room b Done q = refl
emit_followed room b (Refused k i) q = refl
emit_followed room b (r then p) q = choice_onward (leb (b + stride) (length room)) _ _ _ q (emit_followed (placed room b r) (b + stride) p q) refl

-- A reader of p was called, and its answer is a: it stopped, and that is all; or it is to go on with q.
module _ (room : List ℕ) (b : ℕ) (p q : Reading) (room' : List ℕ) {all : Left} {a : Result ℕ Stop} (is : all ≡ emit room b (p followed_by q)) (called : left a room' ≡ emit room b p) where
  pub call_stop : {x : Stop} → a ≡ Err x → left a room' ≡ all
  call_stop e = sym (is ∙ emit_followed room b p q ∙ ap (λ (x : Left). onward x q) (sym called) ∙ onward_stop room' q e)

  pub call_go : {c : ℕ} → a ≡ Ok c → all ≡ emit room' c q
  call_go e = is ∙ emit_followed room b p q ∙ ap (λ (x : Left). onward x q) (sym called) ∙ onward_go room' q e

-- ---- one record

pub emit_room : (room : List ℕ) (b : ℕ) (r : Record) (q : Reading) → b + stride ≤ length room → emit room b (r then q) ≡ emit (placed room b r) (b + stride) q
unfolding emit
emit_room room b r q h = ap (λ (t : Bool). if t then emit (placed room b r) (b + stride) q else stopped no_room b r.tag room) (le-leb (b + stride) (length room) h)

pub emit_full : (room : List ℕ) (b : ℕ) (r : Record) (q : Reading) → length room < b + stride → emit room b (r then q) ≡ stopped no_room b r.tag room
unfolding emit
emit_full room b r q h = ap (λ (t : Bool). if t then emit (placed room b r) (b + stride) q else stopped no_room b r.tag room) (lt-leb (b + stride) (length room) h)

stored_length : (xs room : List ℕ) (b i : ℕ) → length (stored_from room b i xs) ≡ length room
unfolding stored_from
stored_length [] room b i = refl
stored_length (x ∷ xs) room b i = stored_length xs (set room (b + i) x) b (suc i) ∙ length-set room (b + i) x

pub placed_length : (room : List ℕ) (b : ℕ) (r : Record) → length (placed room b r) ≡ length room
placed_length room b r = stored_length (numbers r) room b 0

-- ---- the whole call

-- numbers stored after the front part `pre` of the room, and a record
stored_behind : (xs pre rest : List ℕ) (b i : ℕ) → b + i ≡ length pre → length xs ≤ length rest → stored_from (pre ++ rest) b i xs ≡ pre ++ (xs ++ drop (length xs) rest)
unfolding stored_from
stored_behind [] pre rest b i e h = refl
stored_behind (x ∷ xs) pre [] b i e h = absurd (omega arith)
stored_behind (x ∷ xs) pre (y ∷ rest) b i e h =
    ap (λ (k : ℕ). stored_from (set (pre ++ (y ∷ rest)) k x) b (suc i) xs) e
    ∙ ap (λ (l : List ℕ). stored_from l b (suc i) xs) (set-append_seam pre y rest x ∙ sym (append_assoc pre (x ∷ []) rest))
    ∙ stored_behind xs (pre ++ (x ∷ [])) rest b (suc i) (omega (arith, length-append pre (x ∷ []))) (omega arith)
    ∙ append_assoc pre (x ∷ []) (xs ++ drop (length xs) rest)

numbers_length : (r : Record) → length (numbers r) ≡ stride
unfolding numbers
numbers_length r = refl

placed_behind : (pre : List ℕ) (r : Record) (rest : List ℕ) → stride ≤ length rest → placed (pre ++ rest) (length pre) r ≡ pre ++ (numbers r ++ drop stride rest)
placed_behind pre r rest h =
    stored_behind (numbers r) pre rest (length pre) 0 (omega arith) (omega (arith, numbers_length r)) ∙ ap (λ (n : ℕ). pre ++ (numbers r ++ drop n rest)) (numbers_length r)

-- how a reading ends, with b numbers before its records, and the room that it leaves
pub ended : ℕ → Reading → List ℕ → Left
ended b Done room = going b room
ended b (Refused k p) room = stopped k b p room
ended b (r then q) room = ended (b + stride) q room

-- what a reading leaves, with the numbers `pre` in use and `rest` after them
abbrev leaves : List ℕ → List ℕ → Reading → Left
leaves pre rest q = ended (length pre) q (pre ++ room_after q rest)

-- a record that finds no room, and one that does
leaves_few : (pre rest : List ℕ) (r : Record) (q : Reading) → length rest < stride → emit (pre ++ rest) (length pre) (r then q) ≡ leaves pre rest (within (length rest / stride) (r then q))
unfolding ended within listed stored
leaves_few pre rest r q h =
    let none : length rest / stride ≡ 0 = omega arith in
    emit_full (pre ++ rest) (length pre) r q (omega (arith, length-append pre rest)) ∙ ap (λ (n : ℕ). leaves pre rest (within n (r then q))) (sym none)

-- the room after one record and others, in two parts and in one
filled_then : (one more rest : List ℕ) → length one ≡ stride → one ++ filled more (drop stride rest) ≡ filled (one ++ more) rest
filled_then one more rest h =
    let long : stride + length more ≡ length (one ++ more) = omega (arith, length-append one more) in
    sym (append_assoc one more (drop (length more) (drop stride rest)))
    ∙ ap (λ (x : List ℕ). (one ++ more) ++ x) (drop-drop (length more) stride rest ∙ ap (λ (n : ℕ). drop n rest) long)

leaves_more : (pre rest : List ℕ) (r : Record) (q : Reading) → stride ≤ length rest
    → emit ((pre ++ numbers r) ++ drop stride rest) (length (pre ++ numbers r)) q ≡ leaves (pre ++ numbers r) (drop stride rest) (within (length (drop stride rest) / stride) q)
    → emit (pre ++ rest) (length pre) (r then q) ≡ leaves pre rest (within (length rest / stride) (r then q))
unfolding ended within listed stored
leaves_more pre rest r q h more =
    let behind : List ℕ = drop stride rest in
    let w : Reading = within (length behind / stride) q in
    let one_more : suc (length behind / stride) ≡ length rest / stride = omega (arith, length-drop stride rest) in
    let long : length (pre ++ numbers r) ≡ length pre + stride = omega (arith, length-append pre (numbers r), numbers_length r) in
    emit_room (pre ++ rest) (length pre) r q (omega (arith, length-append pre rest))
    ∙ ap (λ (x : List ℕ). emit x (length pre + stride) q) (placed_behind pre r rest h ∙ sym (append_assoc pre (numbers r) behind))
    ∙ ap (λ (n : ℕ). emit ((pre ++ numbers r) ++ behind) n q) (sym long)
    ∙ more
    ∙ ap₂ (λ (n : ℕ) (x : List ℕ). ended n w x) long (append_assoc pre (numbers r) (room_after w behind))
    ∙ ap (λ (x : List ℕ). ended (length pre + stride) w (pre ++ x)) (filled_then (numbers r) (stored (listed w)) rest (numbers_length r))
    ∙ ap (λ (n : ℕ). leaves pre rest (within n (r then q))) one_more

emit_behind : (q : Reading) (pre rest : List ℕ) → emit (pre ++ rest) (length pre) q ≡ leaves pre rest (within (length rest / stride) q)
unfolding emit ended within listed stored
emit_behind Done pre rest = refl
emit_behind (Refused k p) pre rest = refl
emit_behind (r then q) pre rest =
    let more = emit_behind q (pre ++ numbers r) (drop stride rest) in
    elim (dec_lt (length rest) stride) [
      | yes l ↦ leaves_few pre rest r q l
      | no l ↦ leaves_more pre rest r q (omega arith) more
    ]

-- from the start of the room: number, place and count of what fits, and the room with it
pub emit_all : (room : List ℕ) (q : Reading) → emit room 0 q ≡ ended 0 (within (length room / stride) q) (room_after (within (length room / stride) q) room)
emit_all room q = emit_behind q [] room

-- the parts of how it ended

pub ended_going : (b : ℕ) (q : Reading) {c : ℕ} {room room' : List ℕ} → going c room' ≡ ended b q room → (0 ≡ number q) × (0 ≡ place q) × (c ≡ b + stride * length (listed q)) × (room' ≡ room)
unfolding ended number place listed
ended_going b Done {c} e = let same : c ≡ b = cc in (refl, refl, omega arith, cc)
ended_going b (Refused k p) e = let z : ◌≡◌ {A = ℕ} 0 1 = cc in absurd (omega arith)
ended_going b (r then q) e = let h = ended_going (b + stride) q e in (h.0, h.1, omega (arith, h.2), h.3)

pub ended_stopped : (b : ℕ) (q : Reading) {k c p : ℕ} {room room' : List ℕ} → stopped k c p room' ≡ ended b q room → (k ≡ number q) × (p ≡ place q) × (c ≡ b + stride * length (listed q)) × (room' ≡ room)
unfolding ended number place listed
ended_stopped b Done e = let z : ◌≡◌ {A = ℕ} 0 1 = cc in absurd (omega arith)
ended_stopped b (Refused j i) {k} {c} {p} e = let same : c ≡ b = cc in ((cc), (cc), omega arith, cc)
ended_stopped b (r then q) e = let h = ended_stopped (b + stride) q e in (h.0, h.1, omega (arith, h.2), h.3)
