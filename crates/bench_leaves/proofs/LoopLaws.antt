-- The iterations and the ends of the loops that bench/ counts.
-- Assumes nothing.
use Prim.Native.Nat.{ℕ, zero, suc, ◌+◌, ◌-◌, ◌^◌, ◌≤◌, ◌<◌}
use native.Mathlib.Numerals.{add-one}
use native.Mathlib.Omega.{arith}
use mathlib.Core.Bool.{Bool, true, false}
use mathlib.Core.Path.{◌≡◌, refl, sym, ap, ap₂, ◌∙◌}
use mathlib.Core.List.{List, [], ◌∷◌}
use lib.Bits.{bit_xor}
use lib.Dec.{leb}
use lib.ListN.{length, get_or, drop, drop_of_length-le}
use lib.Seq.{drop-cons, drop-drop}
use Rattle.spec.specs.Names.{ends_early}
use Rattle.std.specs.Prelude.{if◌then◌else◌, Option, Some, None, Result, Ok, Err}
use Rattle.spec.specs.Base.{Took, No}
use Rattle.spec.specs.Varint.{varint, varint64, encode}
use Rattle.wire.specs.Answers.{as_read, value_at, stored, Stored}
use Rattle.spec.specs.declared.refusals.Refusal.{Refusal}
use Rattle.wire.specs.declared.found.Found.{Found}
use Rattle.wire.proofs.FoundLaws.{Placed, varint_placed}
use Rattle.spec.specs.Kind.{uint64}
use Rattle.spec.specs.Pull as spec
use Rattle.spec.specs.Pull.{raw_tag, value, step_at}
use Rattle.spec.proofs.PullLaws.{raw_end, goes_forward, fewest, takes_fewest}
use Rattle.pull.specs.Told as pull
use Rattle.pull.specs.declared.step.Moved.{Moved}
use Rattle.pull.specs.declared.step.Refused.{Refused}
use Rattle.pull.specs.declared.step.Said.{Said}
use Rattle.pull.specs.declared.step.Said.TheVariants as said
use Rattle.bench_leaves.specs.Loops.{xor_on, xors, varints, puts, said_on, pulls, pulled}

-- The whole answer is what the rest adds to `acc` from here. `left` counts the iterations that may follow.
pub record Xored (s : List ℕ) (at acc : ℕ) : Type 0 where
  pub left : ℕ
  pub few : length s ≤ at + left
  pub inside : at ≤ length s
  pub same : varints s ≡ xors left acc (drop at s)

pub xored_start : (s : List ℕ) → Xored s 0 0
unfolding varints
xored_start s = record { left = length s; few = omega arith; inside = omega arith; same = refl }

-- a varint that is taken: one iteration
xors_turn : (k acc v n : ℕ) (s : List ℕ) → varint64 s ≡ Took v n → xors (suc k) acc s ≡ xors k (bit_xor acc v) (drop n s)
unfolding xors xor_on
xors_turn k acc v n s e = rw e refl

xors_refused : (k acc j : ℕ) (s : List ℕ) → varint64 s ≡ No j → xors k acc s ≡ acc
unfolding xors xor_on
xors_refused zero acc j s e = refl
xors_refused (suc k) acc j s e = rw e refl

pub xored_end : {s : List ℕ} {at acc : ℕ} → Xored s at acc → length s ≤ at → acc ≡ varints s
unfolding varint
xored_end {s} {acc = acc} x h = sym (x.same ∙ ap (xors x.left acc) (drop_of_length-le s h) ∙ xors_refused x.left acc ends_early [] refl)

module _ {s : List ℕ} {at acc : ℕ} {f : Result Found Refusal} (x : Xored s at acc) (e : as_read at f ≡ varint64 (drop at s)) where
  pub xored_refused : {j : Refusal} → f ≡ Err j → acc ≡ varints s
  xored_refused r = sym (x.same ∙ xors_refused x.left acc _ (drop at s) (sym e ∙ ap (as_read at) r))

  pub value_placed : {v next : ℕ} → f ≡ value_at v next → Placed (2 ^ 64) s at v next
  value_placed r = varint_placed 9 1 s at e r

  pub xored_turn : {v next : ℕ} → f ≡ value_at v next → Xored s next (bit_xor acc v)
  xored_turn {v} {next} r = go x.left x.few x.same
    where
      p : Placed (2 ^ 64) s at v next
      p = value_placed r

      go : (k : ℕ) → length s ≤ at + k → varints s ≡ xors k acc (drop at s) → Xored s next (bit_xor acc v)
      go zero h q = absurd (omega (arith, p.past, p.inside))
      go (suc k) h q =
          let on : drop (next - at) (drop at s) ≡ drop next s = drop-drop (next - at) at s ∙ ap (λ (n : ℕ). drop n s) {x = at + (next - at)} {y = next} (omega (arith, p.past)) in
          record {
            left = k;
            few = omega (arith, p.past);
            inside = p.inside;
            same = q ∙ xors_turn k acc v (next - at) (drop at s) (sym e ∙ ap (as_read at) r) ∙ ap (xors k (bit_xor acc v)) on;
          }

-- Likewise: what is to be stored in all is what the rest stores from here.
pub record Putting (vs room : List ℕ) (at i : ℕ) (out : List ℕ) : Type 0 where
  pub same : puts 0 vs room ≡ puts at (drop i vs) out

pub putting_start : {vs room : List ℕ} → Putting vs room 0 0 room
putting_start = record { same = refl }

-- how the loop goes on from an answer
abbrev onward : (vs : List ℕ) → Option ℕ → List ℕ → ℕ × List ℕ
onward vs (Some n) after = puts n vs after
onward vs None after = (0, after)

-- one value, whether it has room or not
puts_turn : {out after : List ℕ} {at : ℕ} {p : Option ℕ} (v : ℕ) (vs : List ℕ) → Stored out at (encode v) after p → puts at (v ∷ vs) out ≡ onward vs p after
unfolding puts
puts_turn {out} {after} {at} {p} v vs s = go (leb m (length out)) s.says s.leaves
  where
    m : ℕ
    m = at + length (encode v)

    go : (t : Bool) → p ≡ (if t then Some m else None) → after ≡ (if t then stored at (encode v) out else out)
        → (if t then puts m vs (stored at (encode v) out) else (0, out)) ≡ onward vs p after
    go true a b = sym (ap₂ (onward vs) a b)
    go false a b = sym (ap₂ (onward vs) a b)

-- What is returned, and left in the slice, is what `puts` says.
abbrev pub Puts : (vs room : List ℕ) (answer : ℕ) (after : List ℕ) → Type 0
Puts vs room answer after = (answer ≡ (puts 0 vs room).0) × (after ≡ (puts 0 vs room).1)

puts_is : (vs room : List ℕ) {answer : ℕ} {after : List ℕ} → puts 0 vs room ≡ (answer, after) → Puts vs room answer after
puts_is vs room e = (sym (ap (λ (p : ℕ × List ℕ). p.0) e), sym (ap (λ (p : ℕ × List ℕ). p.1) e))

pub putting_end : {vs room out : List ℕ} {at i : ℕ} → Putting vs room at i out → length vs ≤ i → Puts vs room at out
unfolding puts
putting_end {vs} {room} {out} {at} h l = puts_is vs room (h.same ∙ ap (λ (u : List ℕ). puts at u out) (drop_of_length-le vs l))

-- the iteration at value i
module _ {vs room out after : List ℕ} {at i : ℕ} {p : Option ℕ} (h : Putting vs room at i out) (l : i < length vs) (s : Stored out at (encode (get_or vs i 0)) after p) where
  turned : {q : Option ℕ} → p ≡ q → puts 0 vs room ≡ onward (drop (i + 1) vs) q after
  turned e =
      h.same ∙ ap (λ (u : List ℕ). puts at u out) (drop-cons vs i 0 l ∙ ap (λ (n : ℕ). get_or vs i 0 ∷ drop n vs) (sym (add-one i)))
      ∙ puts_turn (get_or vs i 0) (drop (i + 1) vs) s ∙ ap (λ (q : Option ℕ). onward (drop (i + 1) vs) q after) e

  pub putting_next : {n : ℕ} → p ≡ Some n → Putting vs room n (i + 1) after
  putting_next e = record { same = turned e }

  pub putting_none : p ≡ None → Puts vs room 0 after
  putting_none e = puts_is vs room (turned e)

-- ---- the pull loop

-- As for varints: the whole answer is what the steps from here add to `acc`.
pub record Pulled (s : List ℕ) (at acc : ℕ) : Type 0 where
  pub left : ℕ
  pub few : length s ≤ at + left
  pub inside : at ≤ length s
  pub same : pulled s ≡ pulls left acc at s

pub pulled_start : (s : List ℕ) → Pulled s 0 0
unfolding pulled
pulled_start s = record { left = length s; few = omega arith; inside = omega arith; same = refl }

pulls_end : (k acc at : ℕ) (s : List ℕ) → length s ≤ at → pulls k acc at s ≡ acc
unfolding pulls said_on
pulls_end zero acc at s h = refl
pulls_end (suc k) acc at s h = rw (raw_end s at 0 h) refl

pub pulled_end : {s : List ℕ} {at acc : ℕ} → Pulled s at acc → length s ≤ at → acc ≡ pulled s
pulled_end {s} {at} {acc} x h = sym (x.same ∙ pulls_end x.left acc at s h)

-- what a step said is no number
abbrev pub Other : Result Said Refused → Type 0
Other x = (v : ℕ) → x ≡ Ok (said.Number v) → ⊥

-- it was refused, or said something else
pub refused_other : {x : Result Said Refused} {r : Refused} → x ≡ Err r → Other x
refused_other e v q = let z : ◌≡◌ {A = ℕ} 0 1 = cc in absurd (omega arith)

pub said_other : {x : Result Said Refused} {y : Said} → x ≡ Ok y → ((v : ℕ) → y ≡ said.Number v → ⊥) → Other x
said_other e h v q = h v (cc)

other : (x : Result Said Refused) → Other x → (acc : ℕ) (f : ℕ → ℕ) → said_on acc (pull.said_told x) f ≡ acc
unfolding said_on
other (Ok (said.Number v)) h acc f = absurd (h v refl)
other (Ok (said.Content a z)) h acc f = refl
other (Ok said.End) h acc f = refl
other (Err r) h acc f = refl

module _ {s : List ℕ} {at acc : ℕ} (t : Moved) (x : Pulled s at acc) (e : pull.as_moved t ≡ step_at s at 0 raw_tag) where
  pub tag_other : Other t.said → acc ≡ pulled s
  unfolding pulls
  tag_other h = sym (x.same ∙ go x.left)
    where
      go : (k : ℕ) → pulls k acc at s ≡ acc
      go zero = refl
      go (suc k) = rw (← e) (other t.said h acc _)

  module _ {g : ℕ} (m : Moved) (f : pull.as_moved m ≡ step_at s t.at 0 (value uint64)) (tag : t.said ≡ Ok (said.Number g)) where
    -- an iteration up to its value
    turn_value : (k : ℕ) → pulls (suc k) acc at s ≡ said_on acc (pull.said_told m.said) (λ v. pulls k (bit_xor acc v) m.at s)
    unfolding pulls said_on
    turn_value k = rw (← e, tag, ← f) refl

    pub value_other : Other m.said → acc ≡ pulled s
    unfolding pulls
    value_other h = sym (x.same ∙ go x.left)
      where
        go : (k : ℕ) → pulls k acc at s ≡ acc
        go zero = refl
        go (suc k) = turn_value k ∙ other m.said h acc _

    -- a field takes a byte or more, and lies in the bytes
    pub field_placed : {v : ℕ} → m.said ≡ Ok (said.Number v) → (at < m.at) × (m.at ≤ length s)
    unfolding fewest
    field_placed {v} q =
        let a = goes_forward s at 0 raw_tag x.inside in
        let there : t.at ≡ (step_at s at 0 raw_tag).at = ap (λ (n : spec.Moved). n.at) e in
        let b = goes_forward s t.at 0 (value uint64) (omega (arith, a, there)) in
        let here : m.at ≡ (step_at s t.at 0 (value uint64)).at = ap (λ (n : spec.Moved). n.at) f in
        let says : (step_at s t.at 0 (value uint64)).said ≡ spec.Number v = ap (λ (n : spec.Moved). n.said) (sym f) ∙ ap pull.said_told q in
        let c = takes_fewest s t.at 0 (value uint64) (λ k p r. let z : ◌≡◌ {A = ℕ} 0 1 = cc in absurd (omega arith)) in
        omega (arith, a, b, c, there, here)

    pub pulled_turn : {v : ℕ} → m.said ≡ Ok (said.Number v) → Pulled s m.at (bit_xor acc v)
    unfolding said_on
    pulled_turn {v} q = go x.left x.few x.same
      where
        p : (at < m.at) × (m.at ≤ length s)
        p = field_placed q

        go : (k : ℕ) → length s ≤ at + k → pulled s ≡ pulls k acc at s → Pulled s m.at (bit_xor acc v)
        go zero h r = absurd (omega (arith, p))
        go (suc k) h r = record { left = k; few = omega (arith, p); inside = p.1; same = r ∙ turn_value k ∙ rw q refl }
