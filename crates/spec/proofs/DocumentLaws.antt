-- The function decides the grammar: `is_document s` is true exactly when s is a `Document`.
-- Assumes nothing.
use Prim.Native.Nat.{ℕ, zero, suc, ◌+◌, ◌-◌, ◌/◌, ◌%◌, ◌≤◌, ◌<◌}
use native.Mathlib.Omega.{arith}
use mathlib.Core.Path.{◌≡◌, refl, sym, ap, ap₂, ◌∙◌, subst}
use mathlib.Core.Bool.{Bool, true, false, ◌&&◌, false≢true}
use mathlib.Core.List.{List, [], ◌∷◌, ◌++◌, append_assoc, append-nil}
use lib.ListN.{length, take, drop, length-drop, take-append-drop}
use lib.Seq.{drop-drop, drop-append_seam}
use lib.Dec.{leb, ltb, eqb}
use borrow.Author.Tests.{ltb-true, lt-ltb, eqb-true, eq-eqb, ne_eqb}
use Rattle.spec.specs.Names.{end_group_wire, most_levels, no_group_open, start_group_wire}
use Rattle.std.specs.Prelude.{if◌then◌else◌}
use Rattle.spec.specs.Base.{limit, Read, Took, No, longer, require}
use Rattle.spec.specs.Varint.{tag, varint}
use Rattle.spec.specs.Skip.{plain}
use Rattle.spec.specs.Document.{IsTag, IsValue, Run, empty, field, group, Document, Step, Go, Stop, passed, closed, step, go_on, is_nil, is_run, is_document}
use Rattle.spec.proofs.Laws.{Takes, took, none, takes_tag, takes_plain, takes_weaker}
use Rattle.spec.proofs.FrontLaws.{again_tag, again_plain, front, alone}

-- ---- enough steps are enough

data Goes (most : ℕ) : Step → Type 0 where
  goes : {o : List ℕ} {n : ℕ} → 1 ≤ n → n ≤ most → Goes most (Go o n)
  stops : Goes most Stop

either {κ} : {A : Type 0} (P : A → Type κ) (b : Bool) {x y : A} → P x → P y → P (if b then x else y)
either P true p q = p
either P false p q = q

goes_closed : (o : List ℕ) (m n most : ℕ) → 1 ≤ n → n ≤ most → Goes most (closed o m n)
unfolding closed
goes_closed [] m n most h j = stops
goes_closed (x ∷ o) m n most h j = either (Goes most) (eqb x m) (goes h j) stops

goes_passed : (o : List ℕ) {least most : ℕ} {r : Read} → 1 ≤ least → Takes least most r → Goes most (passed o r)
unfolding passed
goes_passed o l (took h j) = goes' (omega arith) j
  where
    goes' : {m : ℕ} {n : ℕ} → 1 ≤ n → n ≤ m → Goes m (Go o n)
    goes' h j = goes h j
goes_passed o l none = stops

takes_behind : (n : ℕ) {most : ℕ} {r : Read} → Takes 0 (most - n) r → n ≤ most → Takes n most (longer n r)
unfolding longer
takes_behind n (took {n = m} h j) l = took' (omega arith) (omega arith)
  where
    took' : {a b v k : ℕ} → a ≤ k → k ≤ b → Takes a b (Took v k)
    took' h j = took h j
takes_behind n none l = none

goes_step : (o s : List ℕ) {r : Read} → Takes 1 (length s) r → Goes (length s) (step o s r)
unfolding step
goes_step o s none = stops
goes_step o s (took {v = t} {n = n} h j) =
    let P : Step → Type 0 = Goes (length s) in
    either P (eqb (t % 8) start_group_wire) (either P (ltb (length o) most_levels) (goes h j) stops)
    (either P (eqb (t % 8) end_group_wire) (goes_closed o (t / 8) n (length s) h j)
    (goes_passed o h (takes_behind n (takes_weaker (omega arith) (omega (arith, length-drop n s)) (takes_plain (t % 8) (drop n s))) j)))

go_on_cong_lem : {most : ℕ} {x : Step} {p q : List ℕ → ℕ → Bool} → Goes most x → ((o : List ℕ) (n : ℕ) → 1 ≤ n → n ≤ most → p o n ≡ q o n) → go_on x p ≡ go_on x q
unfolding go_on
go_on_cong_lem (goes {o} {n} h j) e = e o n h j
go_on_cong_lem stops e = refl

is_run_enough_lem : (f g : ℕ) (o s : List ℕ) → length s ≤ f → length s ≤ g → is_run f o s ≡ is_run g o s
unfolding is_run
is_run_enough_lem zero zero o s hf hg = refl
is_run_enough_lem zero (suc g) o [] hf hg = refl
is_run_enough_lem (suc f) zero o [] hf hg = refl
is_run_enough_lem zero (suc g) o (b ∷ s) hf hg = absurd (omega arith)
is_run_enough_lem (suc f) zero o (b ∷ s) hf hg = absurd (omega arith)
is_run_enough_lem (suc f) (suc g) o [] hf hg = refl
is_run_enough_lem (suc f) (suc g) o (b ∷ s) hf hg =
    go_on_cong_lem (goes_step o (b ∷ s) (takes_tag (b ∷ s))) λ p n h j.
    is_run_enough_lem f g p (drop n (b ∷ s)) (omega (arith, length-drop n (b ∷ s))) (omega (arith, length-drop n (b ∷ s)))

-- the walk, with no count
abbrev pub walk : List ℕ → List ℕ → Bool
walk o s = is_run (length s) o s

pub walk_step : (o s : List ℕ) (t n : ℕ) → tag s ≡ Took t n → walk o s ≡ go_on (step o s (Took t n)) (λ p m. walk p (drop m s))
unfolding is_run tag require varint
walk_step o [] t n e = let z : ◌≡◌ {A = ℕ} 0 1 = cc in absurd (omega arith)
walk_step o (b ∷ s) t n e =
    go_on_cong_lem (goes_step o (b ∷ s) (takes_tag (b ∷ s))) (λ p m h j.
    is_run_enough_lem (length s) (length (drop m (b ∷ s))) p (drop m (b ∷ s)) (omega (arith, length-drop m (b ∷ s))) (omega arith))
    ∙ ap (λ (r : Read). go_on (step o (b ∷ s) r) (λ p m. walk p (drop m (b ∷ s)))) e

-- ---- what the walk accepts is a run

-- bytes that end the open groups, one after the other, and then run on; k groups may still be opened
data Rest : ℕ → List ℕ → List ℕ → Type 0 where
  here : {k : ℕ} {s : List ℕ} → Run k s → Rest k [] s
  up : {k x : ℕ} {o r e s : List ℕ} → Run k r → IsTag x end_group_wire e → Rest (suc k) o s → Rest k (x ∷ o) (r ++ (e ++ s))

rest_field : {k n w : ℕ} {o a v s : List ℕ} → IsTag n w a → IsValue w v → Rest k o s → Rest k o (a ++ (v ++ s))
rest_field t i (here r) = here (field t i r)
rest_field {k} {a = a} {v = v} t i (up {x = x} {o = o} {r = r} {e = e} {s = s} run f rest) =
    subst (Rest k (x ∷ o)) (append_assoc a (v ++ r) (e ++ s) ∙ ap (λ (y : List ℕ). a ++ y) (append_assoc v r (e ++ s)))
    (up (field t i run) f rest)

rest_group : {k n : ℕ} {o a s : List ℕ} → IsTag n start_group_wire a → Rest k (n ∷ o) s → Rest (suc k) o (a ++ s)
rest_group t (up run f (here r)) = here (group t run f r)
rest_group {k} {a = a} t (up {r = r} {e = e} run f (up {x = y} {o = o} {r = r'} {e = e'} {s = s} run' f' rest)) =
    subst (Rest (suc k) (y ∷ o))
    (append_assoc a (r ++ (e ++ r')) (e' ++ s)
    ∙ ap (λ (z : List ℕ). a ++ z) (append_assoc r (e ++ r') (e' ++ s) ∙ ap (λ (z : List ℕ). r ++ z) (append_assoc e r' (e' ++ s))))
    (up (group t run f run') f' rest)

rest_end : {k x : ℕ} {o e s : List ℕ} → IsTag x end_group_wire e → Rest (suc k) o s → Rest k (x ∷ o) (e ++ s)
rest_end f rest = up empty f rest

taken_tag : (s : List ℕ) (t n : ℕ) → tag s ≡ Took t n → (w : ℕ) → t % 8 ≡ w → IsTag (t / 8) w (take n s)
taken_tag s t n e w h = record {
  value = t;
  reads = alone tag again_tag (λ u. takes_weaker (omega arith) (omega arith) (takes_tag u)) s t n e;
  number_is = refl;
  wire_is = h;
}

taken_value : (w : ℕ) (s : List ℕ) (v n : ℕ) → plain w s ≡ Took v n → IsValue w (take n s)
taken_value w s v n e = record { value = v; reads = alone (plain w) (again_plain w) (takes_plain w) s v n e }

-- what is read off a choice that was made
when {κ μ} : {A : Type 0} (P : A → Type κ) (b : Bool) {x y : A} {Q : Type μ} → (b ≡ true → P x → Q) → (b ≡ false → P y → Q) → P (if b then x else y) → Q
when P true f g p = f refl p
when P false f g p = g refl p

rest_as : {k k' : ℕ} {o s s' : List ℕ} → k ≡ k' → s ≡ s' → Rest k o s → Rest k' o s'
rest_as {k} {k'} {o} {s} {s'} p q r = subst (λ (j : ℕ). Rest j o s') p (subst (Rest k o) q r)

nothing_left : (o : List ℕ) → is_nil o ≡ true → Rest (most_levels - length o) o []
nothing_left [] e = here empty
nothing_left (x ∷ o) e = absurd (false≢true e)

-- one step of the walk over s, where the rest of it is known to be sound
module _ (f : ℕ) (s : List ℕ) (enough : length s ≤ suc f)
    (ih : (p u : List ℕ) → length u ≤ f → length p ≤ most_levels → is_run f p u ≡ true → Rest (most_levels - length p) p u) where
  abbrev next : List ℕ → ℕ → Bool
  next p n = is_run f p (drop n s)

  sound_end : (o : List ℕ) (t n : ℕ) → 1 ≤ n → length o ≤ most_levels → tag s ≡ Took t n → t % 8 ≡ end_group_wire → go_on (closed o (t / 8) n) next ≡ true → Rest (most_levels - length o) o s
  unfolding go_on closed
  sound_end [] t n h l e w = λ k. absurd (false≢true k)
  sound_end (x ∷ o) t n h l e w =
      when (λ (y : Step). go_on y next ≡ true) (eqb x (t / 8))
      (λ c k.
      let same : t / 8 ≡ x = sym (eqb-true x (t / 8) c) in
      rest_as refl (take-append-drop n s)
      (rest_end (subst (λ (m : ℕ). IsTag m end_group_wire (take n s)) same (taken_tag s t n e end_group_wire w))
      (rest_as (omega arith) refl (ih o (drop n s) (omega (arith, length-drop n s)) (omega arith) k))))
      (λ c k. absurd (false≢true k))

  sound_value : (o : List ℕ) (t n : ℕ) → 1 ≤ n → length o ≤ most_levels → tag s ≡ Took t n → (r : Read) → plain (t % 8) (drop n s) ≡ r
      → go_on (passed o (longer n r)) next ≡ true → Rest (most_levels - length o) o s
  unfolding go_on passed longer
  sound_value o t n h l e (No j) p k = absurd (false≢true k)
  sound_value o t n h l e (Took v m) p k =
      rest_as refl
      (ap (λ (y : List ℕ). take n s ++ y) (ap (λ (y : List ℕ). take m (drop n s) ++ y) (sym (drop-drop m n s)) ∙ take-append-drop m (drop n s)) ∙ take-append-drop n s)
      (rest_field (taken_tag s t n e (t % 8) refl) (taken_value (t % 8) (drop n s) v m p)
      (ih o (drop (n + m) s) (omega (arith, length-drop (n + m) s)) l k))

  sound_step : (o : List ℕ) → length o ≤ most_levels → (r : Read) → tag s ≡ r → Takes 1 (length s) r → go_on (step o s r) next ≡ true → Rest (most_levels - length o) o s
  unfolding go_on step
  sound_step o l (No j) e t k = absurd (false≢true k)
  sound_step o l (Took t n) e (took h j) k =
      let P : Step → Type 0 = λ x. go_on x next ≡ true in
      when P (eqb (t % 8) start_group_wire)
      (λ c. when P (ltb (length o) most_levels)
      (λ d k. rest_as (omega (arith, ltb-true (length o) most_levels d)) (take-append-drop n s)
      (rest_group (taken_tag s t n e start_group_wire (eqb-true (t % 8) start_group_wire c)) (ih (t / 8 ∷ o) (drop n s) (omega (arith, length-drop n s)) (omega (arith, ltb-true (length o) most_levels d)) k)))
      (λ d k. absurd (false≢true k)))
      (λ c. when P (eqb (t % 8) end_group_wire)
      (λ d. sound_end o t n h l e (eqb-true (t % 8) end_group_wire d))
      (λ d. sound_value o t n h l e (plain (t % 8) (drop n s)) refl)) k

sound : (f : ℕ) (o s : List ℕ) → length s ≤ f → length o ≤ most_levels → is_run f o s ≡ true → Rest (most_levels - length o) o s
unfolding is_run
sound zero o [] h l e = nothing_left o e
sound zero o (b ∷ s) h l e = absurd (omega arith)
sound (suc f) o [] h l e = nothing_left o e
sound (suc f) o (b ∷ s) h l e =
    sound_step f (b ∷ s) h (λ p u. sound f p u) o l (tag (b ∷ s)) refl (takes_tag (b ∷ s)) e

-- ---- a run is accepted

module _ (o a x : List ℕ) where
  pub step_start : (t n : ℕ) → t % 8 ≡ start_group_wire → length o < most_levels → step o x (Took t n) ≡ Go (t / 8 ∷ o) n
  unfolding step
  step_start t n h l = simp (eq-eqb (t % 8) start_group_wire h, lt-ltb (length o) most_levels l)

  -- an end-group tag: with the number of the innermost group, with another number, and with no group open
  pub step_end : (y t n : ℕ) → t % 8 ≡ end_group_wire → t / 8 ≡ y → step (y ∷ o) x (Took t n) ≡ Go o n
  unfolding step closed
  step_end y t n h same = simp (ne_eqb (t % 8) start_group_wire (λ q. omega arith), eq-eqb (t % 8) end_group_wire h, eq-eqb y (t / 8) (sym same))

  pub step_other : (y t n : ℕ) → t % 8 ≡ end_group_wire → (t / 8 ≡ y → ⊥) → step (y ∷ o) x (Took t n) ≡ Stop
  unfolding step closed
  step_other y t n h differs = simp (ne_eqb (t % 8) start_group_wire (λ q. omega arith), eq-eqb (t % 8) end_group_wire h, ne_eqb y (t / 8) (λ q. differs (sym q)))

  pub step_none : (t n : ℕ) → t % 8 ≡ end_group_wire → step [] x (Took t n) ≡ Stop
  unfolding step closed
  step_none t n h = simp (ne_eqb (t % 8) start_group_wire (λ q. omega arith), eq-eqb (t % 8) end_group_wire h)

  pub step_value : (t n : ℕ) → (t % 8 ≡ start_group_wire → ⊥) → (t % 8 ≡ end_group_wire → ⊥) → step o x (Took t n) ≡ passed o (longer n (plain (t % 8) (drop n x)))
  unfolding step
  step_value t n p q = simp (ne_eqb (t % 8) start_group_wire p, ne_eqb (t % 8) end_group_wire q)

tag_front : {n w : ℕ} {a : List ℕ} (x : List ℕ) (i : IsTag n w a) → tag (a ++ x) ≡ Took i.value (length a)
tag_front {a = a} x i = front tag again_tag (λ u. takes_weaker (omega arith) (omega arith) (takes_tag u)) a x i.value i.reads

walk_start : {n : ℕ} {a : List ℕ} (o x : List ℕ) → IsTag n start_group_wire a → length o < most_levels → walk o (a ++ x) ≡ walk (n ∷ o) x
unfolding go_on
walk_start {n} {a} o x i l =
    walk_step o (a ++ x) i.value (length a) (tag_front x i)
    ∙ ap (λ (y : Step). go_on y (λ p m. walk p (drop m (a ++ x)))) (step_start o a (a ++ x) i.value (length a) i.wire_is l)
    ∙ ap₂ (λ (y : ℕ) (z : List ℕ). walk (y ∷ o) z) i.number_is (drop-append_seam a x)

walk_end : {y : ℕ} {e : List ℕ} (o x : List ℕ) → IsTag y end_group_wire e → walk (y ∷ o) (e ++ x) ≡ walk o x
unfolding go_on
walk_end {y} {e} o x i =
    walk_step (y ∷ o) (e ++ x) i.value (length e) (tag_front x i)
    ∙ ap (λ (z : Step). go_on z (λ p m. walk p (drop m (e ++ x)))) (step_end o e (e ++ x) y i.value (length e) i.wire_is i.number_is)
    ∙ ap (walk o) (drop-append_seam e x)

no_value : {w : ℕ} {v : List ℕ} (g : ℕ) → IsValue w v → plain g v ≡ No no_group_open → w ≡ g → ⊥
no_value {w} {v} g i p q = let r : plain w v ≡ Took i.value (length v) = i.reads in let z : ◌≡◌ {A = ℕ} 0 1 = cc in omega arith

walk_field : {n w : ℕ} {a v : List ℕ} (o x : List ℕ) → IsTag n w a → IsValue w v → walk o (a ++ (v ++ x)) ≡ walk o x
unfolding go_on passed longer plain
walk_field {n} {w} {a} {v} o x i j =
    let s : List ℕ = a ++ (v ++ x) in
    let t : ℕ = i.value in
    let reads : plain (t % 8) (drop (length a) s) ≡ Took j.value (length v) =
    ap₂ plain i.wire_is (drop-append_seam a (v ++ x)) ∙ front (plain w) (again_plain w) (takes_plain w) v x j.value j.reads in
    walk_step o s t (length a) (tag_front (v ++ x) i)
    ∙ ap (λ (y : Step). go_on y (λ p m. walk p (drop m s)))
    (step_value o a s t (length a) (λ q. no_value start_group_wire j refl (sym i.wire_is ∙ q)) (λ q. no_value end_group_wire j refl (sym i.wire_is ∙ q))
    ∙ ap (λ (r : Read). passed o (longer (length a) r)) reads)
    ∙ ap (walk o) (sym (drop-drop (length v) (length a) s) ∙ ap (drop (length v)) (drop-append_seam a (v ++ x)) ∙ drop-append_seam v x)

complete : {k : ℕ} {s : List ℕ} → Run k s → (o u : List ℕ) → length o + k ≤ most_levels → walk o (s ++ u) ≡ walk o u
complete empty o u h = refl
complete (field {a = a} {v = v} {s = s} t i r) o u h =
    ap (walk o) (append_assoc a (v ++ s) u ∙ ap (λ (y : List ℕ). a ++ y) (append_assoc v s u))
    ∙ walk_field o (s ++ u) t i ∙ complete r o u h
complete (group {n = n} {a = a} {r = r} {e = e} {s = s} t run f rest) o u h =
    ap (walk o) (append_assoc a (r ++ (e ++ s)) u ∙ ap (λ (y : List ℕ). a ++ y) (append_assoc r (e ++ s) u ∙ ap (λ (y : List ℕ). r ++ y) (append_assoc e s u)))
    ∙ walk_start o (r ++ (e ++ (s ++ u))) t (omega arith)
    ∙ complete run (n ∷ o) (e ++ (s ++ u)) (omega arith)
    ∙ walk_end o (s ++ u) f
    ∙ complete rest o u h

-- ---- the check says yes exactly when the bytes are a document

pub document_sound : (s : List ℕ) → is_document s ≡ true → Document s
unfolding is_document
document_sound s e = go (leb (length s) limit) refl e
  where
    go : (b : Bool) → leb (length s) limit ≡ b → (b && is_run (length s) [] s) ≡ true → Document s
    go true p q = record { small = p; run = root (sound (length s) [] s (omega arith) (omega arith) q) }
      where
        root : {k : ℕ} → Rest k [] s → Run k s
        root (here r) = r
    go false p q = absurd (false≢true q)

pub document_complete : (s : List ℕ) → Document s → is_document s ≡ true
unfolding is_document is_run
document_complete s d =
    ap (λ (b : Bool). b && is_run (length s) [] s) d.small
    ∙ ap (walk []) (sym (append-nil s)) ∙ complete d.run [] [] (omega arith)
