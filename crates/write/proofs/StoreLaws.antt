-- Laws of bytes that are stored in the output: byte by byte, and one run of bytes before another. Assumes nothing.
use Prim.Native.Nat.{ℕ, suc, ◌+◌, ◌-◌, ◌≤◌}
use mathlib.Core.Path.{◌≡◌, refl, sym, ap, ap₂, ◌∙◌, subst}
use mathlib.Core.List.{List, [], ◌∷◌, ◌++◌, append_assoc}
use native.Mathlib.Omega.{arith}
use native.Mathlib.Numerals.{add-one}
use lib.ListN.{length, take, drop, set, length-append, length-set}
use lib.Seq.{sets, sets-eq, length-sets, length-take-le, drop_at, drop-drop, drop-append_seam}
use Rattle.wire.specs.Answers.{stored}
use Rattle.write.specs.Backward.{Stored, Room}

-- ---- one byte after the other

stored_sets : (q : ℕ) (new out : List ℕ) → q + length new ≤ length out → stored q new out ≡ sets out q new
stored_sets q new out h = sym (sets-eq new out q h)

stored_cons : (q b : ℕ) (new out : List ℕ) → q + 1 + length new ≤ length out → stored q (b ∷ new) out ≡ stored (q + 1) new (set out q b)
stored_cons q b new out h =
    stored_sets q (b ∷ new) out (omega arith) ∙ ap (λ (n : ℕ). sets (set out q b) n new) (sym (add-one q))
    ∙ sym (stored_sets (q + 1) new (set out q b) (omega (arith, length-set out q b)))

stored_nil : (q : ℕ) (out : List ℕ) → q ≤ length out → stored q [] out ≡ out
stored_nil q out h = stored_sets q [] out (omega arith)

from_stored : (q : ℕ) (new out : List ℕ) → q ≤ length out → drop q (stored q new out) ≡ new ++ drop (q + length new) out
from_stored q new out h =
    let rest : List ℕ = drop (q + length new) out in
    ap (drop q) (append_assoc (take q out) new rest) ∙ drop_at (take q out) (new ++ rest) q (length-take-le q out h)

-- what is stored in its place
pub in_place : (new out : List ℕ) (q p : ℕ) {now : List ℕ} → q + length new ≡ p → p ≤ length out → now ≡ stored q new out → Stored new p out q now
in_place new out q p e h i = record {
  starts = e;
  behind = ap (drop q) i ∙ from_stored q new out (omega arith) ∙ ap (λ (n : ℕ). new ++ drop n out) e;
  long = ap length (i ∙ stored_sets q new out (omega arith)) ∙ length-sets out q new;
}

-- ---- one run of bytes before another

pub stored_then : {a b out next now : List ℕ} {p q r : ℕ} → Stored b p out q next → Stored a q next r now → Stored (a ++ b) p out r now
stored_then {a} {b} {out} {p = p} s t = record {
  starts = omega (arith, s.starts, t.starts, length-append a b);
  behind = t.behind ∙ ap (λ (l : List ℕ). a ++ l) s.behind ∙ sym (append_assoc a b (drop p out));
  long = t.long ∙ s.long;
}

pub stored_as : {a b out now : List ℕ} {p q : ℕ} → a ≡ b → Stored a p out q now → Stored b p out q now
stored_as {out = out} {now} {p} {q} e s = subst (λ (l : List ℕ). Stored l p out q now) e s

pub stored_at : {new out now next : List ℕ} {p q r : ℕ} → Stored new p out q now → r ≡ q → next ≡ now → Stored new p out r next
stored_at s e f = record { starts = omega (arith, s.starts); behind = ap₂ drop e f ∙ s.behind; long = ap length f ∙ s.long }

pub room_as : {a b out : List ℕ} {p : ℕ} → a ≡ b → Room a p out → Room b p out
room_as {out = out} {p} e r = subst (λ (l : List ℕ). Room l p out) e r

pub stored_none : (p : ℕ) (out : List ℕ) → Stored [] p out p out
stored_none p out = record { starts = omega arith; behind = refl; long = refl }

-- what was stored before the last bytes of it may be anything
pub stored_end : (a b : List ℕ) {out now : List ℕ} {p q r : ℕ} → Stored (a ++ b) p out q now → r + length b ≡ p → Stored b p out r now
stored_end a b {out} {now} {p} {q} {r} s e =
    let from : q + length a ≡ r = omega (arith, e, s.starts, length-append a b) in
    record {
      starts = e;
      behind =
          ap (λ (n : ℕ). drop n now) (sym from) ∙ sym (drop-drop (length a) q now) ∙ ap (drop (length a)) (s.behind ∙ append_assoc a b (drop p out))
          ∙ drop-append_seam a (b ++ drop p out);
      long = s.long;
    }

-- ---- a loop that stores forward: `todo` is left of `new`, which is to be stored from q up to p, and goes to the place i

pub record Going (new todo out₀ : List ℕ) (q p : ℕ) (out : List ℕ) (i : ℕ) : Type 0 where
  pub same : stored q new out₀ ≡ stored i todo out
  pub starts : q + length new ≡ p
  pub ends : i + length todo ≡ p
  pub inside : p ≤ length out
  pub long : length out ≡ length out₀

pub going : (new out : List ℕ) (q p i : ℕ) → i ≡ q → q + length new ≡ p → p ≤ length out → Going new new out q p out i
going new out q p i j e h = record { same = ap (λ (n : ℕ). stored n new out) (sym j); starts = e; ends = omega arith; inside = h; long = refl }

module _ {new todo out₀ out : List ℕ} {q p i : ℕ} (g : Going new todo out₀ q p out i) where
  pub gone_on : (j b : ℕ) (rest : List ℕ) → j ≡ i + 1 → todo ≡ b ∷ rest → Going new rest out₀ q p (set out i b) j
  gone_on j b rest next e =
      let count : length todo ≡ suc (length rest) = ap length e in
      record {
        same =
            g.same ∙ ap (λ (l : List ℕ). stored i l out) e ∙ stored_cons i b rest out (omega (arith, g.ends, g.inside))
            ∙ ap (λ (k : ℕ). stored k rest (set out i b)) (sym next);
        starts = g.starts;
        ends = omega (arith, g.ends);
        inside = omega (arith, g.inside, length-set out i b);
        long = length-set out i b ∙ g.long;
      }

  pub gone : todo ≡ [] → Stored new p out₀ q out
  gone e =
      let count : length todo ≡ 0 = ap length e in
      in_place new out₀ q p g.starts (omega (arith, g.inside, g.long)) (sym (g.same ∙ ap (λ (l : List ℕ). stored i l out) e ∙ stored_nil i out (omega (arith, g.ends, g.inside))))

-- three bytes before p
pub stored_three : (a b c p : ℕ) (out : List ℕ) → 3 ≤ p → p ≤ length out → Stored (a ∷ b ∷ c ∷ []) p out (p - 3) (set (set (set out (p - 3) a) (p - 2) b) (p - 1) c)
stored_three a b c p out h l =
    let g = going (a ∷ b ∷ c ∷ []) out (p - 3) p (p - 3) refl (omega arith) l in
    let g₁ = gone_on g (p - 2) a (b ∷ c ∷ []) (omega arith) refl in
    let g₂ = gone_on g₁ (p - 1) b (c ∷ []) (omega arith) refl in
    gone (gone_on g₂ p c [] (omega arith) refl) refl
