-- Laws of storing texts: two texts, one after the other; an iteration of each loop; that any two answers a promise allows are equal.
-- Assumes nothing.
use Prim.Native.Nat.{ℕ, zero, suc, ◌+◌, ◌-◌, ◌/◌, ◌%◌, ◌≤◌, ◌<◌}
use native.Mathlib.Numerals.{add-one}
use native.Mathlib.Omega.{arith}
use mathlib.Core.Path.{◌≡◌, refl, sym, ap, ◌∙◌}
use mathlib.Core.List.{List, [], ◌∷◌, ◌++◌}
use lib.ListN.{length, get_or, drop, set, drop_of_length-le}
use lib.Seq.{drop-cons}
use borrow.Author.Tests.{lt-ltb, le-ltb, ne_eqb, eq-eqb}
use Rattle.printing.specs.Text.{zero_glyph, letters, blank, ok_text, refused_text, at_text, put, puts, Shown, digits_of, decimal, glyph, hexadecimal, rows, verdict, lines, header, listing}
use Rattle.printing.specs.Page.{Adds}
use Rattle.printing.specs.declared.Page.{Page}
use Rattle.spec.specs.Names.{tag_column}

puts_append : (at : ℕ) (a b out : List ℕ) → puts at (a ++ b) out ≡ puts (puts at a out).0 b (puts at a out).1
unfolding puts
puts_append at [] b out = refl
puts_append at (x ∷ a) b out = puts_append (put at x out).0 a b (put at x out).1

pub shown_none : {out : List ℕ} {at : ℕ} → Shown out at [] out at
unfolding puts
shown_none = record { says = refl }

pub shown_join : {out mid after : List ℕ} {at m next : ℕ} {a b : List ℕ} → Shown out at a mid m → Shown mid m b after next → Shown out at (a ++ b) after next
shown_join {out} {mid} {after} {at} {m} {next} {a} {b} x y =
    record { says = puts_append at a b out ∙ ap (λ (p : ℕ × List ℕ). puts p.0 b p.1) x.says ∙ y.says }

-- One byte, with room and without.
pub shown_byte : {out : List ℕ} {at b : ℕ} → at < length out → Shown out at (b ∷ []) (set out at b) (at + 1)
unfolding puts put
shown_byte {out} {at} {b} h = record { says = simp (lt-ltb at (length out) h) refl }

pub shown_full : {out : List ℕ} {at b : ℕ} → length out ≤ at → Shown out at (b ∷ []) out at
unfolding puts put
shown_full {out} {at} {b} h = record { says = simp (le-ltb at (length out) h) refl }

-- any two answers that a promise allows are equal
pub one_answer : {out text : List ℕ} {at : ℕ} {a b : List ℕ} {m n : ℕ} → Shown out at text a m → Shown out at text b n → (m ≡ n) × (a ≡ b)
one_answer x y = (ap (λ (p : ℕ × List ℕ). p.0) (sym x.says ∙ y.says), ap (λ (p : ℕ × List ℕ). p.1) (sym x.says ∙ y.says))

-- ---- texts on a page

pub adds_none : {p : Page} → Adds p [] p
adds_none = record { shown = shown_none; same_slice = refl }

pub adds_join : {p q r : Page} {a b : List ℕ} → Adds p a q → Adds q b r → Adds p (a ++ b) r
adds_join x y = record { shown = shown_join x.shown y.shown; same_slice = y.same_slice ∙ x.same_slice }

-- ---- loops: what is to be stored in all is what the rest stores from here

pub record Left (whole : List ℕ) (first : Page) (rest : List ℕ) (page : Page) : Type 0 where
  pub same : puts first.at whole first.out.now ≡ puts page.at rest page.out.now
  pub same_slice : page.out.ghost_name ≡ first.out.ghost_name

pub left_done : {whole rest : List ℕ} {p q : Page} → Left whole p rest q → rest ≡ [] → Adds p whole q
unfolding puts
left_done {q = q} l e = record { shown = record { says = l.same ∙ ap (λ (r : List ℕ). puts q.at r q.out.now) e }; same_slice = l.same_slice }

pub left_turn : {whole rest a more : List ℕ} {p q r : Page} → Left whole p rest q → rest ≡ a ++ more → Adds q a r → Left whole p more r
left_turn {a = a} {more = more} {q = q} l e s =
    record {
      same = l.same ∙ ap (λ (x : List ℕ). puts q.at x q.out.now) e ∙ puts_append q.at a more q.out.now ∙ ap (λ (x : ℕ × List ℕ). puts x.0 more x.1) s.shown.says;
      same_slice = s.same_slice ∙ l.same_slice;
    }

-- a list from place i on, where there is an element
from : (s : List ℕ) (i : ℕ) → i < length s → drop i s ≡ get_or s i 0 ∷ drop (i + 1) s
from s i h = rw (add-one, drop-cons s i 0)

-- ---- a text

pub text_step : (text : List ℕ) (i : ℕ) {p q r : Page}
    → Left text p (drop i text) q → i < length text → Adds q (get_or text i 0 ∷ []) r → Left text p (drop (i + 1) text) r
text_step text i l h s = left_turn l (from text i h) s

pub text_done : (text : List ℕ) (i : ℕ) {p q : Page} → Left text p (drop i text) q → length text ≤ i → Adds p text q
text_done text i l h = left_done l (drop_of_length-le text h)

-- ---- bytes in hexadecimal

pub hex_step : (bytes : List ℕ) (i : ℕ) {g k : ℕ} {p q r s : Page}
    → Left (hexadecimal bytes) p (hexadecimal (drop i bytes)) q → i < length bytes
    → g ≡ glyph (get_or bytes i 0 / 16) → k ≡ glyph (get_or bytes i 0 % 16) → Adds q (g ∷ []) r → Adds r (k ∷ []) s
    → Left (hexadecimal bytes) p (hexadecimal (drop (i + 1) bytes)) s
unfolding hexadecimal
hex_step bytes i l h e f a b = left_turn (left_turn l (ap hexadecimal (from bytes i h) ∙ rw (← e, ← f)) a) refl b

pub hex_done : (bytes : List ℕ) (i : ℕ) {p q : Page} → Left (hexadecimal bytes) p (hexadecimal (drop i bytes)) q → length bytes ≤ i → Adds p (hexadecimal bytes) q
unfolding hexadecimal
hex_done bytes i l h = left_done l (ap hexadecimal (drop_of_length-le bytes h))

-- ---- rows

row_on : (last before between within column n : ℕ) (ns : List ℕ) → column < last
    → rows last before between within column (n ∷ ns) ≡ (before ∷ []) ++ (decimal n ++ rows last within between within (column + 1) ns)
unfolding rows
row_on last before between within column n ns h = simp (lt-ltb column last h) refl

row_anew : (last before between within column n : ℕ) (ns : List ℕ) → last ≤ column
    → rows last before between within column (n ∷ ns) ≡ (before ∷ []) ++ (decimal n ++ rows last between between within 0 ns)
unfolding rows
row_anew last before between within column n ns h = simp (le-ltb column last h) refl

-- what is left of the rows at number i, where a row goes on at a column
pub record Rowing (last first between within : ℕ) (list : List ℕ) (p : Page) (before column i : ℕ) (q : Page) : Type 0 where
  pub left : Left (rows last first between within 0 list) p (rows last before between within column (drop i list)) q

module _ {last first between within : ℕ} {list : List ℕ} {p q r s : Page} {before column i : ℕ}
    (l : Rowing last first between within list p before column i q) (h : i < length list)
    (x : Adds q (before ∷ []) r) (y : Adds r (decimal (get_or list i 0)) s) where
  pub rows_on : column < last → Rowing last first between within list p within (column + 1) (i + 1) s
  rows_on c = record { left = left_turn (left_turn l.left (ap (rows last before between within column) (from list i h) ∙ row_on last before between within column _ _ c) x) refl y }

  pub rows_anew : last ≤ column → Rowing last first between within list p between 0 (i + 1) s
  rows_anew c = record { left = left_turn (left_turn l.left (ap (rows last before between within column) (from list i h) ∙ row_anew last before between within column _ _ c) x) refl y }

pub rows_done : {last first between within : ℕ} {list : List ℕ} {p q : Page} {before column i : ℕ}
    → Rowing last first between within list p before column i q → length list ≤ i → Adds p (rows last first between within 0 list) q
unfolding rows
rows_done {last} {between = between} {within = within} {list} {before = before} {column = column} l h =
    left_done l.left (ap (rows last before between within column) (drop_of_length-le list h))

-- ---- numbers

digits_last : (left n : ℕ) → 0 < left → n < 10 → digits_of left n ≡ (zero_glyph + n) ∷ []
unfolding digits_of
digits_last zero n l h = absurd (omega arith)
digits_last (suc k) n l h = simp (lt-ltb n 10 h) refl

digits_more : (left n : ℕ) → 0 < left → 10 ≤ n → digits_of left n ≡ digits_of (left - 1) (n / 10) ++ ((zero_glyph + n % 10) ∷ [])
unfolding digits_of
digits_more zero n l h = absurd (omega arith)
digits_more (suc k) n l h =
    let e : suc k - 1 ≡ k = omega arith in
    rw e (simp (le-ltb n 10 h) refl)

-- how the digits of a number are stored
module _ {p : Page} where
  pub digits_none : (n : ℕ) {left : ℕ} → left ≡ 0 → Adds p (digits_of left n) p
  unfolding digits_of
  digits_none n e = rw e adds_none

  pub digits_one : (left n : ℕ) {q : Page} → 0 < left → n < 10 → Adds p ((zero_glyph + n) ∷ []) q → Adds p (digits_of left n) q
  digits_one left n l h s = rw (digits_last left n l h) s

  pub digits_many : (left n : ℕ) {q r : Page} → 0 < left → 10 ≤ n
      → Adds p (digits_of (left - 1) (n / 10)) q → Adds q ((zero_glyph + n % 10) ∷ []) r → Adds p (digits_of left n) r
  digits_many left n l h s t = rw (digits_more left n l h) (adds_join s t)

pub glyph_low : {d : ℕ} → d < 10 → zero_glyph + d ≡ glyph d
unfolding glyph
glyph_low {d} h = simp (lt-ltb d 10 h) refl

pub glyph_high : {d : ℕ} → 10 ≤ d → letters + d ≡ glyph d
unfolding glyph
glyph_high {d} h = simp (le-ltb d 10 h) refl

-- ---- how a reading ended

module _ {p q r : Page} (number count place : ℕ) where
  pub verdict_ok : number ≡ 0 → Adds p ok_text q → Adds q (decimal count) r → Adds p (verdict number count place) r
  unfolding verdict
  verdict_ok e s t = rw (eq-eqb number 0 e) (adds_join s t)

  pub verdict_no : {far near : Page} → (number ≡ 0 → ⊥) → Adds p refused_text q → Adds q (decimal number) far → Adds far at_text near
      → Adds near (decimal place) r → Adds p (verdict number count place) r
  unfolding verdict
  verdict_no e s t u v = rw (ne_eqb number 0 e) (adds_join s (adds_join t (adds_join u v)))

pub lined : {p q r s : Page} {end : ℕ} (number count place : ℕ) (list : List ℕ) (last : ℕ)
    → Adds p (rows last end end blank 0 list) q → Adds q (end ∷ []) r → Adds r (verdict number count place) s → Adds p (lines number count place list last end) s
unfolding lines
lined number count place list last s t u = adds_join s (adds_join t u)

pub listed : {p q r : Page} (number count place : ℕ) (list : List ℕ) (end : ℕ)
    → Adds p header q → Adds q (lines number count place list tag_column end) r → Adds p (listing number count place list end) r
unfolding listing
listed number count place list end s t = adds_join s t
