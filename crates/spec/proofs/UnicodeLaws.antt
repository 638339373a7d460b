-- The two readings of RFC 3629 agree: bytes are valid by the table of section 4 (specs/Utf8) exactly when they are the octets that
-- section 3 builds of scalar values, one after the other (specs/Unicode).
-- Assumes nothing.
use Prim.Native.Nat.{ℕ, zero, suc, ◌+◌, ◌-◌, ◌*◌, ◌/◌, ◌≤◌, ◌<◌}
use native.Mathlib.Omega.{arith}
use mathlib.Core.Logic.{◌≢◌}
use mathlib.Core.Path.{◌≡◌, refl, sym, ap, ◌∙◌, subst}
use mathlib.Core.Bool.{true, false≢true}
use mathlib.Core.List.{List, [], ◌∷◌, ◌++◌}
use lib.ListN.{length, take, drop, length-append, take-append-drop}
use lib.Seq.{drop-append_seam}
use lib.Dec.{leb, eqb}
use borrow.Author.Tests.{leb-true, leb-false, eqb-true, eqb-false, le-leb, lt-leb, eq-eqb}
use Rattle.std.specs.Prelude.{if◌then◌else◌}
use Rattle.spec.specs.Base.{between}
use Rattle.spec.specs.Utf8.{Lead, Follow, NoLead, lead, followers, behind, char, valid_prefix, utf8}
use Rattle.spec.specs.Unicode.{ScalarValue, below_surrogates, above_surrogates, six, spell, Text, nothing, scalar}
use Rattle.spec.proofs.Laws.{both, both_true, either_way, chosen}
use Rattle.spec.proofs.VarintLaws.{lower_or_not}
use Rattle.spec.proofs.Utf8Laws.{char_ascii, prefix_nil, prefix_step, by_valid}

-- ---- section 3 as facts about numbers

-- the surrogates are the numbers whose quotient by 800 is 1b
scalar_facts : {v : ℕ} → ScalarValue v → (v ≤ 0x10ffff) × (v / 0x800 ≢ 0x1b)
scalar_facts (below_surrogates h) = omega arith
scalar_facts (above_surrogates l h) = omega arith

is_scalar_lem : (v : ℕ) → v ≤ 0x10ffff → v / 0x800 ≢ 0x1b → ScalarValue v
is_scalar_lem v h n = lower_or_not v 0xd800 (λ l. below_surrogates (omega arith)) (λ l. above_surrogates (omega arith) h)

spell_one : (v : ℕ) → v ≤ 0x7f → spell v ≡ v ∷ []
unfolding spell
spell_one v h = simp (le-leb v 0x7f h)

spell_two : (v : ℕ) → 0x7f < v → v ≤ 0x7ff → spell v ≡ (0xc0 + v / 64) ∷ six v ∷ []
unfolding spell
spell_two v l h = simp (lt-leb v 0x7f l, le-leb v 0x7ff h)

spell_three : (v : ℕ) → 0x7ff < v → v ≤ 0xffff → spell v ≡ (0xe0 + v / 64 / 64) ∷ six (v / 64) ∷ six v ∷ []
unfolding spell
spell_three v l h = simp (lt-leb v 0x7f (omega arith), lt-leb v 0x7ff l, le-leb v 0xffff h)

spell_four : (v : ℕ) → 0xffff < v → spell v ≡ (0xf0 + v / 64 / 64 / 64) ∷ six (v / 64 / 64) ∷ six (v / 64) ∷ six v ∷ []
unfolding spell
spell_four v l = simp (lt-leb v 0x7f (omega arith), lt-leb v 0x7ff (omega arith), lt-leb v 0xffff l)

-- ---- section 4 as facts about numbers

-- `followers`, as orders that `omega` reads and proves
abbrev Followed : ℕ → ℕ → ℕ → List ℕ → Type 0
Followed zero lo hi s = Unit
Followed (suc n) lo hi [] = ⊥
Followed (suc n) lo hi (b ∷ s) = (lo ≤ b) × (b ≤ hi) × Followed n 0x80 0xbf s

followed : (n lo hi : ℕ) (s : List ℕ) → followers n lo hi s ≡ true → Followed n lo hi s
unfolding followers
followed zero lo hi s e = tt
followed (suc n) lo hi [] e = absurd (false≢true e)
followed (suc n) lo hi (b ∷ s) e =
    let p = both (between lo hi b) (followers n 0x80 0xbf s) e in
    let q = both (leb lo b) (leb b hi) p.0 in
    (leb-true lo b q.0, leb-true b hi q.1, followed n 0x80 0xbf s p.1)

follows : (n lo hi : ℕ) (s : List ℕ) → Followed n lo hi s → followers n lo hi s ≡ true
unfolding followers
follows zero lo hi s f = refl
follows (suc n) lo hi [] f = absurd f
follows (suc n) lo hi (b ∷ s) f = both_true (both_true (le-leb lo b f.0) (le-leb b hi f.1)) (follows n 0x80 0xbf s f.2)

-- the number u with the six bits of the octet x after it
unfoldable joined : ℕ → ℕ → ℕ
joined u x = 64 * u + (x - 0x80)

joined_parts : (u x : ℕ) → 0x80 ≤ x → x ≤ 0xbf → (joined u x / 64 ≡ u) × (six (joined u x) ≡ x)
unfolding joined
joined_parts u x l h = omega arith

-- The bounds of a first follower x are those that keep the value, here without the followers after x, in its range:
-- from 800 and no surrogate, in 64s, and from 10000 to 10ffff, in 4096s.
abbrev Third : ℕ → ℕ → Type 0
Third b x = (0x80 ≤ x) × (x ≤ 0xbf) × (0x20 ≤ joined (b - 0xe0) x) × (joined (b - 0xe0) x / 0x20 ≢ 0x1b)

abbrev Fourth : ℕ → ℕ → Type 0
Fourth b x = (0x80 ≤ x) × (x ≤ 0xbf) × (0x10 ≤ joined (b - 0xf0) x) × (joined (b - 0xf0) x ≤ 0x10f)

abbrev Bounds : ℕ → ℕ → (ℕ → Type 0) → Type 0
Bounds lo hi P = (x : ℕ) → ((lo ≤ x) × (x ≤ hi) → P x) × (P x → (lo ≤ x) × (x ≤ hi))

abbrev Three : ℕ → ℕ → ℕ → Type 0
Three b lo hi = (0xe0 ≤ b) × (b ≤ 0xef) × Bounds lo hi (Third b)

abbrev Four : ℕ → ℕ → ℕ → Type 0
Four b lo hi = (0xf0 ≤ b) × (b ≤ 0xf4) × Bounds lo hi (Fourth b)

-- what the table says of a lead byte, by how many octets there are
data Row (b : ℕ) : Lead → Type 0 where
  one : b ≤ 0x7f → Row b (Follow 0 0x80 0xbf)
  two : 0xc2 ≤ b → b ≤ 0xdf → Row b (Follow 1 0x80 0xbf)
  three : {lo hi : ℕ} → Three b lo hi → Row b (Follow 2 lo hi)
  four : {lo hi : ℕ} → Four b lo hi → Row b (Follow 3 lo hi)
  none : (0xc2 ≤ b → 0xf4 < b) → Row b NoLead

-- Row by row: from c2 on each begins where the one before it ends, which `n` carries along.
row : (b : ℕ) → Row b (lead b)
unfolding lead joined
row b =
    chosen (Row b) (leb b 0x7f) (λ e. one (leb-true b 0x7f e)) λ e.
    span 0xc2 0xdf (λ h. h) (λ l h. two l h) λ n.
    spot 0xe0 n (λ e. three (omega arith)) λ n.
    span 0xe1 0xec n (λ l h. three (omega arith)) λ n.
    spot 0xed n (λ e. three (omega arith)) λ n.
    span 0xee 0xef n (λ l h. three (omega arith)) λ n.
    spot 0xf0 n (λ e. four (omega arith)) λ n.
    span 0xf1 0xf3 n (λ l h. four (omega arith)) λ n.
    spot 0xf4 n (λ e. four (omega arith)) λ n.
    none n
  where
    span : (lo hi : ℕ) {x y : Lead} → (0xc2 ≤ b → lo ≤ b) → (lo ≤ b → b ≤ hi → Row b x) → ((0xc2 ≤ b → hi < b) → Row b y) → Row b (if between lo hi b then x else y)
    span lo hi from inner outer =
        chosen (Row b) (between lo hi b)
        (λ e. let p = both (leb lo b) (leb b hi) e in inner (leb-true lo b p.0) (leb-true b hi p.1))
        (λ e. outer λ l. leb-false b hi (rw (le-leb lo b (from l)) at e))

    spot : (a : ℕ) {x y : Lead} → (0xc2 ≤ b → a ≤ b) → (b ≡ a → Row b x) → ((0xc2 ≤ b → a < b) → Row b y) → Row b (if eqb b a then x else y)
    spot a from inner outer =
        chosen (Row b) (eqb b a) (λ e. inner (eqb-true b a e)) (λ e. outer λ l. omega (arith, eqb-false b a e, from l))

-- ---- a scalar value's octets are a character of the table

-- one lemma for each number of octets: of the rows, only those with as many followers have such a lead byte
char_two : (b x : ℕ) (s : List ℕ) → 0xc2 ≤ b → b ≤ 0xdf → 0x80 ≤ x → x ≤ 0xbf → char (b ∷ x ∷ s) ≡ 2
unfolding char behind
char_two b x s l h p q = go (row b)
  where
    go : {r : Lead} → Row b r → behind r (x ∷ s) ≡ 2
    go (one i) = absurd (omega arith)
    go (two i j) = rw (follows 1 0x80 0xbf (x ∷ s) (omega arith))
    go (three f) = absurd (omega arith)
    go (four f) = absurd (omega arith)
    go (none n) = absurd (omega (arith, n l))

char_three : (b x y : ℕ) (s : List ℕ) → 0xe0 ≤ b → b ≤ 0xef → Third b x → 0x80 ≤ y → y ≤ 0xbf → char (b ∷ x ∷ y ∷ s) ≡ 3
unfolding char behind
char_three b x y s l h t p q = go (row b)
  where
    go : {r : Lead} → Row b r → behind r (x ∷ y ∷ s) ≡ 3
    go (one i) = absurd (omega arith)
    go (two i j) = absurd (omega arith)
    go (three {lo} {hi} f) = rw (follows 2 lo hi (x ∷ y ∷ s) (omega (arith, (f.2 x).1 t)))
    go (four f) = absurd (omega arith)
    go (none n) = absurd (omega (arith, n (omega arith)))

char_four : (b x y z : ℕ) (s : List ℕ) → 0xf0 ≤ b → b ≤ 0xf4 → Fourth b x → 0x80 ≤ y → y ≤ 0xbf → 0x80 ≤ z → z ≤ 0xbf → char (b ∷ x ∷ y ∷ z ∷ s) ≡ 4
unfolding char behind
char_four b x y z s l h t p q v w = go (row b)
  where
    go : {r : Lead} → Row b r → behind r (x ∷ y ∷ z ∷ s) ≡ 4
    go (one i) = absurd (omega arith)
    go (two i j) = absurd (omega arith)
    go (three f) = absurd (omega arith)
    go (four {lo} {hi} f) = rw (follows 3 lo hi (x ∷ y ∷ z ∷ s) (omega (arith, (f.2 x).1 t)))
    go (none n) = absurd (omega (arith, n (omega arith)))

pub char_spell : {v : ℕ} → ScalarValue v → (s : List ℕ) → char (spell v ++ s) ≡ length (spell v)
unfolding joined
char_spell {v} sv s =
    let f = scalar_facts sv in
    lower_or_not v 0x80 (λ h. rw (spell_one v (omega arith)) (char_ascii v s h)) λ l.
    lower_or_not v 0x800 (λ h. rw (spell_two v l (omega arith)) (char_two (0xc0 + v / 64) (six v) s (omega arith) (omega arith) (omega arith) (omega arith))) λ l.
    lower_or_not v 0x10000
    (λ h. rw (spell_three v l (omega arith))
    (char_three (0xe0 + v / 64 / 64) (six (v / 64)) (six v) s (omega arith) (omega arith) (omega arith) (omega arith) (omega arith)))
    λ l. rw (spell_four v l)
    (char_four (0xf0 + v / 64 / 64 / 64) (six (v / 64 / 64)) (six (v / 64)) (six v) s
    (omega arith) (omega arith) (omega arith) (omega arith) (omega arith) (omega arith) (omega arith))

-- ---- a character of the table is a scalar value's octets

-- what stands in front of s where its character is n long
data Front (s : List ℕ) : ℕ → Type 0 where
  no_char : Front s 0
  is_char : {n v : ℕ} → ScalarValue v → take n s ≡ spell v → Front s n

-- the octets of a value whose six lowest bits stand in the last octet, and the rest, joined likewise, in those before it
made_two : (b u x v : ℕ) (s : List ℕ) → 0xc0 + u ≡ b → v / 64 ≡ u → six v ≡ x → 2 ≤ u → u ≤ 0x1f → Front (b ∷ x ∷ s) 2
made_two b u x v s eb eu ex l h = is_char {n = 2} (is_scalar_lem v (omega arith) (omega arith)) (cc (spell_two v (omega arith) (omega arith)))

made_three : (b u x v y : ℕ) (s : List ℕ) → 0xe0 + u / 64 ≡ b → six u ≡ x → v / 64 ≡ u → six v ≡ y → 0x20 ≤ u → u ≤ 0x3ff → u / 0x20 ≢ 0x1b
    → Front (b ∷ x ∷ y ∷ s) 3
made_three b u x v y s eb ex eu ey l h n =
    is_char {n = 3} (is_scalar_lem v (omega arith) (omega arith)) (cc (spell_three v (omega arith) (omega arith)))

made_four : (b u x v y w z : ℕ) (s : List ℕ) → 0xf0 + u / 64 ≡ b → six u ≡ x → v / 64 ≡ u → six v ≡ y → w / 64 ≡ v → six w ≡ z → 0x10 ≤ u → u ≤ 0x10f
    → Front (b ∷ x ∷ y ∷ z ∷ s) 4
made_four b u x v y w z s eb ex eu ey ev ez l h =
    is_char {n = 4} (is_scalar_lem w (omega arith) (omega arith)) (cc (spell_four w (omega arith)))

front_two : (b : ℕ) (s : List ℕ) → 0xc2 ≤ b → b ≤ 0xdf → Followed 1 0x80 0xbf s → Front (b ∷ s) 2
front_two b [] l h f = absurd f
front_two b (x ∷ s) l h f =
    let j = joined_parts (b - 0xc0) x f.0 f.1 in
    made_two b (b - 0xc0) x (joined (b - 0xc0) x) s (omega arith) j.0 j.1 (omega arith) (omega arith)

front_three : (b lo hi : ℕ) (s : List ℕ) → Three b lo hi → Followed 2 lo hi s → Front (b ∷ s) 3
front_three b lo hi [] t f = absurd f
front_three b lo hi (x ∷ []) t f = absurd f.2
front_three b lo hi (x ∷ y ∷ s) t f =
    let k = (t.2 x).0 (f.0, f.1) in
    let u : ℕ = joined (b - 0xe0) x in
    let j = joined_parts (b - 0xe0) x k.0 k.1 in
    let i = joined_parts u y f.2.0 f.2.1 in
    made_three b u x (joined u y) y s (omega arith) j.1 i.0 i.1 k.2 (omega arith) k.3

front_four : (b lo hi : ℕ) (s : List ℕ) → Four b lo hi → Followed 3 lo hi s → Front (b ∷ s) 4
front_four b lo hi [] t f = absurd f
front_four b lo hi (x ∷ []) t f = absurd f.2
front_four b lo hi (x ∷ y ∷ []) t f = absurd f.2.2
front_four b lo hi (x ∷ y ∷ z ∷ s) t f =
    let k = (t.2 x).0 (f.0, f.1) in
    let u : ℕ = joined (b - 0xf0) x in
    let j = joined_parts (b - 0xf0) x k.0 k.1 in
    let i = joined_parts u y f.2.0 f.2.1 in
    let g = joined_parts (joined u y) z f.2.2.0 f.2.2.1 in
    made_four b u x (joined u y) y (joined (joined u y) z) z s (omega arith) j.1 i.0 i.1 g.0 g.1 k.2 k.3

front : (s : List ℕ) → Front s (char s)
unfolding char behind followers
front [] = no_char
front (b ∷ s) = go (row b)
  where
    go : {r : Lead} → Row b r → Front (b ∷ s) (behind r s)
    go (one h) = is_char (is_scalar_lem b (omega arith) (omega arith)) (sym (spell_one b h))
    go (two l h) = chosen (Front (b ∷ s)) (followers 1 0x80 0xbf s) (λ e. front_two b s l h (followed 1 0x80 0xbf s e)) (λ e. no_char)
    go (three {lo} {hi} t) = chosen (Front (b ∷ s)) (followers 2 lo hi s) (λ e. front_three b lo hi s t (followed 2 lo hi s e)) (λ e. no_char)
    go (four {lo} {hi} t) = chosen (Front (b ∷ s)) (followers 3 lo hi s) (λ e. front_four b lo hi s t (followed 3 lo hi s e)) (λ e. no_char)
    go (none n) = no_char

-- ---- so the two say the same of any bytes

-- so that a step is made
some_octet : (v : ℕ) → 0 < length (spell v)
unfolding spell
some_octet v =
    let P : List ℕ → Type 0 = λ s. 0 < length s in
    either_way P (leb v 0x7f) (omega arith) (either_way P (leb v 0x7ff) (omega arith) (either_way P (leb v 0xffff) (omega arith) (omega arith)))

pub text_valid : {s : List ℕ} → Text s → utf8 s ≡ true
text_valid nothing = rw prefix_nil
text_valid (scalar {v} {s} sv t) =
    let step : valid_prefix (spell v ++ s) ≡ length (spell v) + valid_prefix s =
    rw (char_spell sv s, drop-append_seam (spell v) s) at (prefix_step (spell v ++ s) (omega (arith, char_spell sv s, some_octet v))) in
    eq-eqb (valid_prefix (spell v ++ s)) (length (spell v ++ s))
    (omega (arith, length-append (spell v) s, eqb-true (valid_prefix s) (length s) (text_valid t)))

pub valid_text : (s : List ℕ) → utf8 s ≡ true → Text s
valid_text = by_valid Text nothing λ n s e ih. go n s ih (rw e at (front s))
  where
    go : (n : ℕ) (s : List ℕ) → Text (drop (suc n) s) → Front s (suc n) → Text s
    go n s t (is_char {v = v} sv e) = subst Text (ap (λ (x : List ℕ). x ++ drop (suc n) s) (sym e) ∙ take-append-drop (suc n) s) (scalar sv t)
