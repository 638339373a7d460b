-- Laws of records by their index: the records from one index up to another, with their bytes, and what the check of a list says of each.
-- Assumes nothing.
use Prim.Native.Nat.{ℕ, zero, suc, ◌+◌, ◌-◌, ◌*◌, ◌≤◌, ◌<◌}
use native.Mathlib.Omega.{arith}
use mathlib.Core.Path.{◌≡◌, sym, ap, ap₂, ◌∙◌, subst}
use mathlib.Core.Bool.{Bool, not}
use mathlib.Core.List.{List, [], ◌∷◌, ◌++◌, append_assoc}
use lib.ListN.{length, take, drop, length-append, length-drop}
use lib.Seq.{take-add, drop-drop}
use lib.Dec.{eqb, leb, ltb}
use borrow.Author.Tests.{lt-ltb, le-ltb}
use Rattle.spec.specs.Names.{packed_head}
use Rattle.spec.specs.Kind.{shape}
use Rattle.spec.specs.Record.{Record, records_of, stride}
use Rattle.spec.specs.Writing.{body, tag_of, bytes_of}
use Rattle.spec.proofs.Laws.{chosen}
use Rattle.spec.proofs.VarintLaws.{lower_or_not}
use Rattle.spec.proofs.WritingLaws.{bytes_in}
use Rattle.spec.proofs.ListLaws.{Over, over_nil, over_cons, Low, bytes_run}
use Rattle.spec.proofs.TreeLaws.{low_append, low_weaker}
use Rattle.spec.proofs.RunLaws.{front, behind, front_over, low_behind, front_behind, behind_drop, records_at, records_drop}
use Rattle.write.specs.Backward.{depth_at, kind_at, at, span, start}

-- ---- bytes of what comes after

over_behind : {d : ℕ} (e : ℕ) {rs : List Record} → Over d rs → Over d (behind e rs)
unfolding behind
over_behind e over_nil = over_nil
over_behind {d} e (over_cons {r} {rs} h o) = chosen (Over d) (leb e r.depth) (λ p. over_behind e o) (λ p. over_cons h o)

-- those of the records after a run are no more than those of the whole
shorter : (k : ℕ) (tags : Bool) (payload : List ℕ) (d : ℕ) {xs : List Record} (ys : List Record) → length xs ≤ k → Over d xs → Low (d + 1) ys
    → length (bytes_in tags payload ys) ≤ length (bytes_in tags payload (xs ++ ys))
shorter zero tags payload d ys h over_nil l = omega arith
shorter zero tags payload d ys h (over_cons j o) l = absurd (omega arith)
shorter (suc k) tags payload d ys h over_nil l = omega arith
shorter (suc k) tags payload d ys h (over_cons {r} {rs} j o) l =
    let e : ℕ = r.depth + 1 in
    let inner : List Record = front e rs in
    let after : List Record = behind e rs in
    let first : rs ++ ys ≡ inner ++ (after ++ ys) = ap (λ (x : List Record). x ++ ys) (front_behind e rs) ∙ append_assoc inner after ys in
    let low : Low e (after ++ ys) = low_append e after ys (low_behind e rs) (low_weaker (d + 1) e ys (omega arith) l) in
    let whole = ap (λ (x : List Record). bytes_in tags payload (r ∷ x)) first ∙ bytes_run tags payload r inner (after ++ ys) (front_over e rs) low in
    let few : length after ≤ k = omega (arith, ap length (behind_drop e rs), length-drop (length inner) rs) in
    let rest = shorter k tags payload d ys few (over_behind e o) l in
    let own : List ℕ = tag_of tags r ++ body (shape r.kind) payload r (bytes_in (not (eqb r.kind packed_head)) payload inner) in
    omega (arith, rest, ap length whole, length-append own (bytes_in tags payload (after ++ ys)))

-- ---- the records of a list

module _ (list : List ℕ) where
  -- those from index i on
  abbrev pub from : ℕ → List Record
  from i = records_of (drop (stride * i) list)

  pub from_cons : (i : ℕ) → stride * i + stride ≤ length list → from i ≡ at list i ∷ from (i + 1)
  from_cons i h =
      let next : stride * i + stride ≡ stride * (i + 1) = omega arith in
      records_at list (stride * i) h ∙ ap (λ (n : ℕ). at list i ∷ records_of (drop n list)) next

  from_drop : (i n : ℕ) → drop n (from i) ≡ from (i + n)
  from_drop i n =
      let there : stride * i + stride * n ≡ stride * (i + n) = omega arith in
      records_drop n (drop (stride * i) list) ∙ ap records_of (drop-drop (stride * n) (stride * i) list ∙ ap (λ (k : ℕ). drop k list) there)

  span_none : (a e : ℕ) → e ≤ a → span list a e ≡ []
  unfolding span
  span_none a e h = let none : e - a ≡ 0 = omega arith in ap (λ (n : ℕ). take n (from a)) none

  pub span_cons : (a e : ℕ) → a < e → stride * e ≤ length list → span list a e ≡ at list a ∷ span list (a + 1) e
  unfolding span
  span_cons a e h l = let count : e - a ≡ suc (e - (a + 1)) = omega arith in ap₂ take count (from_cons a (omega arith))

  span_append : (a m e : ℕ) → a ≤ m → m ≤ e → span list a e ≡ span list a m ++ span list m e
  unfolding span
  span_append a m e h l =
      let there : a + (m - a) ≡ m = omega arith in
      let count : e - a ≡ m - a + (e - m) = omega arith in
      ap (λ (n : ℕ). take n (from a)) count ∙ take-add (m - a) (e - m) (from a)
      ∙ ap (λ (x : List Record). take (m - a) (from a) ++ take (e - m) x) (from_drop a (m - a) ∙ ap from there)

  span_over : (k d a e : ℕ) → e ≤ a + k → stride * e ≤ length list → ((j : ℕ) → a ≤ j → j < e → d ≤ depth_at list j) → Over d (span list a e)
  span_over zero d a e h l f = subst (Over d) (sym (span_none a e (omega arith))) over_nil
  span_over (suc k) d a e h l f =
      lower_or_not a e
      (λ b. subst (Over d) (sym (span_cons a e b l)) (over_cons (f a (omega arith) b) (span_over k d (a + 1) e (omega arith) l (λ j g i. f j (omega arith) i))))
      (λ b. subst (Over d) (sym (span_none a e b)) over_nil)

  span_low : (d a e : ℕ) → stride * e ≤ length list → (a < e → depth_at list a < d) → Low d (span list a e)
  span_low d a e l f =
      lower_or_not a e
      (λ b. subst (Low d) (sym (span_cons a e b l)) (f b))
      (λ b. subst (Low d) (sym (span_none a e b)) tt)

  -- record a, those in it, which end before index m, and those after them
  module _ (a m e : ℕ) (some : a < m) (in_order : m ≤ e) (inside : stride * e ≤ length list) (low : m < e → depth_at list m ≤ depth_at list a) where
    pub bytes_at : (tags : Bool) (payload : List ℕ) → ((j : ℕ) → a < j → j < m → depth_at list a < depth_at list j)
        → bytes_in tags payload (span list a e)
        ≡ tag_of tags (at list a) ++ body (shape (kind_at list a)) payload (at list a) (bytes_in (not (eqb (kind_at list a) packed_head)) payload (span list (a + 1) m))
        ++ bytes_in tags payload (span list m e)
    bytes_at tags payload deep =
        ap (λ (x : List Record). bytes_in tags payload x) (span_cons a e (omega arith) inside ∙ ap (◌∷◌ (at list a)) (span_append (a + 1) m e (omega arith) in_order))
        ∙ bytes_run tags payload (at list a) (span list (a + 1) m) (span list m e)
        (span_over m (depth_at list a + 1) (a + 1) m (omega arith) (omega arith) (λ j g i. omega (arith, deep j (omega arith) i)))
        (span_low (depth_at list a + 1) m e inside (λ b. omega (arith, low b)))

  pub bytes_none : (tags : Bool) (payload : List ℕ) (a e : ℕ) → e ≤ a → bytes_in tags payload (span list a e) ≡ []
  unfolding bytes_of
  bytes_none tags payload a e h = ap (λ (x : List Record). bytes_in tags payload x) (span_none a e h)

  -- the bytes from index m on, where the records before it are no less deep
  pub bytes_from : (tags : Bool) (payload : List ℕ) (d a m e : ℕ) → a ≤ m → m ≤ e → stride * e ≤ length list → ((j : ℕ) → a ≤ j → j < m → d ≤ depth_at list j)
      → (m < e → depth_at list m ≤ d) → length (bytes_in tags payload (span list m e)) ≤ length (bytes_in tags payload (span list a e))
  bytes_from tags payload d a m e h l inside deep low =
      subst (λ (x : List Record). length (bytes_in tags payload (span list m e)) ≤ length (bytes_in tags payload x)) (sym (span_append a m e h l))
      (shorter (length (span list a m)) tags payload d (span list m e) (omega arith) (span_over m d a m (omega arith) (omega arith) deep)
      (span_low (d + 1) m e inside (λ b. omega (arith, low b))))

  -- ---- where a run begins

  pub start_le : (d i : ℕ) → start list d i ≤ i
  unfolding start
  start_le d zero = omega arith
  start_le d (suc i) = chosen (λ (n : ℕ). n ≤ suc i) (ltb (depth_at list i) d) (λ e. omega arith) (λ e. omega (arith, start_le d i))

  start_stops : (d i : ℕ) → depth_at list i < d → start list d (suc i) ≡ suc i
  unfolding start
  start_stops d i h = simp (lt-ltb (depth_at list i) d h)

  start_goes_on : (d i : ℕ) → d ≤ depth_at list i → start list d (suc i) ≡ start list d i
  unfolding start
  start_goes_on d i h = simp (le-ltb (depth_at list i) d h)

  pub start_over : (d i j : ℕ) → start list d i ≤ j → j < i → d ≤ depth_at list j
  start_over d zero j h l = absurd (omega arith)
  start_over d (suc i) j h l =
      lower_or_not (depth_at list i) d
      (λ b. absurd (omega (arith, start_stops d i b)))
      (λ b.
      lower_or_not j i (λ c. start_over d i j (omega (arith, start_goes_on d i b)) c)
      (λ c. let same : j ≡ i = omega arith in subst (λ (n : ℕ). d ≤ depth_at list n) (sym same) b))

  pub start_low : (d i : ℕ) → 1 ≤ start list d i → depth_at list (start list d i - 1) < d
  unfolding start
  start_low d zero h = absurd (omega arith)
  start_low d (suc i) h =
      lower_or_not (depth_at list i) d
      (λ b. let last : start list d (suc i) - 1 ≡ i = omega (arith, start_stops d i b) in subst (λ (n : ℕ). depth_at list n < d) (sym last) b)
      (λ b. let e = start_goes_on d i b in subst (λ (n : ℕ). depth_at list (n - 1) < d) (sym e) (start_low d i (omega arith)))

  pub start_same : (k d a e : ℕ) → a ≤ e → e ≤ a + k → ((j : ℕ) → a ≤ j → j < e → d ≤ depth_at list j) → start list d e ≡ start list d a
  start_same zero d a e h l f = let same : e ≡ a = omega arith in ap (start list d) same
  start_same (suc k) d a zero h l f = let same : 0 ≡ a = omega arith in ap (start list d) same
  start_same (suc k) d a (suc e) h l f =
      lower_or_not a (suc e)
      (λ b. start_goes_on d e (f e (omega arith) (omega arith)) ∙ start_same k d a e (omega arith) (omega arith) (λ j g i. f j g (omega arith)))
      (λ b. let same : suc e ≡ a = omega arith in ap (start list d) same)

  pub start_here : (d i : ℕ) → 1 ≤ i → depth_at list (i - 1) < d → start list d i ≡ i
  start_here d zero h l = absurd (omega arith)
  start_here d (suc i) h l = start_stops d i (subst (λ (n : ℕ). depth_at list n < d) (omega arith) l)
