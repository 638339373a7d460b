-- What the check of a list says of its records by their index: how deep the next stands, and what the values of a packed field are.
-- Assumes nothing.
use Prim.Native.Nat.{ℕ, zero, suc, ◌+◌, ◌*◌, ◌/◌, ◌≤◌, ◌<◌}
use native.Mathlib.Omega.{arith}
use mathlib.Core.Path.{◌≡◌, refl, sym, ap, ◌∙◌, subst}
use mathlib.Core.Bool.{true, false, false≢true}
use mathlib.Core.List.{List, ◌∷◌}
use lib.ListN.{length, drop, length-drop}
use Rattle.spec.specs.Names.{packed_head}
use Rattle.spec.specs.Kind.{Shape, other, packed, shape, is_scalar, head_kind}
use Rattle.spec.specs.Record.{Record, records_of, stride}
use Rattle.spec.specs.Writing.{lies}
use Rattle.spec.proofs.VarintLaws.{lower_or_not}
use Rattle.spec.proofs.RoundTrip.{has_content}
use Rattle.spec.proofs.ListLaws.{is_message_kind, is_packed_head, Low}
use Rattle.spec.proofs.SizeLaws.{Held, held_cons, held_drop}
use Rattle.spec.proofs.RunLaws.{Row, row_end, row_more, Nested, a_scalar, a_string, a_bytes, a_message, a_row, Fit, is_row, Sane, sane_first, sane_drop, Passed, records_drop, sane_whole}
use Rattle.write.specs.Backward.{depth_at, number_at, kind_at, at}
use Rattle.write.proofs.SpanLaws.{from, from_cons}

-- ---- two records that follow one another

nested_next : {r q : Record} {rs : List Record} {x : Shape} → Nested r (q ∷ rs) x → q.depth ≤ r.depth + 1
nested_next (a_scalar f l) = omega arith
nested_next (a_string o l) = omega arith
nested_next (a_bytes o l) = omega arith
nested_next (a_message l) = omega arith
nested_next (a_row sh dep num w) = omega arith

nested_leaf : {r q : Record} {rs : List Record} {x : Shape} → Nested r (q ∷ rs) x → shape r.kind ≡ x → head_kind r.kind ≡ false → q.depth ≤ r.depth
nested_leaf (a_scalar f l) e h = omega arith
nested_leaf (a_string o l) e h = omega arith
nested_leaf (a_bytes o l) e h = omega arith
nested_leaf {r} (a_message l) e h = absurd (false≢true (sym h ∙ ap head_kind (is_message_kind r.kind e)))
nested_leaf {r} (a_row sh dep num w) e h = absurd (false≢true (sym h ∙ ap head_kind (is_packed_head r.kind e)))

row_first : {d m k : ℕ} {r : Record} {rs : List Record} → Row d m k (r ∷ rs) → d ≤ r.depth → (r.depth ≡ d) × (r.number ≡ m) × (r.kind ≡ k) × Row d m k rs
row_first (row_end l) h = absurd (omega arith)
row_first (row_more dep num kin w) h = (dep, num, kin, w)

packed_row : {r q : Record} {rs : List Record} → Nested r (q ∷ rs) (other packed)
    → Row (r.depth + 1) r.number q.kind (q ∷ rs) × (is_scalar (shape q.kind) ≡ true)
unfolding is_scalar
packed_row (a_row sh dep num w) = (row_more dep num refl w, ap is_scalar sh)

-- ---- the records of a list

-- record j is a value of the packed field whose head is record i
pub record Value (list : List ℕ) (i j : ℕ) : Type 0 where
  pub depth : depth_at list j ≡ depth_at list i + 1
  pub number : number_at list j ≡ number_at list i
  pub kind : kind_at list j ≡ kind_at list (i + 1)

module _ (list payload : List ℕ) (held : Held payload (records_of list)) where
  held_first : {r : Record} {rs : List Record} → Held payload (r ∷ rs) → has_content (shape r.kind) ≡ true → lies payload r ≡ true
  held_first (held_cons l h) = l

  pub lies_at : (i : ℕ) → stride * i + stride ≤ length list → has_content (shape (kind_at list i)) ≡ true → lies payload (at list i) ≡ true
  lies_at i h = held_first (subst (Held payload) (records_drop i list ∙ from_cons list i h) (held_drop i held))

module _ (list : List ℕ) (passed : Passed (records_of list)) where
  sane_from : (i : ℕ) → Sane (from list i)
  sane_from i = subst Sane (records_drop i list) (sane_drop i passed.sane)

  pub fit_at : (i : ℕ) → stride * i + stride ≤ length list → Fit (at list i) (from list (i + 1))
  fit_at i h = sane_first (subst Sane (from_cons list i h) (sane_from i))

  -- the list is whole records
  pub whole : length list ≡ stride * (length list / stride)
  whole =
      let i : ℕ = length list / stride in
      lower_or_not (stride * i) (length list)
      (λ l. absurd (omega (arith, sane_whole (drop (stride * i) list) (sane_from i) (omega (arith, length-drop (stride * i) list)), length-drop (stride * i) list)))
      (λ l. omega arith)

  nested_at : (i : ℕ) → stride * (i + 1) + stride ≤ length list → Nested (at list i) (at list (i + 1) ∷ from list (i + 1 + 1)) (shape (kind_at list i))
  nested_at i h =
      subst (λ (rs : List Record). Nested (at list i) rs (shape (kind_at list i))) (from_cons list (i + 1) h) (fit_at i (omega arith)).nested

  pub next_depth : (i : ℕ) → stride * (i + 1) + stride ≤ length list → depth_at list (i + 1) ≤ depth_at list i + 1
  next_depth i h = nested_next (nested_at i h)

  pub leaf_next : (i : ℕ) → stride * (i + 1) + stride ≤ length list → head_kind (kind_at list i) ≡ false → depth_at list (i + 1) ≤ depth_at list i
  leaf_next i h l = nested_leaf (nested_at i h) refl l

  pub deep_at : (i : ℕ) → stride * i + stride ≤ length list → depth_at list i ≤ i
  deep_at zero h = let top : depth_at list 0 < 1 = subst (Low 1) (from_cons list 0 h) passed.outer in omega arith
  deep_at (suc i) h =
      let next : depth_at list (i + 1) ≤ depth_at list i + 1 = next_depth i (omega arith) in
      let same : i + 1 ≡ suc i = omega arith in
      subst (λ (n : ℕ). depth_at list n ≤ n) same (omega (arith, deep_at i (omega arith)))

  row_in : (n d m k a j : ℕ) → a ≤ j → j ≤ a + n → stride * j + stride ≤ length list → Row d m k (from list a) → ((i : ℕ) → a ≤ i → i ≤ j → d ≤ depth_at list i)
      → (depth_at list j ≡ d) × (number_at list j ≡ m) × (kind_at list j ≡ k)
  row_in zero d m k a j h l inside w f =
      let same : a ≡ j = omega arith in
      let x = row_first (subst (Row d m k) (ap (from list) same ∙ from_cons list j inside) w) (f j h (omega arith)) in
      (x.0, x.1, x.2)
  row_in (suc n) d m k a j h l inside w f =
      let x = row_first (subst (Row d m k) (from_cons list a (omega arith)) w) (f a (omega arith) h) in
      lower_or_not a j
      (λ b. row_in n d m k (a + 1) j (omega arith) (omega arith) inside x.3 (λ i g e. f i (omega arith) e))
      (λ b. let same : a ≡ j = omega arith in subst (λ (i : ℕ). (depth_at list i ≡ d) × (number_at list i ≡ m) × (kind_at list i ≡ k)) same (x.0, x.1, x.2))

  -- what lies in a packed head
  module _ (i : ℕ) (is : kind_at list i ≡ packed_head) (inside : stride * (i + 1) + stride ≤ length list) where
    row_at : Row (depth_at list i + 1) (number_at list i) (kind_at list (i + 1)) (from list (i + 1)) × (is_scalar (shape (kind_at list (i + 1))) ≡ true)
    row_at =
        let there = from_cons list (i + 1) inside in
        let x = packed_row (subst (λ (rs : List Record). Nested (at list i) rs (other packed)) there (is_row (fit_at i (omega arith)) is)) in
        (subst (Row (depth_at list i + 1) (number_at list i) (kind_at list (i + 1))) (sym there) x.0, x.1)

    pub values_scalar : is_scalar (shape (kind_at list (i + 1))) ≡ true
    values_scalar = row_at.1

    pub value_at : (e : ℕ) → stride * e ≤ length list → ((j : ℕ) → i < j → j < e → depth_at list i < depth_at list j) → (j : ℕ) → i < j → j < e → Value list i j
    value_at e l deep j h b =
        let x = row_in j (depth_at list i + 1) (number_at list i) (kind_at list (i + 1)) (i + 1) j (omega arith) (omega arith) (omega arith) row_at.0
        (λ n g m. omega (arith, deep n (omega arith) (omega arith))) in
        record { depth = x.0; number = x.1; kind = x.2 }
