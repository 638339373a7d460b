-- A head's content, read alone, shows what was under it: a valid list is a `Tree`, what is under a head in it is a tree of its own or a row of values, and such a
-- piece that is lifted to depth 0 reads back. Assumes nothing.
use Prim.Native.Nat.{ℕ, ◌+◌, ◌-◌, ◌≤◌}
use native.Mathlib.Omega.{arith}
use mathlib.Core.Path.{◌≡◌, refl, sym, ap, ap₂, ◌∙◌, subst}
use mathlib.Core.Bool.{true, false, not, ◌||◌, false≢true}
use mathlib.Core.List.{List, [], ◌∷◌, ◌++◌, map, map-append}
use mathlib.Core.Option.{Option}
use lib.ListN.{length, take, drop, length-append, length-map}
use lib.Seq.{take-append_seam, drop-append_seam}
use lib.Dec.{eqb}
use borrow.Author.Tests.{eq-eqb}
use Rattle.spec.specs.Names.{message_kind, packed_head}
use Rattle.std.specs.Prelude.{if◌then◌else◌}
use Rattle.spec.specs.Base.{part, limit}
use Rattle.spec.specs.Varint.{encode}
use Rattle.spec.specs.Kind.{Scalar, Shape, one, shape, encoded}
use Rattle.spec.specs.Schema.{Schema, lookup, inside_of}
use Rattle.spec.specs.declared.Mode.{Mode}
use Rattle.spec.specs.Reading.{looking, contents, read}
use Rattle.spec.specs.Record.{Record, deeper}
use Rattle.spec.specs.Spans.{is_head}
use Rattle.spec.specs.Writing.{prefixed, Fields, list_fault, schema_first, list_check}
use Rattle.onward.specs.Onward.{held, unknown}
use Rattle.onward.specs.Under.{Among, first, later, nested, lifted, Opens, OpensAlone}
use Rattle.spec.proofs.SchemaLaws.{schema_kinds}
use Rattle.spec.proofs.WritingLaws.{bytes_in}
use Rattle.spec.proofs.RoundTrip.{stands_self, again, tag_bytes, Values, no_value, value, Tree, no_field, number, text, blob, inner, row_of, shape_message, shape_packed, values_back, back}
use Rattle.spec.proofs.ListLaws.{Over, over_nil, Low, deeper_run, tree_low, is_string_kind, valid_tree}
use Rattle.spec.proofs.TreeLaws.{plain_scalar, plain_bytes, values_over, tree_over, values_bytes, tree_bytes}
use Rattle.onward.proofs.OnwardLaws.{alike_seen}

module _ (sch : Schema) (payload : List ℕ) where
  -- ---- what is under a head

  module _ (r : Record) (under : List Record) (inside : ℕ) (head : is_head r ≡ true) where
    -- it is a tree, or the values of a packed field
    data Piece (i : List ℕ) : Type 0 where
      a_tree : r.kind ≡ message_kind → Tree sch payload inside (r.depth + 1) under i → Piece i
      a_row : (c : Scalar) → r.kind ≡ packed_head → shape inside ≡ one c → Values c r.number inside (r.depth + 1) under i → Piece i

    -- with the bytes i, which are some of those of the tree that it was cut from
    record Cut (b : List ℕ) : Type 0 where
      i : List ℕ
      piece : Piece i
      shorter : length i ≤ length b

    -- r is the first record q, or is after the records xs under q, or is among these
    stands : {A : Type 0} {t : ℕ} {q : Record} {zs : List Record} (xs ys : List Record) → Among sch r under inside t (q ∷ zs)
        → take (deeper q.depth zs) zs ≡ xs → drop (deeper q.depth zs) zs ≡ ys
        → (r ≡ q → under ≡ xs → inside ≡ inside_of q.kind (lookup sch.entries t q.number) → A) → (Among sch r under inside t ys → A)
        → (q.kind ≡ message_kind → Among sch r under inside (lookup sch.entries t q.number).child xs → A) → A
    stands xs ys (first e c) p s f g h = f refl (e ∙ p) c
    stands {t = t} xs ys (later a) p s f g h = g (subst (Among sch r under inside t) s a)
    stands {t = t} {q = q} xs ys (nested k a) p s f g h = h k (subst (Among sch r under inside (lookup sch.entries t q.number).child) p a)

    module _ (t d : ℕ) (q : Record) (xs ys : List Record) (dep : q.depth ≡ d) (o : Over (d + 1) xs) (l : Low (d + 1) ys) where
      run : deeper q.depth (xs ++ ys) ≡ length xs
      run = ap (λ (m : ℕ). deeper m (xs ++ ys)) dep ∙ deeper_run d ys o l

      stands_run : {A : Type 0} → Among sch r under inside t (q ∷ (xs ++ ys))
          → (r ≡ q → under ≡ xs → inside ≡ inside_of q.kind (lookup sch.entries t q.number) → A) → (Among sch r under inside t ys → A)
          → (q.kind ≡ message_kind → Among sch r under inside (lookup sch.entries t q.number).child xs → A) → A
      stands_run a =
          stands xs ys a (ap (λ (k : ℕ). take k (xs ++ ys)) run ∙ take-append_seam xs ys) (ap (λ (k : ℕ). drop k (xs ++ ys)) run ∙ drop-append_seam xs ys)

      -- where q is no head
      stands_later : {A : Type 0} → eqb q.kind message_kind ≡ false → eqb q.kind packed_head ≡ false → Among sch r under inside t (q ∷ (xs ++ ys)) → (Among sch r under inside t ys → A) → A
      stands_later no11 no20 a g =
          stands_run a
          (λ e u c. absurd (false≢true (sym (ap₂ (◌||◌) no11 no20) ∙ ap is_head (sym e) ∙ head))) g
          (λ k b. absurd (false≢true (sym no11 ∙ eq-eqb q.kind message_kind k)))

    -- the same in more bytes
    wider : {b : List ℕ} (x : List ℕ) → Cut b → Cut (x ++ b)
    wider {b} x c = record { i = c.i; piece = c.piece; shorter = omega (arith, c.shorter, length-append x b) }

    in_bytes : (q : Record) (i b : List ℕ) → length i ≤ length (tag_bytes q ++ prefixed i ++ b)
    in_bytes q i b = omega (arith, length-append (tag_bytes q ++ prefixed i) b, length-append (tag_bytes q) (prefixed i), length-append (encode (length i)) i)

    -- where r is the head q, whose content is i: what is under it
    module _ (t d : ℕ) (q : Record) (qs : List Record) (i b : List ℕ) (dep : q.depth ≡ d) where
      one_down : r ≡ q → d + 1 ≡ r.depth + 1
      one_down e = ap (λ (n : ℕ). n + 1) (sym (ap (λ (x : Record). x.depth) e ∙ dep))

      here_tree : q.kind ≡ message_kind → Tree sch payload (lookup sch.entries t q.number).child (d + 1) qs i
          → r ≡ q → under ≡ qs → inside ≡ inside_of q.kind (lookup sch.entries t q.number) → Cut (tag_bytes q ++ prefixed i ++ b)
      here_tree kin tr e u c =
          let type : inside ≡ (lookup sch.entries t q.number).child = c ∙ ap (λ (k : ℕ). inside_of k (lookup sch.entries t q.number)) kin in
          record {
            i = i;
            piece = a_tree (ap (λ (x : Record). x.kind) e ∙ kin)
                (subst (λ (n : ℕ). Tree sch payload inside n under i) (one_down e)
                (subst (λ (zs : List Record). Tree sch payload inside (d + 1) zs i) (sym u) (subst (λ (n : ℕ). Tree sch payload n (d + 1) qs i) (sym type) tr)));
            shorter = in_bytes q i b;
          }

      here_row : (c : Scalar) → q.kind ≡ packed_head → shape (lookup sch.entries t q.number).kind ≡ one c
          → Values c q.number (lookup sch.entries t q.number).kind (d + 1) qs i
          → r ≡ q → under ≡ qs → inside ≡ inside_of q.kind (lookup sch.entries t q.number) → Cut (tag_bytes q ++ prefixed i ++ b)
      here_row c kin sh vs e u o =
          let kind : inside ≡ (lookup sch.entries t q.number).kind = o ∙ ap (λ (k : ℕ). inside_of k (lookup sch.entries t q.number)) kin in
          record {
            i = i;
            piece = a_row c (ap (λ (x : Record). x.kind) e ∙ kin) (ap shape kind ∙ sh)
                (subst (λ (n : ℕ). Values c r.number inside n under i) (one_down e)
                (subst (λ (m : ℕ). Values c m inside (d + 1) under i) (ap (λ (x : Record). x.number) (sym e))
                (subst (λ (zs : List Record). Values c q.number inside (d + 1) zs i) (sym u) (subst (λ (k : ℕ). Values c q.number k (d + 1) qs i) (sym kind) vs))));
            shorter = in_bytes q i b;
          }

    cut : {t d : ℕ} {rs : List Record} {b : List ℕ} → Tree sch payload t d rs b → Among sch r under inside t rs → Cut b
    cut (no_field {t = t} {d = d}) a = elim a [ ]
    cut {t} {d} (number {r = q} {rs = rs} {b = b} c dep ex sh f rest) a =
        let p = plain_scalar q.kind c sh in
        wider (tag_bytes q ++ encoded c q.value)
        (stands_later t d q [] rs dep over_nil (tree_low sch payload rest) p.no_message p.no_packed a (λ a. cut rest a))
    cut {t} {d} (text {r = q} {rs = rs} {b = b} dep ex sh val li u rest) a =
        let k = is_string_kind q.kind sh in
        wider (tag_bytes q ++ prefixed (part q.start q.stop payload))
        (stands_later t d q [] rs dep over_nil (tree_low sch payload rest) (ap (λ (k : ℕ). eqb k message_kind) k) (ap (λ (k : ℕ). eqb k packed_head) k) a (λ a. cut rest a))
    cut {t} {d} (blob {r = q} {rs = rs} {b = b} dep ex sh val li rest) a =
        let p = plain_bytes q.kind sh in
        wider (tag_bytes q ++ prefixed (part q.start q.stop payload))
        (stands_later t d q [] rs dep over_nil (tree_low sch payload rest) p.no_message p.no_packed a (λ a. cut rest a))
    cut {t} {d} (inner {r = q} {rs = rs} {qs = qs} {b = b} {i = i} dep ex kin val deep in_it rest) a =
        stands_run t d q qs rs dep (tree_over sch payload in_it) (tree_low sch payload rest) a
        (here_tree t d q qs i b dep kin in_it)
        (λ a. wider (tag_bytes q ++ prefixed i) (cut rest a))
        (λ k a. let w : Cut i = cut in_it a in record { i = w.i; piece = w.piece; shorter = omega (arith, in_bytes q i b, w.shorter) })
    cut {t} {d} (row_of {r = q} {rs = rs} {qs = qs} {b = b} {i = i} c dep ex kin val sh in_it long rest) a =
        stands_run t d q qs rs dep (values_over in_it) (tree_low sch payload rest) a
        (here_row t d q qs i b dep c kin sh in_it)
        (λ a. wider (tag_bytes q ++ prefixed i) (cut rest a))
        (λ k a. absurd (omega (arith, k, kin)))

  -- ---- a tree, n levels further out

  lift_values : {c : Scalar} {m k d : ℕ} {rs : List Record} {b : List ℕ} → Values c m k d rs b → (n e : ℕ) → d ≡ n + e → Values c m k e (map (lifted n) rs) b
  lift_values no_value n e p = no_value
  lift_values (value {r = r} dep num kin f rest) n e p =
      let out : r.depth - n ≡ e = omega arith in
      value out num kin f (lift_values rest n e p)

  lift : {t d : ℕ} {rs : List Record} {b : List ℕ} → Tree sch payload t d rs b → (n e : ℕ) → d ≡ n + e → Tree sch payload t e (map (lifted n) rs) b
  lift no_field n e p = no_field
  lift (number {r = r} c dep ex sh f rest) n e p =
      let out : r.depth - n ≡ e = omega arith in
      number c out (again ex) sh f (lift rest n e p)
  lift (text {r = r} dep ex sh val li u rest) n e p =
      let out : r.depth - n ≡ e = omega arith in
      text out (again ex) sh val li u (lift rest n e p)
  lift (blob {r = r} dep ex sh val li rest) n e p =
      let out : r.depth - n ≡ e = omega arith in
      blob out (again ex) sh val li (lift rest n e p)
  lift {t} (inner {r = r} {rs = rs} {qs = qs} {b = b} {i = i} dep ex kin val deep in_it rest) n e p =
      let out : r.depth - n ≡ e = omega arith in
      subst (λ (zs : List Record). Tree sch payload t e (lifted n r ∷ zs) (tag_bytes r ++ prefixed i ++ b)) (sym (map-append (lifted n) qs rs))
      (inner out (again ex) kin val (omega arith) (lift in_it n (e + 1) (omega arith)) (lift rest n e p))
  lift {t} (row_of {r = r} {rs = rs} {qs = qs} {b = b} {i = i} c dep ex kin val sh in_it long rest) n e p =
      let out : r.depth - n ≡ e = omega arith in
      subst (λ (zs : List Record). Tree sch payload t e (lifted n r ∷ zs) (tag_bytes r ++ prefixed i ++ b)) (sym (map-append (lifted n) qs rs))
      (row_of c out (again ex) kin val sh (lift_values in_it n (e + 1) (omega arith)) (omega (arith, long, length-map qs (lifted n))) (lift rest n e p))

-- ---- the law

module _ (mode : Mode) (sch : Schema) (payload : List ℕ) (r : Record) (under : List Record) (inside : ℕ) (head : is_head r ≡ true) where
  -- the content that a lacking field shows
  abbrev content : List ℕ
  content = (unknown payload r under).content

  -- what is under r, with the bytes i, opens
  opens : (i : List ℕ) → length i ≤ limit → Piece sch payload r under inside head i → Opens mode sch payload r under inside content
  unfolding unknown held contents
  opens i small (a_tree kin tr) =
      let is : content ≡ i =
      ap (λ (k : ℕ). held (shape k) payload r (bytes_in (not (eqb k packed_head)) payload under)) kin
      ∙ ap (λ (x : Shape). held x payload r (bytes_in true payload under)) shape_message ∙ tree_bytes sch payload tr in
      let out : r.depth + 1 ≡ r.depth + 1 + 0 = omega arith in
      let q = back sch payload i mode (lift sch payload tr (r.depth + 1) 0 out) 0 (stands_self i) small in
      subst (Opens mode sch payload r under inside) (sym is) (record {
        list = q.0;
        reads = ap (λ (k : ℕ). if eqb k packed_head then contents (shape inside) 0 r.number inside 0 0 i else read (looking mode sch) 0 inside 0 i) kin ∙ q.1;
        shows = alike_seen q.2;
      })
  opens i small (a_row c kin sh vs) =
      let is : content ≡ i =
      ap (λ (k : ℕ). held (shape k) payload r (bytes_in (not (eqb k packed_head)) payload under)) kin
      ∙ ap (λ (x : Shape). held x payload r (bytes_in false payload under)) shape_packed ∙ values_bytes sch payload sh vs in
      let out : r.depth + 1 ≡ r.depth + 1 + 0 = omega arith in
      let q = values_back sch payload i sh (lift_values sch payload vs (r.depth + 1) 0 out) 0 0 in
      subst (Opens mode sch payload r under inside) (sym is) (record {
        list = q.0;
        reads = ap (λ (k : ℕ). if eqb k packed_head then contents (shape inside) 0 r.number inside 0 0 i else read (looking mode sch) 0 inside 0 i) kin
            ∙ ap (λ (x : Shape). contents x 0 r.number inside 0 0 i) sh ∙ q.1;
        shows = alike_seen q.2;
      })

pub opens_alone : OpensAlone
unfolding list_check schema_first
opens_alone mode new payload rs valid fine small r under inside head a =
    let faultless = ap (λ (x : Option ℕ). schema_first x (list_fault new payload 0 (Fields 0 ∷ []) rs)) (sym valid) ∙ fine in
    let c = cut new payload r under inside head (valid_tree new payload (schema_kinds new valid) rs faultless) a in
    opens mode new payload r under inside head c.i (omega (arith, c.shorter, small)) c.piece
