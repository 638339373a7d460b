-- The tables while they are made: an array after some entries holds what each of them stored in order. Assumes nothing.
use Prim.Native.Nat.{ℕ, suc, ◌+◌, ◌*◌, ◌/◌, ◌^◌, ◌≤◌, ◌<◌, min}
use native.Mathlib.Omega.{arith}
use native.Mathlib.Numerals.{add-one}
use mathlib.Core.Path.{◌≡◌, refl, sym, ap, ap₂, ◌∙◌}
use mathlib.Core.Bool.{true, false}
use mathlib.Core.List.{List, [], ◌∷◌, ◌++◌}
use mathlib.Core.Option.{Option, none, some}
use lib.ListN.{length, take, get_or, set, length-take}
use lib.Seq.{take-suc, take_all}
use lib.Dec.{eqb}
use borrow.Author.Tests.{eqb-true, eqb-false}
use Rattle.spec.specs.Names.{delimited_wire, message_kind, most_types, no_wire, own_kinds, sint64_kind}
use Rattle.spec.specs.Kind.{kind_wires, own_wires, wires, wire}
use Rattle.spec.specs.Schema.{bad_schema, no_entry, schema_of, entry_stride}
use Rattle.spec.proofs.Laws.{by_test}
use Rattle.spec.proofs.SchemaLaws.{length_entries, Good}
use Rattle.spec.specs.declared.Entry.{Entry}
use Rattle.spec.proofs.Below.{equal_below}
use Rattle.schema.specs.Layout.{key_count}
use Rattle.schema.specs.declared.Five.{Five}
use Rattle.schema.specs.Tables.{counted, up_to, sound_of, rank, next_key, key_of, inner_in, noted, storing, put_key, put_info, keys_with, info_with}
use Rattle.schema.specs.Told.{entry, five_at}
use Rattle.schema.proofs.ValidLaws.{entries_in, schema_in, counts_right, counts_wrong, counts_bounds, plain, is_entry, good_five, Here, here_first, here_end, here_bad, here_good, here_next, here_entry}

-- ---- one entry more

module _ (put : ℕ → Entry → List ℕ → List ℕ) where
  storing_append : (i : ℕ) (es fs : List Entry) (xs : List ℕ) → storing put i (es ++ fs) xs ≡ storing put (i + length es) fs (storing put i es xs)
  unfolding storing
  storing_append i [] fs xs = let z : i ≡ i + 0 = omega arith in ap (λ (n : ℕ). storing put n fs xs) z
  storing_append i (e ∷ es) fs xs =
      let n : i + 1 + length es ≡ i + suc (length es) = omega arith in
      storing_append (i + 1) es fs (put i e xs) ∙ ap (λ (m : ℕ). storing put m fs (storing put (i + 1) es (put i e xs))) n

  pub storing_next : (es : List Entry) (e : ℕ) (xs : List ℕ) → e < length es
      → storing put 0 (take (e + 1) es) xs ≡ put e (get_or es e no_entry) (storing put 0 (take e es) xs)
  unfolding storing
  storing_next es e xs l =
      let n : 0 + length (take e es) ≡ e = omega (arith, length-take e es) in
      ap (λ (k : ℕ). storing put 0 (take k es) xs) (add-one e)
      ∙ ap (λ (fs : List Entry). storing put 0 fs xs) (take-suc es e no_entry l)
      ∙ storing_append 0 (take e es) (get_or es e no_entry ∷ []) xs
      ∙ ap (λ (k : ℕ). put k (get_or es e no_entry) (storing put 0 (take e es) xs)) n

-- ---- while they are made

-- the table of wire types that code holds is the definition's
wire_in : (k : ℕ) → k ≤ sint64_kind → get_or kind_wires k 0 ≡ wire k
unfolding kind_wires own_wires wires wire
wire_in k h = equal_below (λ n. get_or kind_wires n 0) wire own_kinds k tt (omega arith)

pub wire_below : (k : ℕ) → k ≤ sint64_kind → wire k < 8
unfolding kind_wires own_wires wires wire
wire_below k h =
    let m : min no_wire (wire k) ≡ wire k = equal_below (λ n. min no_wire (wire n)) wire own_kinds k tt (omega arith) in
    omega arith

-- before entry e, whose arrays hold the entries passed
pub record Made (types : ℕ) (ns : List ℕ) (e last : ℕ) (keys₀ keys info₀ info : List ℕ) : Type 0 where
  pub here : Here types ns e last
  pub keys_so : keys ≡ keys_with 0 (take e (entries_in ns)) keys₀
  pub info_so : info ≡ info_with 0 (take e (entries_in ns)) info₀

-- what is promised of the answer and of both arrays
abbrev pub Promised : (types : ℕ) (ns : List ℕ) (keys₀ keys info₀ info : List ℕ) → Option ℕ → Type 0
Promised types ns keys₀ keys info₀ info answer =
    (answer ≡ bad_schema (schema_of types ns)) × (keys ≡ keys_with 0 (sound_of (schema_of types ns)) keys₀) × (info ≡ info_with 0 (sound_of (schema_of types ns)) info₀)

-- which entries are stored, from where the first bad one is
sound_to : (types : ℕ) (ns : List ℕ) (answer : Option ℕ) → schema_of types ns ≡ schema_in types ns → bad_schema (schema_of types ns) ≡ answer → sound_of (schema_of types ns) ≡ up_to answer (entries_in ns)
unfolding sound_of
sound_to types ns answer s b = ap₂ up_to b (ap (λ sch. sch.entries) s)

pub made_none : (types : ℕ) (ns keys info : List ℕ) → counted types (length ns) ≡ false → Promised types ns keys keys info info (some 0)
unfolding sound_of storing
made_none types ns keys info h =
    let b = counts_wrong types ns h in
    let z : sound_of (schema_of types ns) ≡ [] = ap (λ (x : Option ℕ). up_to x (schema_of types ns).entries) b in
    (sym b, ap (λ (es : List Entry). keys_with 0 es keys) (sym z), ap (λ (es : List Entry). info_with 0 es info) (sym z))

pub made_first : (types : ℕ) (ns keys info : List ℕ) → counted types (length ns) ≡ true → Made types ns 0 0 keys keys info info
unfolding storing
made_first types ns keys info h = record { here = here_first types ns h; keys_so = refl; info_so = refl }

module _ {types : ℕ} {ns : List ℕ} {e last : ℕ} {keys₀ keys info₀ info : List ℕ} (m : Made types ns e last keys₀ keys info₀ info) where
  promised : (answer : Option ℕ) → bad_schema (schema_of types ns) ≡ answer → up_to answer (entries_in ns) ≡ take e (entries_in ns) → Promised types ns keys₀ keys info₀ info answer
  promised answer b u =
      let z : sound_of (schema_of types ns) ≡ take e (entries_in ns) = sound_to types ns answer (counts_right types ns m.here.counts).0 b ∙ u in
      (sym b, m.keys_so ∙ ap (λ (es : List Entry). keys_with 0 es keys₀) (sym z), m.info_so ∙ ap (λ (es : List Entry). info_with 0 es info₀) (sym z))

  pub made_all : length ns / entry_stride ≤ e → Promised types ns keys₀ keys info₀ info none
  made_all l =
      let k : length (entries_in ns) ≤ e = omega (arith, length_entries (length ns / entry_stride) ns) in
      promised none (here_end m.here l) (sym (take_all e (entries_in ns) k))

  module _ (l : e < length ns / entry_stride) {f : Five} (at : f ≡ five_at ns (entry_stride * e)) where
    pub made_bad : next_key types last (entry f) ≡ 0 → Promised types ns keys₀ keys info₀ info (some e)
    made_bad z = promised (some e) (here_bad m.here l at z) refl

    module _ {key : ℕ} (is : (key ≡ next_key types last (entry f)) × (0 < key)) where
      good : (f.repeated < 2) × Good types (plain f)
      good = good_five types f (here_good m.here l at is).0

      as_plain : entry f ≡ plain f
      as_plain = is_entry f good.0

      key_plain : key ≡ rank (plain f)
      key_plain = (here_good m.here l at is).1 ∙ ap rank as_plain

      at_place : get_or (entries_in ns) e no_entry ≡ plain f
      at_place = here_entry m.here l at ∙ as_plain

      among : e < length (entries_in ns)
      among = omega (arith, length_entries (length ns / entry_stride) ns)

      small_child : f.child < 256
      small_child =
          let g = good.1 in
          let b = counts_bounds types (length ns) m.here.counts in
          by_test (eqb f.kind message_kind)
          (λ p. let c = g.message_child (eqb-true f.kind message_kind p) in omega arith)
          (λ p. let c = g.no_child (eqb-false f.kind message_kind p) in omega arith)

      -- what the code may store
      pub made_fits : (e < key_count) × (f.owner < most_types) × (f.kind ≤ sint64_kind) × (f.repeated < 2) × (f.child < 256) × (key < 2 ^ 63)
      made_fits =
          let g = good.1 in
          let o = g.owned in
          let n = g.number_to in
          let k = key_plain in
          let b = counts_bounds types (length ns) m.here.counts in
          (omega arith, omega arith, g.kind_to, good.0, small_child, omega arith)

      -- only a kind of wire type 2 has a child
      pub made_childless : (w : ℕ) → w ≡ get_or kind_wires f.kind 0 → (w ≡ delimited_wire → ⊥) → f.child ≡ 0
      unfolding kind_wires
      made_childless w q n = good.1.no_child (λ k. n (q ∙ ap (λ (x : ℕ). get_or kind_wires x 0) k))

      pub made_next : (w : ℕ) → w ≡ get_or kind_wires f.kind 0
          → Made types ns (e + 1) key keys₀ (set keys e (key + w)) info₀ (noted e f.owner f.number f.kind (inner_in w (eqb f.repeated 1) f.child) info)
      made_next w q =
          let r : w ≡ wire f.kind = q ∙ wire_in f.kind good.1.kind_to in
          record {
            here = here_next m.here l at is;
            keys_so =
                ap₂ (λ (ks : List ℕ) (k : ℕ). set ks e k) m.keys_so (ap₂ (◌+◌) key_plain r ∙ ap key_of (sym at_place))
                ∙ sym (storing_next put_key (entries_in ns) e keys₀ among);
            info_so =
                ap₂ (λ (x : ℕ) (xs : List ℕ). noted e f.owner f.number f.kind (inner_in x (eqb f.repeated 1) f.child) xs) r m.info_so
                ∙ ap (λ (x : Entry). put_info e x (info_with 0 (take e (entries_in ns)) info₀)) (sym at_place)
                ∙ sym (storing_next put_info (entries_in ns) e info₀ among);
          }
