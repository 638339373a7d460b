-- Laws of the run in a head, by where it begins: where the head is packed, its records are values of one number and kind, all at one depth.
-- Assumes nothing.
use Prim.Native.Nat.{ℕ, ◌+◌, ◌-◌, ◌*◌, ◌/◌, ◌≤◌, ◌<◌}
use native.Mathlib.Omega.{arith}
use mathlib.Core.Path.{◌≡◌, refl, sym, ap, ◌∙◌, subst}
use mathlib.Core.Bool.{Bool, true, false, not}
use mathlib.Core.List.{List}
use lib.ListN.{get_or}
use borrow.Author.Tests.{eqb-true}
use Rattle.spec.specs.Names.{kind_column, packed_head}
use Rattle.spec.specs.Record.{stride}
use Rattle.std.specs.Prelude.{if◌then◌else◌}
use Rattle.spec.specs.Kind.{shape, is_scalar}
use Rattle.spec.proofs.WritingLaws.{bytes_in}
use Rattle.write.specs.Backward.{Stored, depth_at, kind_at, span, start, Upto, run_bytes, Run, Inner, is_packed, Values, Ran, kind_back}
use Rattle.write.proofs.StoreLaws.{room_as, stored_as}
use Rattle.write.proofs.SpanLaws.{start_over, start_low}
use Rattle.write.proofs.CheckedLaws.{Value, values_scalar, value_at}

module _ {list : List ℕ} {d upto : ℕ} (u : Upto list upto) (n : Inner list d upto) (packed : kind_at list (start list d (upto / stride) - 1) ≡ packed_head) where
  abbrev s : ℕ
  s = start list d (upto / stride)

  pub value : (j : ℕ) → s ≤ j → j < upto / stride → Value list (s - 1) j
  value j g h =
      value_at list u.passed (s - 1) packed (omega (arith, n.some, n.head, u.aligned, u.inside)) (upto / stride) (omega (arith, u.aligned, u.inside))
      (λ i l m. omega (arith, start_low list d (upto / stride) n.head, start_over list d (upto / stride) i (omega (arith, n.head)) m)) j (omega (arith, n.head)) h

  pub depth : (j : ℕ) → s ≤ j → j < upto / stride → depth_at list j ≡ d
  depth j g h =
      omega (arith, (value j g h).depth, (value s (omega arith) n.some).depth, start_low list d (upto / stride) n.head, start_over list d (upto / stride) s (omega arith) n.some)

  last : get_or list (upto - kind_back) 0 ≡ kind_at list (s - 1 + 1)
  last =
      let l : ℕ = upto / stride - 1 in
      let there : upto - kind_back ≡ stride * l + kind_column = omega (arith, u.aligned, n.some) in
      ap (λ (i : ℕ). get_or list i 0) there ∙ (value l (omega (arith, n.some)) (omega (arith, n.some))).kind

  pub scalar : is_scalar (shape (get_or list (upto - kind_back) 0)) ≡ true
  scalar = ap (λ (k : ℕ). is_scalar (shape k)) last ∙ values_scalar list u.passed (s - 1) packed (omega (arith, n.some, n.head, u.aligned, u.inside))

  pub kind : (j : ℕ) → s ≤ j → j < upto / stride → kind_at list j ≡ get_or list (upto - kind_back) 0
  kind j g h = (value j g h).kind ∙ sym last

-- ---- what looking back for the head says

by_found : (b : Bool) (first x upto : ℕ) → first ≡ (if b then x else upto) → first < upto → (b ≡ true) × (first ≡ x)
by_found true first x upto e h = (refl, e)
by_found false first x upto e h = absurd (omega arith)

by_none : (b : Bool) (first x upto : ℕ) → first ≡ (if b then x else upto) → x < upto → upto ≤ first → b ≡ false
by_none true first x upto e h l = absurd (omega arith)
by_none false first x upto e h l = refl

module _ {table list payload out : List ℕ} {d upto pos first : ℕ} (r : Run (not (is_packed list d upto)) table list payload out d upto pos) (n : Inner list d upto)
    (found : first ≡ (if is_packed list d upto then stride * start list d (upto / stride) else upto)) where
  module _ (h : first < upto) where
    is_packed_lem : (is_packed list d upto ≡ true) × (first ≡ stride * start list d (upto / stride))
    is_packed_lem = by_found (is_packed list d upto) first (stride * start list d (upto / stride)) upto found h

    begins : first / stride ≡ start list d (upto / stride)
    begins = omega (arith, is_packed_lem.1)

    bytes : run_bytes (not (is_packed list d upto)) list payload d upto ≡ bytes_in false payload (span list (first / stride) (upto / stride))
    bytes =
        ap (λ (b : Bool). run_bytes (not b) list payload d upto) is_packed_lem.0
        ∙ ap (λ (i : ℕ). bytes_in false payload (span list i (upto / stride))) (sym begins)

    pub values : Values table list payload out first upto pos
    values =
        let head = eqb-true (kind_at list (start list d (upto / stride) - 1)) packed_head is_packed_lem.0 in
        record {
          types = r.types;
          aligned = omega (arith, is_packed_lem.1);
          ends = r.ends;
          some = h;
          kinds = λ j g l. kind r.ends n head j (omega (arith, begins)) l;
          depths = λ j g l. depth r.ends n head j (omega (arith, begins)) l ∙ sym (depth r.ends n head (first / stride) (omega (arith, begins)) (omega (arith, begins, n.some)));
          scalar = scalar r.ends n head;
          room = room_as bytes r.room;
        }

    pub ran_values : {p : ℕ} {now : List ℕ} → Stored (bytes_in false payload (span list (first / stride) (upto / stride))) pos out p now
        → Ran (not (is_packed list d upto)) list payload out d upto pos first p now
    ran_values s = record { begins = is_packed_lem.1; stored = stored_as (sym bytes) s }

  module _ (h : upto ≤ first) where
    tagged : not (is_packed list d upto) ≡ true
    tagged = ap not (by_none (is_packed list d upto) first (stride * start list d (upto / stride)) upto found (omega (arith, n.some, r.ends.aligned)) h)

    pub run : Run true table list payload out d upto pos
    run = subst (λ (b : Bool). Run b table list payload out d upto pos) tagged r

    pub ran_run : {b p : ℕ} {now : List ℕ} → Ran true list payload out d upto pos b p now → Ran (not (is_packed list d upto)) list payload out d upto pos b p now
    ran_run {b} {p} {now} x = subst (λ (t : Bool). Ran t list payload out d upto pos b p now) (sym tagged) x
