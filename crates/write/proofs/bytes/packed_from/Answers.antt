-- `write::bytes::packed_from` meets its contract: where the run's head is packed, all records of the run stand at one depth and have one number.
-- Assumes nothing.
use Prim.Native.Nat.{ℕ, ◌+◌, ◌-◌, ◌*◌, ◌/◌, ◌≤◌, ◌<◌}
use mathlib.Core.Path.{◌≡◌, sym, ap, ◌∙◌, subst}
use mathlib.Core.Logic.{◌≢◌}
use mathlib.Core.List.{List}
use native.Mathlib.Omega.{arith}
use borrow.Author.Tests.{eq-eqb, ne_eqb}
use lib.ListN.{length, get_or}
use Rattle.spec.specs.Names.{kind_column, number_column, packed_head}
use Rattle.spec.specs.Record.{stride}
use Rattle.std.specs.Prelude.{if◌then◌else◌}
use Rattle.spec.proofs.VarintLaws.{lower_or_not}
use Rattle.write.specs.Backward.{depth_at, kind_at, start, Upto, Inner, is_packed, number_back, kind_back}
use Rattle.write.proofs.SpanLaws.{start_le, start_over, start_low}
use Rattle.write.proofs.InnerLaws.{value, depth}
use Rattle.write.proofs.bytes.packed_from.Goals as goal
use Rattle.write.proofs.bytes.packed_from.Goals.{At-loop-b}
use Rattle.write.proofs.bytes.packed_from.Invariants.{Back}

module _ {list : List ℕ} {d upto : ℕ} (u : Upto list upto) (n : Inner list d upto) where
  abbrev s : ℕ
  s = start list d (upto / stride)

  begin : Back list d upto upto
  begin = record { aligned = u.aligned; low = start_le list d (upto / stride); high = omega arith }

  upto_is : kind_at list (s - 1) ≢ packed_head → upto ≡ (if is_packed list d upto then stride * s else upto)
  upto_is h = simp (ne_eqb (kind_at list (s - 1)) packed_head h)

  module _ {b : ℕ} (h : Back list d upto b) where
    abbrev j : ℕ
    j = (b - stride) / stride

    near : (stride ≤ b) × (j < upto / stride) × (b / stride ≡ j + 1) × (b - stride ≡ stride * j)
    near = (omega (arith, n.head, h.low, h.aligned), omega (arith, n.head, h.low, h.aligned, h.high, u.aligned), omega (arith, n.head, h.low, h.aligned), omega (arith, n.head, h.low, h.aligned))

    read : (k m : ℕ) → m ≡ stride * j + k → get_or list m 0 ≡ get_or list (stride * j + k) 0
    read k m e = ap (λ (i : ℕ). get_or list i 0) e

    depth_is : get_or list (b - stride) 0 ≡ depth_at list j
    depth_is = ap (λ (i : ℕ). get_or list i 0) near.3

    -- where the record before b is no less deep, it is of the run
    in_run : d ≤ depth_at list j → s ≤ j
    in_run l =
        lower_or_not j s
        (λ b. let same : s - 1 ≡ j = omega (arith, h.low, near.2) in
        absurd (omega (arith, subst (λ (i : ℕ). depth_at list i < d) same (start_low list d (upto / stride) n.head))))
        (λ b. b)

    out_run : depth_at list j < d → s ≡ j + 1
    out_run l =
        lower_or_not j s
        (λ b. omega (arith, h.low, near.2))
        (λ b. absurd (omega (arith, start_over list d (upto / stride) j b near.1)))

    again : get_or list (b - stride) 0 ≡ d → Back list d upto (b - stride)
    again e = record { aligned = near.3; low = in_run (omega (arith, depth_is)); high = omega (arith, h.high) }

    -- another number, another depth
    other_number : get_or list (b - stride) 0 ≡ d → get_or list (b - number_back) 0 ≢ get_or list (upto - number_back) 0 → kind_at list (s - 1) ≢ packed_head
    other_number e f packed =
        let l : ℕ = upto / stride - 1 in
        let last : upto - number_back ≡ stride * l + number_column = omega (arith, u.aligned, n.some) in
        let here = (value u n packed j (in_run (omega (arith, depth_is))) near.1).number in
        let there = (value u n packed l (omega (arith, n.some)) (omega (arith, n.some))).number in
        f (read number_column (b - number_back) (omega (arith, near.0, near.3)) ∙ here ∙ sym there ∙ sym (ap (λ (i : ℕ). get_or list i 0) last))

    other_depth : get_or list (b - stride) 0 ≢ d → d ≤ get_or list (b - stride) 0 → kind_at list (s - 1) ≢ packed_head
    other_depth e l packed = e (depth_is ∙ depth u n packed j (in_run (omega (arith, depth_is))) near.1)

    found : get_or list (b - kind_back) 0 ≡ packed_head → get_or list (b - stride) 0 < d → b ≡ (if is_packed list d upto then stride * s else upto)
    found e l =
        let same : s - 1 ≡ j = omega (arith, out_run (omega (arith, depth_is))) in
        let k : kind_at list (s - 1) ≡ packed_head = ap (kind_at list) same ∙ sym (read kind_column (b - kind_back) (omega (arith, near.0, near.3))) ∙ e in
        simp (eq-eqb (kind_at list (s - 1)) packed_head k) (omega (arith, out_run (omega (arith, depth_is)), near.2, h.aligned))

    other_kind : get_or list (b - kind_back) 0 ≢ packed_head → get_or list (b - stride) 0 ≢ d → kind_at list (s - 1) ≢ packed_head
    other_kind e f packed =
        lower_or_not (get_or list (b - stride) 0) d
        (λ l. let same : s - 1 ≡ j = omega (arith, out_run (omega (arith, depth_is))) in
        e (read kind_column (b - kind_back) (omega (arith, near.0, near.3)) ∙ sym (ap (kind_at list) same) ∙ packed))
        (λ l. other_depth f l packed)

pub overflow_sub-number : goal.overflow_sub-number
overflow_sub-number c = omega (arith, c.requires.0.aligned, c.requires.1.some)

pub offset_bounds-list-upto : goal.offset_bounds-list-upto
offset_bounds-list-upto c = omega (arith, c.requires.0.inside)

pub bounds-list-upto : goal.bounds-list-upto
bounds-list-upto c = omega (arith, c.requires.0.aligned, c.requires.1.some, c.requires.0.inside)

pub loop-b-init : goal.loop-b-init
loop-b-init c = begin c.requires.0 c.requires.1

-- where the loop is
inside : (c : At-loop-b) → (stride ≤ c.loop-b.b) × (c.loop-b.b ≤ length c.args.list.now)
inside c =
    ((near c.requires.0 c.requires.1 c.loop-b.invariant).0, omega (arith, c.loop-b.invariant.high, c.requires.0.inside))

pub returns-then-list-b : goal.returns-then-list-b
returns-then-list-b c = upto_is c.requires.0 c.requires.1 (other_number c.requires.0 c.requires.1 c.loop-b.invariant c.loop-b-test.true c.if-list-b.true)

pub loop-b-preserved : goal.loop-b-preserved
loop-b-preserved c = again c.requires.0 c.requires.1 c.loop-b.invariant c.loop-b-test.true

pub returns-then-list-b-2 : goal.returns-then-list-b-2
returns-then-list-b-2 c = found c.requires.0 c.requires.1 c.loop-b.invariant c.if-list-b-eq-PACKED_HEAD.true c.if-list-b-2.true

pub returns-else-list-b-2 : goal.returns-else-list-b-2
returns-else-list-b-2 c = upto_is c.requires.0 c.requires.1 (other_depth c.requires.0 c.requires.1 c.loop-b.invariant c.loop-b-test.false c.if-list-b-2.false)

pub returns-else-list-b-eq-PACKED_HEAD : goal.returns-else-list-b-eq-PACKED_HEAD
returns-else-list-b-eq-PACKED_HEAD c = upto_is c.requires.0 c.requires.1 (other_kind c.requires.0 c.requires.1 c.loop-b.invariant c.if-list-b-eq-PACKED_HEAD.false c.loop-b-test.false)

pub overflow_sub-b : goal.overflow_sub-b
overflow_sub-b c = omega (arith, inside (goal.at.overflow_sub-b c).At-loop-b)

pub offset_bounds-list-b : goal.offset_bounds-list-b
offset_bounds-list-b c = omega (arith, inside (goal.at.offset_bounds-list-b c).At-loop-b)

pub bounds-list-b : goal.bounds-list-b
bounds-list-b c = omega (arith, inside (goal.at.bounds-list-b c).At-loop-b)

pub overflow_sub-b-in-loop-b : goal.overflow_sub-b-in-loop-b
overflow_sub-b-in-loop-b c = omega (arith, inside (goal.at.overflow_sub-b-in-loop-b c).At-loop-b)

pub offset_bounds-list-b-in-loop-b : goal.offset_bounds-list-b-in-loop-b
offset_bounds-list-b-in-loop-b c = omega (arith, inside (goal.at.offset_bounds-list-b-in-loop-b c).At-loop-b)

pub bounds-list-b-in-loop-b : goal.bounds-list-b-in-loop-b
bounds-list-b-in-loop-b c = omega (arith, inside (goal.at.bounds-list-b-in-loop-b c).At-loop-b)

pub overflow_sub-b-in-loop-b-2 : goal.overflow_sub-b-in-loop-b-2
overflow_sub-b-in-loop-b-2 c = omega (arith, inside (goal.at.overflow_sub-b-in-loop-b-2 c).At-loop-b)

pub loop-b-smaller : goal.loop-b-smaller
loop-b-smaller c = omega (arith, inside (goal.at.loop-b-smaller c).At-loop-b)

pub overflow_sub-b-2 : goal.overflow_sub-b-2
overflow_sub-b-2 c = omega (arith, inside (goal.at.overflow_sub-b-2 c).At-loop-b)

pub offset_bounds-list-b-2 : goal.offset_bounds-list-b-2
offset_bounds-list-b-2 c = omega (arith, inside (goal.at.offset_bounds-list-b-2 c).At-loop-b)

pub bounds-list-b-2 : goal.bounds-list-b-2
bounds-list-b-2 c = omega (arith, inside (goal.at.bounds-list-b-2 c).At-loop-b)

pub overflow_sub-b-then-list-b-eq-PACKED_HEAD : goal.overflow_sub-b-then-list-b-eq-PACKED_HEAD
overflow_sub-b-then-list-b-eq-PACKED_HEAD c = omega (arith, inside (goal.at.overflow_sub-b-then-list-b-eq-PACKED_HEAD c).At-loop-b)

pub offset_bounds-list-b-then-list-b-eq-PACKED_HEAD : goal.offset_bounds-list-b-then-list-b-eq-PACKED_HEAD
offset_bounds-list-b-then-list-b-eq-PACKED_HEAD c = omega (arith, inside (goal.at.offset_bounds-list-b-then-list-b-eq-PACKED_HEAD c).At-loop-b)

pub bounds-list-b-then-list-b-eq-PACKED_HEAD : goal.bounds-list-b-then-list-b-eq-PACKED_HEAD
bounds-list-b-then-list-b-eq-PACKED_HEAD c = omega (arith, inside (goal.at.bounds-list-b-then-list-b-eq-PACKED_HEAD c).At-loop-b)
