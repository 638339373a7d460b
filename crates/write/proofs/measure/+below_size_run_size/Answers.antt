-- The cycle of calls {below_size, run_size}: what a run of records takes, and what lies below a head. Assumes nothing.
use Prim.Native.Nat.{ℕ, ◌+◌, ◌*◌, ◌<◌}
use mathlib.Core.Path.{◌≡◌, sym, ◌∙◌}
use mathlib.Core.Bool.{true}
use mathlib.Core.List.{List}
use native.Mathlib.Omega.{arith}
use lib.ListN.{length, get_or}
use Rattle.spec.specs.Names.{kind_column, number_column}
use Rattle.spec.specs.Record.{stride}
use Rattle.spec.specs.Varint.{size, tag_size}
use Rattle.spec.specs.Kind.{wire}
use Rattle.spec.proofs.RunLaws.{kind_small}
use Rattle.sizes.proofs.ValueSizes.{size_most}
use Rattle.list.proofs.FitLaws.{type_of}
use Rattle.write.specs.Summing.{Lent}
use Rattle.write.proofs.KindLaws.{head}
use Rattle.write.proofs.Turn.{Here, ended, stopped, whole, fit, number_turn, content_turn, head_turn, below, is_scalar_lem, content}
use Rattle.write.proofs.measure.+below_size_run_size.Goals as goal
use Rattle.write.proofs.measure.+below_size_run_size.Goals.{run_size-After-plain_size-size, run_size-Joined-is_head, run_size-then-is_head, run_size-else-is_head}

-- ---- a run of records: one is here, whole

pub run_size-returns-then-list-at : goal.run_size-returns-then-list-at
run_size-returns-then-list-at t c = stopped c.loop-at.invariant c.loop-at-test.true c.if-list-at.true

pub run_size-bounds-list-at-in-loop-at : goal.run_size-bounds-list-at-in-loop-at
run_size-bounds-list-at-in-loop-at t c = omega (arith, whole c.loop-at.invariant c.loop-at-test.true)

pub run_size-bounds-list-at-in-loop-at-2 : goal.run_size-bounds-list-at-in-loop-at-2
run_size-bounds-list-at-in-loop-at-2 t c = omega (arith, whole c.loop-at.invariant c.loop-at-test.true)

pub run_size-bounds-table-kind : goal.run_size-bounds-table-kind
run_size-bounds-table-kind t c = omega (arith, kind_small (fit c.loop-at.invariant c.loop-at-test.true))

pub run_size-tag_size-size-requires : goal.run_size-tag_size-size-requires
run_size-tag_size-size-requires t c = (fit c.loop-at.invariant c.loop-at-test.true).small

pub run_size-overflow_add-size : goal.run_size-overflow_add-size
run_size-overflow_add-size t c =
    let h = c.loop-at.invariant in
    omega (arith, h.bound, h.inside, c.requires.lent.few, c.tag_size-size.ensures, size_most (get_or c.args.list.now (c.loop-at.at + number_column) 0 * 8))

-- its wire type, as the table has it
wire_here : {table list : List ℕ} {from d at sum : ℕ} → Lent table list → Here true list from d at sum → at < length list
    → get_or table (get_or list (at + kind_column) 0) 0 ≡ wire (get_or list (at + kind_column) 0)
wire_here lent h lt = type_of _ _ lent.types (kind_small (fit h lt))

-- ---- a record that is one number

pub run_size-bounds-list-at-then-w-ne-DELIMITED : goal.run_size-bounds-list-at-then-w-ne-DELIMITED
run_size-bounds-list-at-then-w-ne-DELIMITED t c = omega (arith, whole c.loop-at.invariant c.loop-at-test.true)

pub run_size-plain_size-size-requires : goal.run_size-plain_size-size-requires
run_size-plain_size-size-requires t c =
    let w = wire_here c.requires.lent c.loop-at.invariant c.loop-at-test.true in
    (w, is_scalar_lem c.loop-at.invariant c.loop-at-test.true c.if-list-at.false (λ p. c.if-w-ne-DELIMITED.true (w ∙ p)))

-- after it
number_here : (t : ℕ) (c : run_size-After-plain_size-size t) →
    Here true c.args.list.now c.args.from c.args.depth (c.loop-at.at + stride) (c.loop-at.size + c.tag_size-size.result + c.plain_size-size.result)
number_here t c =
    rw (c.tag_size-size.ensures, c.plain_size-size.ensures)
    (number_turn c.loop-at.invariant c.loop-at-test.true c.if-list-at.false (λ p. c.if-w-ne-DELIMITED.true (wire_here c.requires.lent c.loop-at.invariant c.loop-at-test.true ∙ p)))

pub run_size-overflow_add-size-then-w-ne-DELIMITED :
    goal.run_size-overflow_add-size-then-w-ne-DELIMITED
run_size-overflow_add-size-then-w-ne-DELIMITED t c =
    let h = number_here t c in
    omega (arith, h.bound, h.inside, c.requires.lent.few)

pub run_size-loop-at-preserved-then-w-ne-DELIMITED :
    goal.run_size-loop-at-preserved-then-w-ne-DELIMITED
run_size-loop-at-preserved-then-w-ne-DELIMITED t c = number_here t c

-- ---- a head, and what lies below it

pub run_size-overflow_add-depth : goal.run_size-overflow_add-depth
run_size-overflow_add-depth t c = omega (arith, (fit c.loop-at.invariant c.loop-at-test.true).shallow, c.if-list-at.false)

pub run_size-below_size-r-requires : goal.run_size-below_size-r-requires
run_size-below_size-r-requires t c =
    let h = c.loop-at.invariant in (
      omega (arith, whole h c.loop-at-test.true, h.before),
      below h c.loop-at-test.true c.if-list-at.false c.requires.lent (head _ (sym c.is_head.ensures ∙ c.if-is_head.true)),
    )

-- ---- a content

pub run_size-bounds-list-at-else-is_head : goal.run_size-bounds-list-at-else-is_head
run_size-bounds-list-at-else-is_head t c = omega (arith, whole c.loop-at.invariant c.loop-at-test.true)

pub run_size-bounds-list-at-else-is_head-2 : goal.run_size-bounds-list-at-else-is_head-2
run_size-bounds-list-at-else-is_head-2 t c = omega (arith, whole c.loop-at.invariant c.loop-at-test.true)

pub run_size-overflow_sub-list : goal.run_size-overflow_sub-list
run_size-overflow_sub-list t c =
    let h = c.loop-at.invariant in
    let lt = c.loop-at-test.true in
    (content h lt c.if-list-at.false (sym (wire_here c.requires.lent h lt) ∙ c.if-w-ne-DELIMITED.false) (sym c.is_head.ensures ∙ c.if-is_head.false)).in_order

-- ---- after a head or a content

after_here : (t : ℕ) (c : run_size-Joined-is_head t) →
    (c.loop-at.at < c.if-is_head.at)
    × Here true c.args.list.now c.args.from c.args.depth c.if-is_head.at
    (c.loop-at.size + tag_size (get_or c.args.list.now (c.loop-at.at + number_column) 0) + (size c.if-is_head.n + c.if-is_head.n))
after_here t c =
    let h = c.loop-at.invariant in
    let lt = c.loop-at-test.true in
    let same = c.if-list-at.false in
    elim c.if-is_head.branch [
      | run_size-then-is_head w ↦
          let s = w.below_size-r.ensures in
          rw (w.at-is, w.n-is) (omega (arith, s.place), head_turn h lt same _ _ (head _ (sym c.is_head.ensures ∙ w.if-is_head.true)) s)
      | run_size-else-is_head w ↦
          rw (w.at-is, w.n-is)
          (omega arith, content_turn h lt same _ (sym (wire_here c.requires.lent h lt) ∙ c.if-w-ne-DELIMITED.false) (sym c.is_head.ensures ∙ w.if-is_head.false) w.cut-n.ensures)
    ]

pub run_size-overflow_add-size-else-w-ne-DELIMITED :
    goal.run_size-overflow_add-size-else-w-ne-DELIMITED
run_size-overflow_add-size-else-w-ne-DELIMITED t c =
    let h = after_here t (goal.at.run_size-overflow_add-size-else-w-ne-DELIMITED t c).Joined-is_head in
    omega (arith, h.0, h.1.bound, h.1.inside, c.requires.lent.few, c.compute_raw_varint64_size.ensures, c.tag_size-size.ensures)

pub run_size-overflow_add-size-else-w-ne-DELIMITED-2 :
    goal.run_size-overflow_add-size-else-w-ne-DELIMITED-2
run_size-overflow_add-size-else-w-ne-DELIMITED-2 t c =
    let h = after_here t (goal.at.run_size-overflow_add-size-else-w-ne-DELIMITED-2 t c).Joined-is_head in
    omega (arith, h.0, h.1.bound, h.1.inside, c.requires.lent.few, c.compute_raw_varint64_size.ensures, c.tag_size-size.ensures)

pub run_size-loop-at-preserved : goal.run_size-loop-at-preserved
run_size-loop-at-preserved t c =
    rw (c.compute_raw_varint64_size.ensures, c.tag_size-size.ensures) (after_here t (goal.at.run_size-loop-at-preserved t c).Joined-is_head).1

pub run_size-returns : goal.run_size-returns
run_size-returns t c = ended c.loop-at.invariant c.loop-at-test.false
