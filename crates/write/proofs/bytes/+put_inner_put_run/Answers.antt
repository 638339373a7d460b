-- The cycle of calls {put_inner, put_run}: a run's records from the last to the first, and the run in each. Assumes nothing.
use Prim.Native.Nat.{ℕ, ◌-◌, ◌/◌, ◌<◌}
use mathlib.Core.Path.{◌≡◌, sym, ap}
use mathlib.Core.Bool.{true}
use mathlib.Core.List.{List, ◌++◌}
use native.Mathlib.Omega.{arith}
use lib.ListN.{get_or}
use Rattle.spec.specs.Record.{stride}
use Rattle.spec.specs.Writing.{tag_of}
use Rattle.write.specs.Backward.{at, lead_of}
use Rattle.write.proofs.InnerLaws.{values}
use Rattle.write.proofs.BackTurn.{Turned, begin, ran_all, ran_to, inner_run, inner_in_lem, falls as level-falls, none_in, head_here, below, here, room, again, less}
use Rattle.write.proofs.HereLaws.{leads, head_is}
use Rattle.write.proofs.StoreLaws.{stored_as, room_as}
use Rattle.write.proofs.bytes.+put_inner_put_run.Goals as goal
use Rattle.write.proofs.bytes.+put_inner_put_run.Goals.{put_run-Else-d-depth}

-- ---- put_inner

pub put_inner-put_values-p-requires : goal.put_inner-put_values-p-requires
put_inner-put_values-p-requires t c = values c.requires.0 c.requires.1 c.packed_from-first.ensures c.if-first-upto.true

-- ---- put_run

pub put_run-loop-b-init : goal.put_run-loop-b-init
put_run-loop-b-init t c = begin c.requires

pub put_run-returns-then-d-depth : goal.put_run-returns-then-d-depth
put_run-returns-then-d-depth t c = ran_to c.requires c.loop-b.invariant c.loop-b-test.true c.if-d-depth.true

-- in an iteration of the loop
turned : (t : ℕ) (c : put_run-Else-d-depth t) →
    let a = c.args in
    let l = c.loop-b in
    Turned a.table.now a.list.now a.payload.now a.out.now a.depth a.upto a.pos l.b l.p l.out
turned t c = record {
  run = c.requires;
  back = c.loop-b.invariant;
  more = c.loop-b-test.true;
  deep = c.if-d-depth.false;
}

-- nothing lies in a record at the run's own depth
alone : (list payload : List ℕ) (b p : ℕ) → tag_of true (at list (b / stride)) ++ lead_of list payload b (p - p) ≡ tag_of true (at list (b / stride)) ++ lead_of list payload b 0
alone list payload b p = let none : p - p ≡ 0 = omega arith in ap (λ (n : ℕ). tag_of true (at list (b / stride)) ++ lead_of list payload b n) none

pub put_run-put_leaf-r-requires : goal.put_run-put_leaf-r-requires
put_run-put_leaf-r-requires t c =
    let w = turned t (goal.at.put_run-put_leaf-r-requires t c).Else-d-depth in
    let x = none_in w (omega (arith, c.if-d-depth-2.true)) in
    (c.requires.types, here w x, room_as (alone c.args.list.now c.args.payload.now (c.loop-b.b - stride) c.loop-b.p) (room w x))

pub put_run-loop-b-preserved-then-d-depth-2 : goal.put_run-loop-b-preserved-then-d-depth-2
put_run-loop-b-preserved-then-d-depth-2 t c =
    let w = turned t (goal.at.put_run-loop-b-preserved-then-d-depth-2 t c).Else-d-depth in
    again w (none_in w (omega (arith, c.if-d-depth-2.true)))
    (stored_as (sym (alone c.args.list.now c.args.payload.now (c.loop-b.b - stride) c.loop-b.p)) c.put_leaf-r.ensures)

-- what lies in it
pub put_run-put_inner-r-requires : goal.put_run-put_inner-r-requires
put_run-put_inner-r-requires t c =
    let w = turned t (goal.at.put_run-put_inner-r-requires t c).Else-d-depth in
    let more : c.args.depth < get_or c.args.list.now (c.loop-b.b - stride) 0 = omega arith in
    (omega (arith, level-falls w more), (inner_run w more, inner_in_lem w more))

pub put_run-overflow_sub-b-else-d-depth-2 : goal.put_run-overflow_sub-b-else-d-depth-2
put_run-overflow_sub-b-else-d-depth-2 t c = below (turned t (goal.at.put_run-overflow_sub-b-else-d-depth-2 t c).Else-d-depth) c.put_inner-r.ensures

-- and its head in front
pub put_run-put_head-p-requires : goal.put_run-put_head-p-requires
put_run-put_head-p-requires t c =
    let w = turned t (goal.at.put_run-put_head-p-requires t c).Else-d-depth in
    let x = c.put_inner-r.ensures in
    let h = here w x in
    (leads h c.requires.types, omega (arith, x.stored.starts), room_as (sym (head_is h _ c.requires.types (head_here w x (omega arith)))) (room w x))

pub put_run-loop-b-smaller : goal.put_run-loop-b-smaller
put_run-loop-b-smaller t c = less (turned t (goal.at.put_run-loop-b-smaller t c).Else-d-depth) c.put_inner-r.ensures

pub put_run-loop-b-preserved : goal.put_run-loop-b-preserved
put_run-loop-b-preserved t c =
    let w = turned t (goal.at.put_run-loop-b-preserved t c).Else-d-depth in
    let x = c.put_inner-r.ensures in
    again w x (stored_as (head_is (here w x) _ c.requires.types (head_here w x (omega arith))) c.put_head-p.ensures)

pub put_run-returns : goal.put_run-returns
put_run-returns t c = ran_all c.requires c.loop-b.invariant (omega arith)
