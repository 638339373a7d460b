-- `segment::writing::put_segment` meets its contract. Assumes nothing.
use native.Mathlib.Omega.{arith}
use mathlib.Core.Path.{ap, ◌∙◌}
use Prim.Native.Nat.{ℕ}
use mathlib.Core.List.{List, ◌++◌}
use lib.ListN.{drop, length-take}
use lib.Seq.{sets}
use Rattle.segment.specs.Segment.{front_size, messages, ranges_of, contents_of}
use Rattle.segment.proofs.PutLaws.{front_room, front_stored, fronted_all, going_first, gone, in_payload, has_room, going_next}
use Rattle.segment.proofs.writing.put_segment.Goals as goal

pub slice_bounds-copy_from_slice-end : goal.slice_bounds-copy_from_slice-end
slice_bounds-copy_from_slice-end c = front_room (contents_of c.args.payload.now (ranges_of c.args.ranges.now)) c.requires.1

pub slice_bounds-copy_from_slice-end-2 : goal.slice_bounds-copy_from_slice-end-2
slice_bounds-copy_from_slice-end-2 c = omega (arith, length-take 5 c.args.out.now, front_room (contents_of c.args.payload.now (ranges_of c.args.ranges.now)) c.requires.1)

pub copy_from_slice-requires : goal.copy_from_slice-requires
copy_from_slice-requires c = omega (arith, length-take 5 c.args.out.now, front_room (contents_of c.args.payload.now (ranges_of c.args.ranges.now)) c.requires.1)

pub loop-range-init : goal.loop-range-init
loop-range-init c =
    let fits = front_room (contents_of c.args.payload.now (ranges_of c.args.ranges.now)) c.requires.1 in
    let stored = ap (λ (x : List ℕ). x ++ drop 5 c.args.out.now) c.copy_from_slice.ensures.after ∙ front_stored c.args.out.now fits in
    rw c.into_iter-range-iterator.ensures.into_iter_gives (
      c.chunks_exact-range-items.ensures.size,
      going_first c.args.ranges.now c.args.payload.now c.args.out.now c.requires.0 c.requires.1 stored c.chunks_exact-range-items.ensures.rest,
    )

pub slice_bounds-put_message-count : goal.slice_bounds-put_message-count
slice_bounds-put_message-count c =
    let s = c.in-Some.ensures.steps in
    let i = c.loop-range.invariant in
    (in_payload i.1 c.in-Some.range.now _ s.1.0 (omega (arith, s.1.1))).0

pub slice_bounds-put_message-start : goal.slice_bounds-put_message-start
slice_bounds-put_message-start c =
    let s = c.in-Some.ensures.steps in
    let i = c.loop-range.invariant in
    (in_payload i.1 c.in-Some.range.now _ s.1.0 (omega (arith, s.1.1))).0

pub slice_bounds-put_message-end : goal.slice_bounds-put_message-end
slice_bounds-put_message-end c =
    let s = c.in-Some.ensures.steps in
    let i = c.loop-range.invariant in
    (in_payload i.1 c.in-Some.range.now _ s.1.0 (omega (arith, s.1.1))).1

pub put_message-at-requires : goal.put_message-at-requires
put_message-at-requires c =
    let s = c.in-Some.ensures.steps in
    let i = c.loop-range.invariant in
    has_room i.1 c.in-Some.range.now _ s.1.0 (omega (arith, s.1.1))

pub loop-range-preserved : goal.loop-range-preserved
loop-range-preserved c =
    let s = c.in-Some.ensures.steps in
    let i = c.loop-range.invariant in
    (s.0 ∙ i.0, going_next i.1 c.in-Some.range.now _ s.1.0 (omega (arith, s.1.1)) c.put_message-at.ensures.0 c.put_message-at.ensures.1)

pub returns : goal.returns
returns c =
    let s = c.in-None.ensures.steps in
    let i = c.loop-range.invariant in
    let ms = contents_of c.args.payload.now (ranges_of c.args.ranges.now) in
    let stored = ap (λ (x : List ℕ). x ++ drop 5 c.args.out.now) c.copy_from_slice.ensures.after ∙ front_stored c.args.out.now (front_room ms c.requires.1) in
    gone i.1 (omega (arith, s.1)) ∙ ap (λ (x : List ℕ). sets x front_size (messages ms)) stored ∙ fronted_all ms c.args.out.now
