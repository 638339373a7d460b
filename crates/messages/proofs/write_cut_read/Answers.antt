-- `messages::write_cut_read` meets its contract, by the promises of its two steps alone. Assumes nothing.
use Prim.Native.Nat.{min}
use native.Mathlib.Omega.{arith}
use mathlib.Core.Path.{ap, ap₂, ◌∙◌}
use lib.ListN.{length, take, length-take}
use Rattle.segment.specs.Segment.{ranges_of}
use Rattle.spec.specs.Writing.{sent_size}
use Rattle.messages.specs.Torn.{writes}
use Rattle.spec.proofs.SizeLaws.{answered_leaves}
use Rattle.spec.proofs.ToldLaws.{told_sent}
use Rattle.segment.proofs.SegmentLaws.{writing_answered}
use Rattle.messages.proofs.StepLaws.{sent_cut}
use Rattle.messages.proofs.MessageLaws.{cut_short, left}
use Rattle.messages.proofs.write_cut_read.Goals as goal

pub slice_bounds-read-end : goal.slice_bounds-read-end
slice_bounds-read-end c =
    let a = c.args in
    let l = answered_leaves a.out.now (writing_answered (length a.out.now) a.payload.now (ranges_of a.ranges.now)) in
    let h = c.write-wrote.ensures in
    omega (arith, c.min-size.ensures, c.unwrap_or.ensures ∙ told_sent c.write-wrote.result ∙ ap₂ sent_size h.0 h.1 ∙ l.size_is, l.fits, l.kept, ap length h.3)

pub slice_bounds-read-end-2 : goal.slice_bounds-read-end-2
slice_bounds-read-end-2 c =
    let a = c.args in
    let l = answered_leaves a.out.now (writing_answered (length a.out.now) a.payload.now (ranges_of a.ranges.now)) in
    let h = c.write-wrote.ensures in
    omega (arith, length-take c.min-size.result c.write-wrote.new.out, c.min-size.ensures, c.unwrap_or.ensures ∙ told_sent c.write-wrote.result ∙ ap₂ sent_size h.0 h.1 ∙ l.size_is, l.fits, l.kept, ap length h.3)

pub returns : goal.returns
returns c =
    let a = c.args in
    let l = answered_leaves a.out.now (writing_answered (length a.out.now) a.payload.now (ranges_of a.ranges.now)) in
    let h = c.write-wrote.ensures in
    let size = c.min-size.ensures ∙ ap (min a.cut) (c.unwrap_or.ensures ∙ told_sent c.write-wrote.result ∙ ap₂ sent_size h.0 h.1 ∙ l.size_is) in
    let same = ap (take c.min-size.result) h.3 ∙ sent_cut (writes a.ranges.now a.payload.now a.out.now) a.out.now a.cut _ l size in
    let all = cut_short a.ranges.now a.payload.now a.cut a.out.now a.room.now _ h same c.read-read.ensures in
    (all, λ g. left a.ranges.now a.payload.now a.cut a.out.now a.room.now g _ _ _ all)
