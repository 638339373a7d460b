-- `segment::writing::write` meets its contract. Assumes nothing.
use mathlib.Core.Path.{sym, ◌∙◌}
use lib.ListN.{length}
use Rattle.std.specs.Prelude.{Ok, Err}
use Rattle.std.proofs.lemmas.Result.{err_from_is_err_and}
use Rattle.wire.proofs.PutLaws.{at_front}
use Rattle.segment.specs.Segment.{segment, ranges_of, contents_of}
use Rattle.segment.proofs.JudgeLaws.{tells_bad, tells_size, untouched, written}
use Rattle.segment.proofs.writing.write.Goals as goal

pub returns-in_err-judge : goal.returns-in_err-judge
returns-in_err-judge c =
    let a = c.args in
    let p = err_from_is_err_and c.from_residual.result c.from_residual.ensures.1 in
    let t = tells_bad (length a.out.now) a.payload.now (ranges_of a.ranges.now) c.in_err-judge.ensures in
    rw (p.1, p.2) (t.number, t.size, t.index, untouched _ a.out.now c.in_err-judge.field-0.0 t)

pub returns-in_err-size : goal.returns-in_err-size
returns-in_err-size c =
    let a = c.args in
    let e = c.in_err-size.field-0.0 in
    let p = err_from_is_err_and c.from_residual-in_err-size.result c.from_residual-in_err-size.ensures.1 in
    let t = tells_size (length a.out.now) a.payload.now (ranges_of a.ranges.now) (Err e) c.in_ok-judge.ensures c.in_err-size.ensures in
    rw (p.1, p.2) (t.number, t.size, t.index, untouched _ a.out.now e t)

pub put_segment-requires : goal.put_segment-requires
put_segment-requires c =
    let a = c.args in
    let t = tells_size (length a.out.now) a.payload.now (ranges_of a.ranges.now) (Ok c.in_ok-size.size) c.in_ok-judge.ensures c.in_ok-size.ensures in
    let w = written (length a.out.now) a.payload.now (ranges_of a.ranges.now) a.out.now (sym t.number) in
    (w.0, w.1)

pub returns : goal.returns
returns c =
    let a = c.args in
    let t = tells_size (length a.out.now) a.payload.now (ranges_of a.ranges.now) (Ok c.in_ok-size.size) c.in_ok-judge.ensures c.in_ok-size.ensures in
    let w = written (length a.out.now) a.payload.now (ranges_of a.ranges.now) a.out.now (sym t.number) in (
      t.number,
      t.size,
      t.index,
      c.put_segment.ensures
          ∙ at_front (segment (contents_of a.payload.now (ranges_of a.ranges.now))) a.out.now w.1 ∙ sym w.2,
    )
