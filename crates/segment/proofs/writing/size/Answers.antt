-- `segment::writing::size` meets its contract. Assumes nothing.
use Rattle.std.proofs.lemmas.Result.{err_from_is_err_and}
use Rattle.spec.specs.Base.{limit}
use Rattle.segment.specs.Segment.{ranges_of, sizing}
use Rattle.segment.proofs.JudgeLaws.{tells_bad, tells_size}
use Rattle.segment.proofs.writing.size.Goals as goal

pub returns-in_err-judge : goal.returns-in_err-judge
unfolding sizing
returns-in_err-judge c =
    let p = err_from_is_err_and c.from_residual.result c.from_residual.ensures.1 in
    let t = tells_bad limit c.args.payload.now (ranges_of c.args.ranges.now) c.in_err-judge.ensures in
    rw (p.1, p.2) (t.number, t.size, t.index)

pub returns : goal.returns
unfolding sizing
returns c =
    let t = tells_size limit c.args.payload.now (ranges_of c.args.ranges.now) c.by_size.result c.in_ok-judge.ensures c.by_size.ensures in
    (t.number, t.size, t.index)
