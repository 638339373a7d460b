-- `trip::copy_onward` meets its contract, by the promises of its steps. Assumes nothing.
use native.Mathlib.Omega.{arith}
use mathlib.Core.Path.{ap, ap₂, ◌∙◌}
use lib.ListN.{length, take, length-take}
use Rattle.spec.specs.Schema.{schema_of}
use Rattle.spec.specs.Record.{records_of}
use Rattle.sizes.specs.Answers.{Tells}
use Rattle.trip.specs.Copy.{writes}
use Rattle.trip.proofs.CopyLaws.{writing_leaves, told_size}
use Rattle.trip.proofs.TripLaws.{copied, demand_3}
use Rattle.trip.proofs.copy_onward.Goals as goal

pub slice_bounds-message-end : goal.slice_bounds-message-end
slice_bounds-message-end c =
    let a = c.args in
    let new = schema_of a.newer_types a.newer.now in
    let l = writing_leaves new a.payload.now (records_of a.list.now) a.bytes.now in
    let w = c.write-wrote.ensures in
    let t : Tells (writes new a.list.now a.payload.now a.bytes.now) c.write-wrote.result = record { number = w.number; size = w.size; index = w.index } in
    omega (arith, c.unwrap_or.ensures ∙ told_size _ c.write-wrote.result t ∙ l.size_is, ap length w.output, l.fits, l.kept)

pub slice_bounds-message-end-2 : goal.slice_bounds-message-end-2
slice_bounds-message-end-2 c =
    let a = c.args in
    let new = schema_of a.newer_types a.newer.now in
    let l = writing_leaves new a.payload.now (records_of a.list.now) a.bytes.now in
    let w = c.write-wrote.ensures in
    let t : Tells (writes new a.list.now a.payload.now a.bytes.now) c.write-wrote.result = record { number = w.number; size = w.size; index = w.index } in
    omega (arith, length-take c.unwrap_or.result c.write-wrote.new.out, c.unwrap_or.ensures ∙ told_size _ c.write-wrote.result t ∙ l.size_is, ap length w.output, l.fits, l.kept)

pub returns : goal.returns
returns c =
    let a = c.args in
    let new = schema_of a.newer_types a.newer.now in
    let old = schema_of a.older_types a.older.now in
    let l = writing_leaves new a.payload.now (records_of a.list.now) a.bytes.now in
    let w = c.write-wrote.ensures in
    let t : Tells (writes new a.list.now a.payload.now a.bytes.now) c.write-wrote.result = record { number = w.number; size = w.size; index = w.index } in
    let sent_is = ap₂ take (c.unwrap_or.ensures ∙ told_size _ c.write-wrote.result t ∙ l.size_is) w.output ∙ l.front in
    let all = copied new old a.list.now a.payload.now a.bytes.now a.room.now a.again.now (t, w.output) sent_is c.pass_on-read.ensures in
    (all, λ d. demand_3 new old a.list.now a.payload.now a.bytes.now a.room.now a.again.now d all)
