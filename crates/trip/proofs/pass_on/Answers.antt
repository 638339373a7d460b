-- `trip::pass_on` meets its contract, by the promises of `read` and `write`. Assumes nothing.
use Prim.Native.Nat.{ℕ}
use native.Mathlib.Omega.{arith}
use lib.ListN.{length-take}
use Rattle.spec.specs.Schema.{schema_of}
use Rattle.trip.proofs.CopyLaws.{count_fits, room_same}
use Rattle.trip.proofs.TripLaws.{passed_on}
use Rattle.trip.proofs.pass_on.Goals as goal

pub overflow_mul-records : goal.overflow_mul-records
overflow_mul-records c =
    let a = c.args in
    let h = c.read-got.ensures in
    omega (arith, c.stored.ensures, count_fits (schema_of a.types a.numbers.now) a.message.now a.room.now h.2 h.3)

pub slice_bounds-records-end : goal.slice_bounds-records-end
slice_bounds-records-end c =
    let a = c.args in
    let sch = schema_of a.types a.numbers.now in
    let h = c.read-got.ensures in
    omega (arith, c.stored.ensures, count_fits sch a.message.now a.room.now h.2 h.3, room_same sch a.message.now a.room.now h.2 h.3)

pub slice_bounds-records-end-2 : goal.slice_bounds-records-end-2
slice_bounds-records-end-2 c =
    let a = c.args in
    let sch = schema_of a.types a.numbers.now in
    let h = c.read-got.ensures in
    omega (arith, length-take {A = ℕ}, c.stored.ensures, count_fits sch a.message.now a.room.now h.2 h.3, room_same sch a.message.now a.room.now h.2 h.3)

pub returns : goal.returns
returns c =
    let a = c.args in
    let w = c.write-rewrote.ensures in
    passed_on (schema_of a.types a.numbers.now) a.message.now a.room.now a.again.now _ c.read-got.ensures
    (record { number = w.number; size = w.size; index = w.index }, w.output) (omega (arith, c.stored.ensures))
