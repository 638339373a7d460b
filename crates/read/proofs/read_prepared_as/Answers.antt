-- `read::read_prepared_as` meets its contract. Assumes nothing.
use Prim.Native.Nat.{◌/◌}
use native.Mathlib.Omega.{arith}
use Rattle.std.specs.Prelude.{Ok, Err}
use Rattle.spec.specs.Record.{stride}
use Rattle.read.specs.Emit.{counted}
use Rattle.std.proofs.lemmas.Result.{err_from_is_err_and}
use Rattle.spec.specs.declared.refusals.Refusal.TheVariants.{TooLarge}
use Rattle.spec.specs.Reading.{read}
use Rattle.read.specs.Prepared.{prepared}
use Rattle.read.proofs.CallLaws.{answers_refused, reading_long, answers_read, answers_stopped, answers_prepared}
use Rattle.read.proofs.read_prepared_as.Goals as goal

pub returns-then-s-gt-MOST_BYTES : goal.returns-then-s-gt-MOST_BYTES
returns-then-s-gt-MOST_BYTES c = answers_refused _ TooLarge 0 _ (reading_long _ _ _ _ c.if-s-gt-MOST_BYTES.true)

pub message-requires : goal.message-requires
message-requires c = omega (arith, c.if-s-gt-MOST_BYTES.false)

pub returns : goal.returns
returns c =
    let a = c.args in
    let look = prepared a.mode a.keys.now a.info.now in
    answers_prepared look a.s.now a.room.now c.message.new.room (Ok (c.in_ok-to.to / stride)) c.if-s-gt-MOST_BYTES.false (answers_read (read look 0 0 0 a.s.now) a.room.now c.message.new.room c.in_ok-to.ensures)

pub returns-in_err-to : goal.returns-in_err-to
returns-in_err-to c =
    let a = c.args in
    let look = prepared a.mode a.keys.now a.info.now in
    let p = err_from_is_err_and c.from_residual.result c.from_residual.ensures.1 in
    rw (p.1, p.2) (answers_prepared look a.s.now a.room.now c.message.new.room (Err (counted c.in_err-to.field-0.0)) c.if-s-gt-MOST_BYTES.false (answers_stopped (read look 0 0 0 a.s.now) a.room.now c.message.new.room _ c.in_err-to.ensures))
