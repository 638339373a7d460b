-- The cycle of calls {message, store}: each field of a message, and what it asks to store. Assumes nothing.
use native.Mathlib.Omega.{arith}
use mathlib.Core.Path.{sym, ap, ◌∙◌, subst}
use Rattle.std.specs.Prelude.{Ok}
use Rattle.std.proofs.lemmas.Result.{err_from_is_err_and}
use lib.ListN.{length}
use Prim.Native.Nat.{ℕ, ◌<◌, ◌≤◌}
use Rattle.spec.specs.Reading.{plainly, read}
use Rattle.read.specs.Prepared.{prepared}
use Rattle.read.proofs.Turn.{Here, here_by}
use Rattle.read.proofs.FieldTurn.{row_message, row_packed, row_dropped, row_value, row_full, put_then, put_only, moved, Given, fields_end, bad_within, field_bad, row_stops, row_goes, row_given, group_bad, group_given}
use Rattle.read.proofs.message.+message_store.Goals as goal
use Rattle.read.proofs.message.+message_store.Goals.{message-After-field_at, message-then-ty-lt-MOST_TYPES+else-at-s, message-else-ty-lt-MOST_TYPES, message-Joined-field, message-in-Of, message-in-Group+in-Ok-skip_unknown_group, store-then-kind-eq-PACKED_HEAD+else-start-end, store-else-kind-eq-PACKED_HEAD}

-- ---- message: where the next field is, after the short ones, if those were read
joined : (t : ℕ) (c : message-After-field_at t) →
    let a = c.args in
    let j = c.if-ty-lt-MOST_TYPES in
    Here (read (prepared a.mode a.keys.now a.info.now) a.depth a.ty) a.s.now a.off a.room.now 0 a.from j.room j.at j.to
    × (c.loop-at.at ≤ j.at) × (j.at < length a.s.now)
joined t c =
    elim c.if-ty-lt-MOST_TYPES.branch [
      | message-then-ty-lt-MOST_TYPES+else-at-s w ↦ (
        moved (here_by c.loop-at.invariant (w.short_ints-x.ensures _)) w.room-is w.at-is w.to-is,
        omega (arith, (w.short_ints-x.ensures plainly).on, w.at-is),
        omega (arith, (w.short_ints-x.ensures plainly).inside, w.at-is, w.if-at-s.false),
      )
      | message-else-ty-lt-MOST_TYPES w ↦ (moved c.loop-at.invariant w.room-is w.at-is w.to-is, omega (arith, w.at-is), omega (arith, w.at-is, c.loop-at-test.true))
    ]

pub message-returns-then-at-s : goal.message-returns-then-at-s
message-returns-then-at-s t c = fields_end _ _ _ (here_by c.loop-at.invariant (c.short_ints-x.ensures _)) (omega (arith, c.if-at-s.true))

pub message-returns-in-Err-skip_unknown_group : goal.message-returns-in-Err-skip_unknown_group
message-returns-in-Err-skip_unknown_group t c =
    let j = joined t (goal.at.message-returns-in-Err-skip_unknown_group t c).After-field_at in
    group_bad _ _ _ j.0 j.2 (c.field_at.ensures _).0 (c.in-Ok.is ∙ ap Ok c.in-Group.is) c.skip_unknown_group.ensures c.in-Err-skip_unknown_group.is

pub message-overflow_add-place : goal.message-overflow_add-place
message-overflow_add-place t c =
    let j = joined t (goal.at.message-overflow_add-place t c).After-field_at in
    omega (arith, bad_within _ _ _ j.0 j.2 (c.field_at.ensures _).0 c.in-Err.is (rw c.number.ensures at c.refused_at.ensures))

pub message-returns-in-Err : goal.message-returns-in-Err
message-returns-in-Err t c =
    let j = joined t (goal.at.message-returns-in-Err t c).After-field_at in
    field_bad _ _ _ j.0 j.2 (c.field_at.ensures _).0 c.in-Err.is (rw c.number.ensures at c.refused_at.ensures)

-- the record that is stored: the field's, or that of the group that was skipped
row : (t : ℕ) (c : message-Joined-field t) →
    let a = c.args in
    let i = c.if-ty-lt-MOST_TYPES in
    Here (read (prepared a.mode a.keys.now a.info.now) a.depth a.ty) a.s.now a.off a.room.now 0 a.from i.room i.at i.to → i.at < length a.s.now
    → Given (prepared a.mode a.keys.now a.info.now) a.depth a.ty a.s.now a.off c.if-ty-lt-MOST_TYPES.at c.match-field.f
row t c h lt =
    let f = c.field_at.ensures _ in
    elim c.match-field.branch [
      | message-in-Of w ↦ subst (Given _ _ _ _ _ _) (sym w.f-is) (row_given _ _ _ h lt f.0 (c.in-Ok.is ∙ ap Ok w.in-Of.is) f.1)
      | message-in-Group+in-Ok-skip_unknown_group w ↦ group_given _ _ _ h lt f.0 (c.in-Ok.is ∙ ap Ok w.in-Group.is) w.skip_unknown_group.ensures f.1 w.in-Ok-skip_unknown_group.is (w.f-is ∙ w.skipped.ensures)
    ]

pub message-store-requires : goal.message-store-requires
message-store-requires t c =
    let p = goal.at.message-store-requires t c in
    let j = joined t p.After-field_at in
    (omega (arith, c.decreases), (omega arith, omega arith, omega (arith, j.0.further.fits), (row t p.Joined-field j.0 j.2).held))

pub message-loop-at-smaller : goal.message-loop-at-smaller
message-loop-at-smaller t c =
    let p = goal.at.message-loop-at-smaller t c in
    let j = joined t p.After-field_at in
    let h = (row t p.Joined-field j.0 j.2).held in
    omega (arith, j.1, j.2, h.behind, h.ordered, h.inside)

pub message-loop-at-preserved : goal.message-loop-at-preserved
message-loop-at-preserved t c =
    let p = goal.at.message-loop-at-preserved t c in
    let j = joined t p.After-field_at in
    row_goes _ _ _ j.0 j.2 (row t p.Joined-field j.0 j.2) c.store.new.room c.store.result c.store.ensures c.in_ok-to.was c.store.auto.room

pub message-returns-in_err-to : goal.message-returns-in_err-to
message-returns-in_err-to t c =
    let p = goal.at.message-returns-in_err-to t c in
    let j = joined t p.After-field_at in
    let q = err_from_is_err_and c.from_residual.result c.from_residual.ensures.1 in
    rw (q.1, q.2) (row_stops _ _ _ j.0 j.2 (row t p.Joined-field j.0 j.2) c.store.new.room c.store.result c.store.ensures c.in_err-to.was)

pub message-returns : goal.message-returns
message-returns t c = fields_end _ _ _ c.loop-at.invariant c.loop-at-test.false

-- ---- store

pub store-returns-then-start-end : goal.store-returns-then-start-end
store-returns-then-start-end t c = row_dropped _ _ c.requires.3 _ _ c.if-kind-eq-PACKED_HEAD.true c.if-start-end.true _ _ c.put_span.ensures

pub store-returns-then-room-from-lt-STRIDE : goal.store-returns-then-room-from-lt-STRIDE
store-returns-then-room-from-lt-STRIDE t c =
    row_full _ _ c.requires.3 _ _
    (λ k e. elim c.if-kind-eq-PACKED_HEAD.branch [ store-then-kind-eq-PACKED_HEAD+else-start-end w ↦ w.if-start-end.false e | store-else-kind-eq-PACKED_HEAD w ↦ w.if-kind-eq-PACKED_HEAD.false k ])
    _ _ (omega arith) c.if-room-from-lt-STRIDE.true

pub store-returns-then-kind-eq-MESSAGE : goal.store-returns-then-kind-eq-MESSAGE
store-returns-then-kind-eq-MESSAGE t c =
    put_then _ _ (row_message _ _ c.requires.3 _ _ c.if-kind-eq-MESSAGE.true) (omega (arith, c.if-room-from-lt-STRIDE.false)) c.put-to.ensures.0 c.put-to.ensures.1 c.message.ensures

pub store-returns-then-kind-eq-PACKED_HEAD-2 : goal.store-returns-then-kind-eq-PACKED_HEAD-2
store-returns-then-kind-eq-PACKED_HEAD-2 t c =
    put_then _ _ (row_packed _ _ c.requires.3 _ _ c.if-kind-eq-PACKED_HEAD-2.true
    (λ e. elim c.if-kind-eq-PACKED_HEAD.branch [ store-then-kind-eq-PACKED_HEAD+else-start-end w ↦ w.if-start-end.false e | store-else-kind-eq-PACKED_HEAD w ↦ w.if-kind-eq-PACKED_HEAD.false c.if-kind-eq-PACKED_HEAD-2.true ]))
    (omega (arith, c.if-room-from-lt-STRIDE.false)) c.put-to.ensures.0 c.put-to.ensures.1 (rw c.from.ensures at c.packed.ensures)

pub store-returns : goal.store-returns
store-returns t c =
    put_only _ _ (row_value _ _ c.requires.3 _ _ c.if-kind-eq-MESSAGE.false c.if-kind-eq-PACKED_HEAD-2.false) (omega (arith, c.if-room-from-lt-STRIDE.false)) c.put-to.ensures.0 c.put-to.ensures.1
