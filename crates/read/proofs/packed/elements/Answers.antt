-- `read::packed::elements` meets its contract. Assumes nothing.
use Prim.Native.Nat.{◌≤◌, ◌<◌}
use native.Mathlib.Omega.{arith}
use mathlib.Core.Path.{refl}
use lib.ListN.{length}
use Rattle.spec.specs.Kind.{shape}
use Rattle.spec.specs.Reading.{contents}
use Rattle.read.proofs.Turn.{Here, here, here_by, element_within, elements_end, element_refused, element_full, element_stored}
use Rattle.read.proofs.FieldTurn.{moved}
use Rattle.read.proofs.packed.elements.Given.{Over}
use Rattle.read.proofs.packed.elements.Goals as goal
use Rattle.read.proofs.packed.elements.Goals.{After-element_at, then-this-ne0+else-at-p, else-this-ne0}

pub loop-at-init : goal.loop-at-init
loop-at-init g c = here _ _ _ _ _ _ (omega arith) (omega arith)

pub short_elements-x-requires : goal.short_elements-x-requires
short_elements-x-requires g c = let h = c.loop-at.invariant.further in omega (arith, h.inside, h.fits)

pub returns-then-at-p : goal.returns-then-at-p
returns-then-at-p g c = elements_end _ _ _ _ (here_by c.loop-at.invariant c.short_elements-x.ensures) (omega (arith, c.if-at-p.true))

-- where the next element is, after the short ones, if those were read
joined : (g : Over) (c : After-element_at g) →
    let a = c.args in
    let j = c.if-this-ne0 in
    Here (contents (shape a.kind) a.depth a.number a.kind a.tag) a.p.now a.off a.room.now 0 a.from j.room j.at j.to × (c.loop-at.at ≤ j.at) × (j.at < length a.p.now)
joined g c =
    elim c.if-this-ne0.branch [
      | then-this-ne0+else-at-p w ↦ (
        moved (here_by c.loop-at.invariant w.short_elements-x.ensures) w.room-is w.at-is w.to-is,
        omega (arith, w.short_elements-x.ensures.on, w.at-is),
        omega (arith, w.short_elements-x.ensures.inside, w.at-is, w.if-at-p.false),
      )
      | else-this-ne0 w ↦ (moved c.loop-at.invariant w.room-is w.at-is w.to-is, omega (arith, w.at-is), omega (arith, w.at-is, c.loop-at-test.true))
    ]

pub overflow_sub-room : goal.overflow_sub-room
overflow_sub-room g c = omega (arith, (joined g (goal.at.overflow_sub-room g c).After-element_at).0.further.fits)

pub returns-then-room-to-lt-STRIDE : goal.returns-then-room-to-lt-STRIDE
returns-then-room-to-lt-STRIDE g c =
    let j = joined g (goal.at.returns-then-room-to-lt-STRIDE g c).After-element_at in
    element_full _ _ _ _ j.0 j.2 c.in-Ok.ensures refl c.if-room-to-lt-STRIDE.true

pub overflow_add-off-in-Ok : goal.overflow_add-off-in-Ok
overflow_add-off-in-Ok g c =
    let j = joined g (goal.at.overflow_add-off-in-Ok g c).After-element_at in
    omega (arith, element_within _ _ _ _ j.0 j.2 c.in-Ok.ensures refl)

pub loop-at-smaller : goal.loop-at-smaller
loop-at-smaller g c =
    let j = joined g (goal.at.loop-at-smaller g c).After-element_at in
    omega (arith, j.1, element_within _ _ _ _ j.0 j.2 c.in-Ok.ensures refl)

pub loop-at-preserved : goal.loop-at-preserved
loop-at-preserved g c =
    let j = joined g (goal.at.loop-at-preserved g c).After-element_at in
    element_stored _ _ _ _ j.0 j.2 c.in-Ok.ensures refl (omega (arith, c.if-room-to-lt-STRIDE.false, j.0.further.fits)) c.put-to.ensures.0 c.put-to.ensures.1

pub returns-in-Err : goal.returns-in-Err
returns-in-Err g c =
    let j = joined g (goal.at.returns-in-Err g c).After-element_at in
    element_refused _ _ _ _ j.0 j.2 c.in-Err.ensures c.requires.1 refl

pub returns : goal.returns
returns g c = elements_end _ _ _ _ c.loop-at.invariant c.loop-at-test.false
