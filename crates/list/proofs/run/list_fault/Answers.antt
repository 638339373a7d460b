-- `list::run::list_fault` meets its contract. The loop's invariant: the answer for the list is the answer for the records from here on. Assumes nothing.
use Prim.Native.Nat.{ℕ, ◌+◌}
use native.Mathlib.Omega.{arith}
use mathlib.Core.Path.{◌≡◌, refl, sym, ap, ◌∙◌, subst}
use mathlib.Core.List.{List}
use lib.ListN.{take, get_or, length-replicate, get_or-replicate}
use Rattle.list.specs.Told.{as_verdict}
use Rattle.list.specs.Checking.{Answers, Elapsed}
use Rattle.list.proofs.RunTurn.{Standing, here, go_end, go_rest, go_deep, go_same, go_out, kind_small, stand_other, stand_value_bad, stand_value, stand_fault, stand_low, stand_content, stand_message, stand_elements, elements_on, stand_bad_element, number_above}
use Rattle.spec.specs.Record.{stride}
use Rattle.std.specs.Prelude.{Some}
use Rattle.spec.specs.Kind.{wires, wire}
use Rattle.spec.specs.Names.{kind_column, most_levels, number_column, record_kinds}
use Rattle.list.specs.declared.record.Owner.{Owner}
use Rattle.list.proofs.FitLaws.{type_of}
use Rattle.list.proofs.run.list_fault.Goals as goal
use Rattle.list.proofs.run.list_fault.Goals.{then-d-depth+else-depth-d, else-d-depth}
use Rattle.list.proofs.run.list_fault.Goals.{After-elements, Joined-d-depth}

pub loop-at-init : goal.loop-at-init
loop-at-init c = record {
  inside = omega arith;
  whole = refl;
  shallow = omega arith;
  long = length-replicate {A = ℕ} (most_levels + 1) 0;
  lies = λ sch m. here sch _ _ _ (get_or-replicate (most_levels + 1) 0 0 0 (omega arith)) c.of-owner.ensures;
}

-- the record's place
standing : (c : Joined-d-depth) →
    let a = c.args in
    Standing a.keys.now a.info.now a.list.now a.payload.now c.loop-at.«open» c.if-d-depth.owner.ty c.if-d-depth.depth c.loop-at.at
standing c =
    let g = c.loop-at.invariant in
    elim c.if-d-depth.branch [ then-d-depth+else-depth-d w ↦ go_out g c.loop-at-test.true (omega (arith, w.if-depth-d.false)) (ap (λ (o : Owner). o.ty) w.owner-is ∙ w.of-owner-then-d-depth.ensures) w.depth-is | else-d-depth w ↦ go_same g c.loop-at-test.true w.if-d-depth.false (ap (λ (o : Owner). o.ty) w.owner-is) w.depth-is ]

-- the wire type of its kind
wired : (c : Joined-d-depth) {table : List ℕ} {inner : ℕ} →
    let a = c.args in
    let number : ℕ = get_or a.list.now (c.loop-at.at + number_column) 0 in
    let kind : ℕ = get_or a.list.now (c.loop-at.at + kind_column) 0 in
    Answers a.keys.now a.info.now c.if-d-depth.owner.ty number kind (Some inner) → table ≡ take record_kinds wires → get_or table kind 0 ≡ wire kind
wired c {table} asked is = type_of table _ is (kind_small (standing c) asked)

pub bounds-table-kind : goal.bounds-table-kind
bounds-table-kind c = omega (arith, kind_small (standing (goal.at.bounds-table-kind c).Joined-d-depth) c.in-Some.ensures)

pub returns-then-depth-d : goal.returns-then-depth-d
returns-then-depth-d c = λ sch m. c.fault.ensures ∙ go_deep c.loop-at.invariant c.loop-at-test.true c.if-depth-d.true sch m

pub bounds-open-d : goal.bounds-open-d
bounds-open-d c = omega (arith, c.loop-at.invariant.shallow)

pub ask-requires : goal.ask-requires
ask-requires c = c.record_wires-table.ensures

pub returns-in_default : goal.returns-in_default
returns-in_default c = λ sch m. c.fault-in_default.ensures ∙ stand_other (standing (goal.at.returns-in_default c).Joined-d-depth) c.in_default.ensures sch m

pub returns-then-not-value_fits : goal.returns-then-not-value_fits
returns-then-not-value_fits c =
    let places = goal.at.returns-then-not-value_fits c in
    λ sch m. c.fault-then-not-value_fits.ensures
    ∙ stand_value_bad (standing places.Joined-d-depth) c.in-Some.ensures (λ z. c.if-w-ne-DELIMITED.true (wired places.Joined-d-depth c.in-Some.ensures c.record_wires-table.ensures ∙ z)) c.value_fits.ensures c.if-not-value_fits.true sch m

pub loop-at-preserved-then-w-ne-DELIMITED : goal.loop-at-preserved-then-w-ne-DELIMITED
loop-at-preserved-then-w-ne-DELIMITED c =
    let places = goal.at.loop-at-preserved-then-w-ne-DELIMITED c in
    (stand_value (standing places.Joined-d-depth) c.in-Some.ensures (λ z. c.if-w-ne-DELIMITED.true (wired places.Joined-d-depth c.in-Some.ensures c.record_wires-table.ensures ∙ z)) c.value_fits.ensures c.if-not-value_fits.false)

pub delimited_fault-requires : goal.delimited_fault-requires
delimited_fault-requires c =
    let places = goal.at.delimited_fault-requires c in
    let s = standing places.Joined-d-depth in
    (omega (arith, s.more, s.going.inside), refl, sym s.own, s.going.shallow, sym (wired places.Joined-d-depth c.in-Some.ensures c.record_wires-table.ensures) ∙ c.if-w-ne-DELIMITED.false)

pub returns-in-Err : goal.returns-in-Err
returns-in-Err c =
    let places = goal.at.returns-in-Err c in
    λ sch m. c.fault-in-Err.ensures ∙ stand_fault (standing places.Joined-d-depth) c.in-Some.ensures c.in-Err.ensures (number_above c.in-Err.refusal) sch m

pub overflow_add-depth : goal.overflow_add-depth
overflow_add-depth c = omega (arith, (standing (goal.at.overflow_add-depth c).Joined-d-depth).going.shallow)

pub bounds-open-depth : goal.bounds-open-depth
bounds-open-depth c =
    let places = goal.at.bounds-open-depth c in
    omega (arith, stand_low (standing places.Joined-d-depth) c.in-Some.ensures c.in_default-delimited_fault.ensures refl c.if-kind-eq-MESSAGE.true)

pub loop-at-preserved-then-kind-eq-MESSAGE : goal.loop-at-preserved-then-kind-eq-MESSAGE
loop-at-preserved-then-kind-eq-MESSAGE c =
    let places = goal.at.loop-at-preserved-then-kind-eq-MESSAGE c in
    rw c.of-owner-then-kind-eq-MESSAGE.ensures (stand_message (standing places.Joined-d-depth) c.in-Some.ensures c.in_default-delimited_fault.ensures refl c.if-kind-eq-MESSAGE.true)

pub overflow_add-depth-then-kind-eq-PACKED_HEAD : goal.overflow_add-depth-then-kind-eq-PACKED_HEAD
overflow_add-depth-then-kind-eq-PACKED_HEAD c = omega (arith, (standing (goal.at.overflow_add-depth-then-kind-eq-PACKED_HEAD c).Joined-d-depth).going.shallow)

pub elements-requires : goal.elements-requires
elements-requires c =
    let s = standing (goal.at.elements-requires c).Joined-d-depth in
    (omega (arith, s.more, s.going.inside), omega (arith, s.going.whole))

-- what the elements came to
elapsed : (c : After-elements) →
    let a = c.args in
    Elapsed a.list.now (c.loop-at.at + stride) (c.if-d-depth.depth + 1) (get_or a.list.now (c.loop-at.at + number_column) 0) c.in-Some.inner c.elements.result
elapsed c =
    let a = c.args in
    subst (λ (k : ℕ). Elapsed a.list.now (c.loop-at.at + stride) (c.if-d-depth.depth + 1) (get_or a.list.now (c.loop-at.at + number_column) 0) k c.elements.result)
    c.from.ensures c.elements.ensures

pub loop-at-smaller-in-Ok : goal.loop-at-smaller-in-Ok
loop-at-smaller-in-Ok c =
    let places = goal.at.loop-at-smaller-in-Ok c in
    let s = standing places.Joined-d-depth in
    omega (arith, s.more, elements_on s c.in-Some.ensures c.in_default-delimited_fault.ensures refl c.if-kind-eq-PACKED_HEAD.true (subst (Elapsed _ _ _ _ _) c.in-Ok.is (elapsed places.After-elements)))

pub loop-at-preserved-in-Ok : goal.loop-at-preserved-in-Ok
loop-at-preserved-in-Ok c =
    let places = goal.at.loop-at-preserved-in-Ok c in
    stand_elements (standing places.Joined-d-depth) c.in-Some.ensures c.in_default-delimited_fault.ensures refl c.if-kind-eq-PACKED_HEAD.true
    (subst (Elapsed _ _ _ _ _) c.in-Ok.is (elapsed places.After-elements))

pub returns-in-Err-elements : goal.returns-in-Err-elements
returns-in-Err-elements c =
    let places = goal.at.returns-in-Err-elements c in
    λ sch m. c.fault-in-Err-elements.ensures
    ∙ stand_bad_element (standing places.Joined-d-depth) c.in-Some.ensures c.in_default-delimited_fault.ensures refl c.if-kind-eq-PACKED_HEAD.true
    (subst (Elapsed _ _ _ _ _) c.in-Err-elements.is (elapsed places.After-elements)) sch m

pub loop-at-preserved : goal.loop-at-preserved
loop-at-preserved c =
    let places = goal.at.loop-at-preserved c in
    stand_content (standing places.Joined-d-depth) c.in-Some.ensures c.in_default-delimited_fault.ensures refl c.if-kind-eq-MESSAGE.false c.if-kind-eq-PACKED_HEAD.false

pub returns-then-at-list : goal.returns-then-at-list
returns-then-at-list c = λ sch m. c.fault-then-at-list.ensures ∙ go_rest c.loop-at.invariant c.if-at-list.true c.loop-at-test.false sch m

pub returns : goal.returns
unfolding as_verdict
returns c = λ sch m. go_end c.loop-at.invariant c.if-at-list.false sch m

pub overflow_sub-list : goal.overflow_sub-list
overflow_sub-list c = c.loop-at.invariant.inside
