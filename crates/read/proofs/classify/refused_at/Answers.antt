-- `read::classify::refused_at` meets its contract: the tag's place, or that of the broken letter, which is found again. Assumes nothing.
use Prim.Native.Nat.{◌-◌, ◌≤◌, ◌<◌}
use native.Mathlib.Omega.{arith}
use mathlib.Core.Path.{◌≡◌, sym, ap, ◌∙◌}
use mathlib.Core.Bool.{true}
use lib.ListN.{length, drop}
use Rattle.spec.specs.Base.{Took}
use Rattle.spec.specs.Varint.{varint32}
use Rattle.spec.specs.Skip.{content}
use Rattle.wire.specs.Answers.{as_read}
use Rattle.skip.specs.Spans.{content_at, span_at}
use Rattle.skip.proofs.SpanLaws.{width_placed, span_in, span_no, valid_inside, checked}
use Rattle.read.proofs.AskedLaws.{at_tag, without_tag, without_content, at_letter}
use Rattle.read.proofs.ClassifyLaws.{known_span}
use Rattle.spec.specs.Names.{not_utf8}
use Rattle.read.proofs.classify.refused_at.Goals as goal
use Rattle.read.proofs.classify.refused_at.Goals.{In-Ok-span_at, In-Ok, Else-number}

-- after the test
broken : (c : Else-number) → c.args.number ≡ not_utf8
broken c = omega arith

-- the tag
tagged : (c : In-Ok) →
    let a = c.args in
    Took c.in-Ok.field-0.value (c.in-Ok.field-0.next - a.at) ≡ varint32 (drop a.at a.s.now)
tagged c = c.in-Ok.ensures

placed : (c : In-Ok) →
    let a = c.args in
    (a.at < c.in-Ok.field-0.next) × (c.in-Ok.field-0.next ≤ length a.s.now)
placed c =
    let a = c.args in
    width_placed true a.s.now a.at (tagged c)

pub span_at-requires : goal.span_at-requires
span_at-requires c = (placed (goal.at.span_at-requires c).In-Ok).1

-- the content
found : (c : In-Ok-span_at) →
    let a = c.args in
    let next = c.in-Ok.field-0.next in
    content_at c.in-Ok-span_at.field-0.start c.in-Ok-span_at.field-0.end ≡ span_at next (content varint32 (drop next a.s.now))
found c = c.in-Ok-span_at.ensures

inside : (c : In-Ok-span_at) →
    (c.in-Ok.field-0.next ≤ c.in-Ok-span_at.field-0.start) × (c.in-Ok-span_at.field-0.start ≤ c.in-Ok-span_at.field-0.end) × (c.in-Ok-span_at.field-0.end ≤ length c.args.s.now)
inside c =
    span_in true c.in-Ok.field-0.next c.args.s.now (found c)

pub slice_bounds-utf8_prefix-count : goal.slice_bounds-utf8_prefix-count
slice_bounds-utf8_prefix-count c = (inside (goal.at.slice_bounds-utf8_prefix-count c).In-Ok-span_at).1

pub slice_bounds-utf8_prefix-start : goal.slice_bounds-utf8_prefix-start
slice_bounds-utf8_prefix-start c = omega (arith, inside (goal.at.slice_bounds-utf8_prefix-start c).In-Ok-span_at)

pub slice_bounds-utf8_prefix-end : goal.slice_bounds-utf8_prefix-end
slice_bounds-utf8_prefix-end c = omega (arith, inside (goal.at.slice_bounds-utf8_prefix-end c).In-Ok-span_at)

pub overflow_add-result : goal.overflow_add-result
overflow_add-result c = omega (arith, inside (goal.at.overflow_add-result c).In-Ok-span_at, valid_inside c.in-Ok-span_at.field-0.start c.in-Ok-span_at.field-0.end c.args.s.now c.utf8_prefix-n.ensures)

-- ---- the place
pub returns-then-number : goal.returns-then-number
returns-then-number c =
    let a = c.args in
    omega (arith, at_tag a.number (drop a.at a.s.now) (λ e. omega arith))

pub returns-in_default : goal.returns-in_default
returns-in_default c =
    let a = c.args in
    let z = without_tag (drop a.at a.s.now) (sym c.decode_varint32.ensures ∙ ap (as_read a.at) c.in_default.is) in
    rw (broken (goal.at.returns-in_default c).Else-number) (omega arith)

pub returns-in_default-span_at : goal.returns-in_default-span_at
returns-in_default-span_at c =
    let places = goal.at.returns-in_default-span_at c in
    let a = c.args in
    let next = c.in-Ok.field-0.next in
    let none = span_no next (known_span true (drop next a.s.now)) (sym c.in_default-span_at.is ∙ c.span_at.ensures) in
    let z = without_content a.at next a.s.now (omega (arith, placed places.In-Ok)) (sym (tagged places.In-Ok)) none in
    rw (broken (goal.at.returns-in_default-span_at c).Else-number) (omega arith)

pub returns : goal.returns
returns c =
    let places = goal.at.returns c in
    let a = c.args in
    let next = c.in-Ok.field-0.next in
    let h = checked next a.s.now (content varint32 (drop next a.s.now)) (found places.In-Ok-span_at) (inside places.In-Ok-span_at).1 (inside places.In-Ok-span_at).2 c.utf8_prefix-n.ensures in
    let z = at_letter a.at next a.s.now (omega (arith, placed places.In-Ok)) (sym (tagged places.In-Ok)) h.reads in
    rw (broken (goal.at.returns c).Else-number) (omega (arith, h.valid_to, placed places.In-Ok))
