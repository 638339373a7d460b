-- `pull::step::string_at` meets its contract: the content that was found, if it is UTF-8, and else where it is broken. Assumes nothing.
use Prim.Native.Nat.{ℕ, ◌-◌, ◌≤◌}
use native.Mathlib.Omega.{arith}
use mathlib.Core.Path.{◌≡◌, ap, ◌∙◌}
use mathlib.Core.Bool.{true}
use mathlib.Core.List.{List}
use lib.ListN.{length, take, drop}
use Rattle.std.specs.Prelude.{Result}
use Rattle.spec.specs.declared.refusals.Refusal.{Refusal}
use Rattle.spec.specs.Utf8.{valid_prefix}
use Rattle.skip.specs.declared.content.Span.{Span}
use Rattle.spec.specs.Varint.{varint32}
use Rattle.spec.specs.Skip.{content}
use Rattle.spec.specs.Pull.{step_at}
use Rattle.skip.specs.Spans.{content_at, span_at}
use Rattle.skip.proofs.KnownLaws.{known_content}
use Rattle.skip.proofs.SpanLaws.{span_in, valid_inside, Checked, checked}
use Rattle.pull.specs.Told.{as_moved, content_of}
use Rattle.pull.proofs.StepLaws.{text_told, text_broken, text_refused}
use Rattle.pull.proofs.step.string_at.Goals as goal
use Rattle.pull.proofs.step.string_at.Goals.{in-Ok+else-valid-span, in_default, In-Ok}

-- the content that was found
found : (c : In-Ok) →
    let a = c.args in
    content_at c.in-Ok.span.start c.in-Ok.span.end ≡ span_at a.at (content varint32 (drop a.at a.s.now))
found c = c.in-Ok.ensures

inside : (c : In-Ok) →
    let a = c.args in
    (a.at ≤ c.in-Ok.span.start) × (c.in-Ok.span.start ≤ c.in-Ok.span.end) × (c.in-Ok.span.end ≤ length a.s.now)
inside c = let a = c.args in span_in true a.at a.s.now (found c)

pub slice_bounds-utf8_prefix-count : goal.slice_bounds-utf8_prefix-count
slice_bounds-utf8_prefix-count c = (inside (goal.at.slice_bounds-utf8_prefix-count c).In-Ok).1

pub slice_bounds-utf8_prefix-start : goal.slice_bounds-utf8_prefix-start
slice_bounds-utf8_prefix-start c = omega (arith, inside (goal.at.slice_bounds-utf8_prefix-start c).In-Ok)

pub slice_bounds-utf8_prefix-end : goal.slice_bounds-utf8_prefix-end
slice_bounds-utf8_prefix-end c = omega (arith, inside (goal.at.slice_bounds-utf8_prefix-end c).In-Ok)

pub overflow_add-valid : goal.overflow_add-valid
overflow_add-valid c = omega (arith, inside (goal.at.overflow_add-valid c).In-Ok, valid_inside c.in-Ok.span.start c.in-Ok.span.end c.args.s.now c.utf8_prefix-n.ensures)

-- how much of it is valid
text : (at : ℕ) (s : List ℕ) {a e n : ℕ} → content_at a e ≡ span_at at (content varint32 (drop at s)) → n ≡ valid_prefix (take (e - a) (drop a s))
    → Checked at s (content varint32 (drop at s)) a e n
text at s f v = let b = span_in true at s f in checked at s (content varint32 (drop at s)) f b.1 b.2 v

pub returns-then-valid-span : goal.returns-then-valid-span
unfolding step_at
returns-then-valid-span c =
    let a = c.args in
    text_broken _ _ _ (text a.at a.s.now (found (goal.at.returns-then-valid-span c).In-Ok) c.utf8_prefix-n.ensures) c.if-valid-span.true

pub returns : goal.returns
unfolding step_at
returns c =
    let a = c.args in
    ap as_moved c.content_of.ensures
    ∙ elim c.match-found.branch [
      | in-Ok+else-valid-span w ↦
          ap (λ (x : Result Span Refusal). as_moved (content_of a.at x)) w.found-is
          ∙ text_told _ _ _ (text a.at a.s.now w.in-Ok.ensures w.utf8_prefix-n.ensures) w.if-valid-span.false
      | in_default w ↦
          ap (λ (x : Result Span Refusal). as_moved (content_of a.at x)) (w.found-is ∙ w.in_default.is)
          ∙ text_refused a.at a.s.now (known_content 4 15 (drop a.at a.s.now)) w.in_default.ensures
    ]
