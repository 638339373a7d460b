-- `read::classify::body_at` meets its contract: with a length, or with none. Assumes nothing.
use Rattle.read.proofs.classify.body_at.Goals.{else-kind-eq-MESSAGE-via-then-kind-eq-MESSAGE+else-depth-gt-DEEPEST_HEAD, else-kind-eq-MESSAGE-via-else-kind-eq-MESSAGE}
use native.Mathlib.Omega.{arith}
use mathlib.Core.Path.{◌≡◌, refl, sym, ◌∙◌}
use mathlib.Core.Bool.{false, false≢true}
use lib.ListN.{drop}
use Rattle.read.specs.Answers.{has_length}
use Rattle.read.proofs.ClassifyLaws.{shallow_body, deep_body}
use Rattle.read.proofs.classify.body_at.Goals as goal

pub returns-then-depth-gt-DEEPEST_HEAD : goal.returns-then-depth-gt-DEEPEST_HEAD
returns-then-depth-gt-DEEPEST_HEAD c =
    let a = c.args in
    rw c.if-kind-eq-MESSAGE.true (deep_body a.depth a.at (drop a.at a.s.now) (omega arith))

-- a message's head stands above the greatest depth: it was asked
pub returns-then-has_length : goal.returns-then-has_length
returns-then-has_length c =
    let a = c.args in
    c.delimited.ensures
    ∙ shallow_body a.depth a.at (drop a.at a.s.now) a.kind
    (λ e. elim c.else-kind-eq-MESSAGE.branch [ else-kind-eq-MESSAGE-via-then-kind-eq-MESSAGE+else-depth-gt-DEEPEST_HEAD w ↦ omega (arith, w.if-depth-gt-DEEPEST_HEAD.false) | else-kind-eq-MESSAGE-via-else-kind-eq-MESSAGE w ↦ absurd (w.if-kind-eq-MESSAGE.false e) ])

pub returns : goal.returns
returns c =
    let a = c.args in
    let short : has_length a.kind ≡ false = sym c.has_length.ensures ∙ c.if-has_length.false in
    c.plain.ensures
    ∙ shallow_body a.depth a.at (drop a.at a.s.now) a.kind (λ e. absurd (false≢true (sym short ∙ rw e refl)))
