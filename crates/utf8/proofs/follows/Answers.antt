-- `utf8::follows` meets its contract: a branch for each number of followers.
-- Assumes nothing.
use native.Mathlib.Omega.{arith}
use mathlib.Core.Path.{◌≡◌, sym, ◌∙◌}
use mathlib.Core.Bool.{◌&&◌}
use borrow.Author.Tests.{lt-leb}
use lib.ListN.{get_or}
use Rattle.spec.specs.Base.{between}
use Rattle.spec.specs.Utf8.{followers}
use Rattle.utf8.proofs.TextLaws.{short, last, good, bad, third, no_third}
use Rattle.utf8.proofs.follows.Goals as goal
use Rattle.utf8.proofs.follows.Goals.{then-within-2, else-within-2}

-- the bytes end before the followers
pub returns-then-s-lt2 : goal.returns-then-s-lt2
returns-then-s-lt2 c = sym (short _ _ _ _ (omega arith))

pub returns-then-s-lt3 : goal.returns-then-s-lt3
returns-then-s-lt3 c = sym (short _ _ _ _ (omega arith))

-- two followers
pub returns-then-within : goal.returns-then-within
returns-then-within c =
    let s = c.args.s.now in
    rw c.if-lead-eq2.true (c.within-then-within.ensures ∙ last s 1 (omega arith) 0x80 0xbf ∙ sym (good s 0 (omega arith) _ _ 1 (sym c.within.ensures ∙ c.if-within.true)))

pub returns-else-within : goal.returns-else-within
returns-else-within c = rw c.if-lead-eq2.true (c.if-within.false ∙ sym (bad c.args.s.now 0 (omega arith) _ _ 1 (sym c.within.ensures ∙ c.if-within.false)))

-- none, and one
pub returns-then-lead-eq0 : goal.returns-then-lead-eq0
unfolding followers
returns-then-lead-eq0 c = rw c.if-lead-eq0.true

pub returns-then-s-ge1 : goal.returns-then-s-ge1
returns-then-s-ge1 c =
    let one : c.args.lead.followers ≡ 1 = omega arith in
    rw one (c.within-then-s-ge1.ensures ∙ last c.args.s.now 0 (omega arith) _ _)

pub returns-else-s-ge1 : goal.returns-else-s-ge1
returns-else-s-ge1 c = lt-leb _ _ (omega arith) ∙ sym (short _ _ _ _ (omega arith))

-- three: whether the first two are right, and then the third
pub returns-then-within-3 : goal.returns-then-within-3
returns-then-within-3 c =
    let a = c.args in
    let three : a.lead.followers ≡ 3 = omega arith in
    let first : c.if-within-2.value ≡ (between a.lead.lowest a.lead.highest (get_or a.s.now 0 0) && between 0x80 0xbf (get_or a.s.now 1 0)) = (elim c.if-within-2.branch [
      | then-within-2 w ↦ rw (sym c.within-else-lead-lt2.ensures ∙ w.if-within-2.true) (w.value-is ∙ w.within-then-within-2.ensures)
      | else-within-2 w ↦ rw (sym c.within-else-lead-lt2.ensures ∙ w.if-within-2.false) (w.value-is ∙ w.if-within-2.false)
    ]) in
    rw three (c.within-then-within-3.ensures ∙ third a.s.now _ _ (omega arith) (sym first ∙ c.if-within-3.true))

pub returns-else-within-3 : goal.returns-else-within-3
returns-else-within-3 c =
    let a = c.args in
    let three : a.lead.followers ≡ 3 = omega arith in
    let first : c.if-within-2.value ≡ (between a.lead.lowest a.lead.highest (get_or a.s.now 0 0) && between 0x80 0xbf (get_or a.s.now 1 0)) = (elim c.if-within-2.branch [
      | then-within-2 w ↦ rw (sym c.within-else-lead-lt2.ensures ∙ w.if-within-2.true) (w.value-is ∙ w.within-then-within-2.ensures)
      | else-within-2 w ↦ rw (sym c.within-else-lead-lt2.ensures ∙ w.if-within-2.false) (w.value-is ∙ w.if-within-2.false)
    ]) in
    rw three (c.if-within-3.false ∙ sym (no_third a.s.now _ _ (omega arith) (sym first ∙ c.if-within-3.false)))
