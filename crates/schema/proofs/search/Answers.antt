-- `schema::search` meets its contract. The loop's invariant: what is searched in all is what is searched from here. Assumes nothing.
use Rattle.std.proofs.Common.{ℕ, ◌≡◌, ◌+◌, ◌/◌, arith, refl, sym, ap, ◌∙◌}
use Rattle.schema.specs.Search.{within}
use Rattle.schema.proofs.SearchLaws.{middle, halves_end, halves_here, halves_above, halves_below, within_some, within_none}
use Rattle.schema.proofs.search.Goals as goal

pub returns-then-here-key : goal.returns-then-here-key
returns-then-here-key g c row gives =
    let a = c.args in
    let l = c.loop-lo in
    let mid : ℕ = (l.lo + l.hi) / 2 in
    let m : mid ≡ middle l.lo l.hi = refl in
    let is = gives mid c.at-here.result (omega arith) c.at-here.ensures in
    sym (ap (within a.count) (l.invariant.2 row gives ∙ halves_here row a.count a.key l.lo l.hi c.loop-lo-test.true m is c.if-here-key.true) ∙ within_some a.count mid (omega arith))

pub loop-lo-preserved-then-here-key-2 : goal.loop-lo-preserved-then-here-key-2
loop-lo-preserved-then-here-key-2 g c =
    let a = c.args in
    let l = c.loop-lo in
    let mid : ℕ = (l.lo + l.hi) / 2 in
    let m : mid ≡ middle l.lo l.hi = refl in
    (omega arith, omega arith, λ row gives. l.invariant.2 row gives ∙ halves_above row a.count a.key l.lo l.hi c.loop-lo-test.true m (gives mid c.at-here.result (omega arith) c.at-here.ensures) c.if-here-key-2.true)

pub loop-lo-preserved : goal.loop-lo-preserved
loop-lo-preserved g c =
    let a = c.args in
    let l = c.loop-lo in
    let mid : ℕ = (l.lo + l.hi) / 2 in
    let m : mid ≡ middle l.lo l.hi = refl in
    (omega arith, omega arith, λ row gives. l.invariant.2 row gives ∙ halves_below row a.count a.key l.lo l.hi c.loop-lo-test.true m (gives mid c.at-here.result (omega arith) c.at-here.ensures) (omega arith))

pub returns : goal.returns
returns g c row gives =
    let a = c.args in
    let l = c.loop-lo in
    sym (ap (within a.count) (l.invariant.2 row gives ∙ halves_end row a.count a.key l.lo l.hi c.loop-lo-test.false) ∙ within_none a.count a.count (omega arith))
