-- `entries::lookup_numbers` meets its contract. Assumes nothing.
use mathlib.Core.Path.{refl, ap, ◌∙◌}
use mathlib.Core.List.{List}
use borrow.Author.Tests.{eq-eqb, ne_eqb}
use Rattle.spec.specs.Schema.{place_of}
use Rattle.spec.specs.declared.Entry.{Entry}
use Rattle.entries.specs.Copied.{one_more}
use Rattle.entries.proofs.NumbersLaws.{first_none, first_made, made_front}
use Rattle.entries.proofs.lookup_numbers.Goals as goal

pub returns-then-numbers-ne0 : goal.returns-then-numbers-ne0
unfolding place_of
returns-then-numbers-ne0 c = rw (first_none c.args.numbers.now (ne_eqb _ _ c.if-numbers-ne0.true)) refl

pub returns : goal.returns
returns c =
    let a = c.args in
    let seen = made_front a.numbers.now one_more c.made-count.result c.made-count.ensures.count c.made-count.ensures.front ∙ first_made a.numbers.now (eq-eqb _ _ c.if-numbers-ne0.false) in
    c.lookup.ensures ∙ ap (λ (es : List Entry). place_of 0 es a.owner a.number) seen
