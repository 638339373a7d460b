-- `read::scalar::int_or_none` meets its contract. Assumes nothing.
use mathlib.Core.Path.{sym, ◌∙◌}
use lib.ListN.{drop}
use Rattle.read.proofs.KindTests.{int_kind}
use Rattle.read.proofs.scalar.int_or_none.Goals as goal

pub returns-then-not-is_int : goal.returns-then-not-is_int
returns-then-not-is_int c =
    let i = c.is_int in
    rw (← i.ensures, c.if-not-is_int.true)

pub returns : goal.returns
returns c =
    let a = c.args in
    let i = c.is_int in
    let yes = sym i.ensures ∙ c.if-not-is_int.false in
    rw yes (c.int_at.ensures ∙ int_kind a.kind (drop a.at a.s.now) yes)
