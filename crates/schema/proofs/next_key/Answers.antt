-- `schema::next_key` meets its contract: the key is summed up once the entry is known to be good, so that it fits. Assumes nothing.
use Rattle.std.proofs.Common.{◌≡◌, ◌+◌, ◌*◌, Bool, true, false, ◌&&◌, arith, sym, ap, ◌∙◌}
use mathlib.Core.Path.{ap₂}
use borrow.Author.Tests.{lt-ltb, le-ltb}
use lib.Dec.{ltb}
use Rattle.spec.specs.Schema.{good_entry}
use Rattle.schema.specs.Layout.{owner_unit}
use Rattle.schema.specs.Tables.{rank}
use Rattle.schema.specs.Told.{entry}
use Rattle.schema.proofs.ValidLaws.{is_entry, good_five, key_passed, key_refused}
use Rattle.schema.proofs.next_key.Goals as goal

pub returns-then-not-entry_ok : goal.returns-then-not-entry_ok
returns-then-not-entry_ok c =
    let a = c.args in
    let bad : good_entry a.types (entry a.f) ≡ false = sym c.entry_ok.ensures ∙ c.if-not-entry_ok.true in
    key_refused a.types a.last (entry a.f) (ap (λ (b : Bool). b && ltb a.last (rank (entry a.f))) bad)

pub overflow_add-key : goal.overflow_add-key
overflow_add-key c =
    let a = c.args in
    let n = (good_five a.types a.f (sym c.entry_ok.ensures ∙ c.if-not-entry_ok.false)).1.number_to in
    record { fits = omega arith }

pub returns-then-key-last : goal.returns-then-key-last
returns-then-key-last c =
    let a = c.args in
    let good : good_entry a.types (entry a.f) ≡ true = sym c.entry_ok.ensures ∙ c.if-not-entry_ok.false in
    let key : rank (entry a.f) ≡ a.f.owner * owner_unit + a.f.number * 8 = ap rank (is_entry a.f (good_five a.types a.f good).0) in
    key_refused a.types a.last (entry a.f) (ap₂ (◌&&◌) good (le-ltb a.last (rank (entry a.f)) (omega arith)))

pub returns : goal.returns
returns c =
    let a = c.args in
    let good : good_entry a.types (entry a.f) ≡ true = sym c.entry_ok.ensures ∙ c.if-not-entry_ok.false in
    let key : rank (entry a.f) ≡ a.f.owner * owner_unit + a.f.number * 8 = ap rank (is_entry a.f (good_five a.types a.f good).0) in
    let is = key_passed a.types a.last (entry a.f) (ap₂ (◌&&◌) good (lt-ltb a.last (rank (entry a.f)) (omega arith))) in
    (omega arith, omega arith)
