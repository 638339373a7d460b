-- `list::record::ask` meets its contract. Assumes nothing.
use native.Mathlib.Omega.{arith}
use Prim.Native.Nat.{ℕ, ◌+◌, ◌*◌, ◌%◌, ◌<◌}
use mathlib.Core.Path.{◌≡◌, sym, ap, ◌∙◌}
use lib.ListN.{get_or}
use Rattle.spec.specs.Names.{most_types, record_kinds}
use Rattle.list.specs.Checking.{suits, differs}
use Rattle.list.proofs.FitLaws.{type_of}
use Rattle.list.proofs.RecordLaws.{unknown_kind_lem, guess_other, guess_so}
use Rattle.schema.specs.Layout.{guesses, owner_unit}
use Rattle.list.proofs.record.ask.Goals as goal
use Rattle.list.proofs.record.ask.Goals.{After-from-i, Then-keys-i}

pub returns-then-kind-gt-LAST_KIND : goal.returns-then-kind-gt-LAST_KIND
returns-then-kind-gt-LAST_KIND c = differs (λ sch m few. unknown_kind_lem sch _ _ _ c.if-kind-gt-LAST_KIND.true)

-- the guess, and its key
guess : (c : After-from-i) →
    let a = c.args in
    c.from-i.result ≡ get_or a.info.now (a.owner.ty % most_types * guesses + a.number) 0
guess c =
    c.from-i.ensures ∙ ap (λ (g : ℕ). get_or c.args.info.now (g + c.args.number) 0) c.args.owner.guesses_from

key : (c : Then-keys-i) →
    let a = c.args in
    get_or a.keys.now c.from-i.result 0 ≡ a.owner.ty * owner_unit + a.number * 8 + c.from.result
key c =
    c.if-keys-i.true ∙ ap (λ (o : ℕ). o + c.args.number * 8 + c.from.result) c.args.owner.keys_from

small_place : (c : After-from-i) → c.from-i.result < 256
small_place c = omega (arith, c.from-i.ensures, c.fits-info (c.args.owner.first + c.args.number))

pub returns-then-from-kind : goal.returns-then-from-kind
returns-then-from-kind c =
    let places = goal.at.returns-then-from-kind c in
    let small : c.args.kind < record_kinds = omega (arith, c.if-kind-gt-LAST_KIND.false) in
    let wired = type_of c.args.table.now c.args.kind c.requires small in
    differs (λ sch m few.
    guess_other m few (guess places.After-from-i) (small_place places.After-from-i) c.if-number-lt-GUESSED_NUMBERS.true small (c.from.ensures ∙ wired) (key places.Then-keys-i)
    (λ e. c.if-from-kind.true (c.from-then-keys-i.ensures ∙ e)))

pub returns-then-keys-i : goal.returns-then-keys-i
returns-then-keys-i c =
    let places = goal.at.returns-then-keys-i c in
    let small : c.args.kind < record_kinds = omega (arith, c.if-kind-gt-LAST_KIND.false) in
    let wired = type_of c.args.table.now c.args.kind c.requires small in
    suits small (λ sch m few.
    guess_so m few (guess places.After-from-i) (small_place places.After-from-i) c.if-number-lt-GUESSED_NUMBERS.true small (c.from.ensures ∙ wired) (key places.Then-keys-i)
    (sym c.from-then-keys-i.ensures ∙ c.if-from-kind.false))

pub search-requires : goal.search-requires
search-requires c =
    let small : c.args.kind < record_kinds = omega (arith, c.if-kind-gt-LAST_KIND.false) in
    let wired = type_of c.args.table.now c.args.kind c.requires small in
    (wired, small)
