-- `entries::lookup` meets its contract: the search goes over the entries from the first on. Assumes nothing.
use Rattle.std.proofs.Common.{rules, tests}
use Rattle.std.proofs.lemmas.Iterator.{YieldsList-from_slice}
use Rattle.std.proofs.lemmas.Iterator.Search.{position_from_yields_List}
use Rattle.entries.proofs.LookupLaws.{wanted, first_place}
use Rattle.entries.proofs.lookup.Goals as goal

pub returns : goal.returns
returns c =
    let a = c.args in
    first_place a.entries.now a.owner a.number _
    (position_from_yields_List (wanted a.owner a.number) _ _ c.position.result c.position.ensures.ran (YieldsList-from_slice _ c.iter.ensures.rest) (λ x b q k. search (rules, tests)))
