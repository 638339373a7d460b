-- `printing::Page::put_reading` meets its contract. Assumes nothing.
use Rattle.std.proofs.Common.{◌≡◌, ap, ◌∙◌, ℕ, List, not, nat_eq, length, drop}
use Rattle.std.specs.List.{list_any}
use Rattle.std.proofs.lemmas.List.{take_rest}
use Rattle.printing.proofs.WatchedLaws.{reading_added}
use Rattle.printing.proofs.Page.put_reading.Goals as goal

pub returns : goal.returns
returns c =
    let a = c.args in
    let listed = c.rows_read-rows.result.now in
    let differs = λ (xs : List ℕ). list_any (λ n. not (nat_eq n a.pattern)) xs in
    let e : c.is_changed.result ≡ differs (drop (length listed) a.room.now) = c.is_changed.ensures ∙ ap differs (take_rest a.room.now (length listed)) in
    reading_added a.read a.stride a.layout a.pattern a.room.now listed c.rows_read-rows.ensures c.put_read_numbers.ensures c.put_rows_or_none.ensures
    (rw e at c.put_touched.ensures)
