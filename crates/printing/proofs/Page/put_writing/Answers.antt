-- `printing::Page::put_writing` meets its contract. Assumes nothing.
use Rattle.std.proofs.Common.{rules, ◌≡◌, ap, ◌∙◌, ℕ, List, not, nat_eq, min, length, drop}
use Rattle.std.specs.List.{list_any}
use Rattle.std.proofs.lemmas.List.{take_rest}
use Rattle.printing.specs.Watched.{sent}
use Rattle.printing.proofs.WatchedLaws.{writing_added}
use Rattle.printing.proofs.Page.put_writing.Goals as goal

pub returns : goal.returns
returns c =
    let a = c.args in
    let end = c.min-end.result in
    let e : c.min-end.result ≡ min (sent a.wrote) (length a.output.now) = search rules in
    let differs = λ (xs : List ℕ). list_any (λ n. not (nat_eq n a.pattern)) xs in
    let d : c.is_changed.result ≡ differs (drop end a.output.now) = c.is_changed.ensures ∙ ap differs (take_rest a.output.now end) in
    writing_added a.wrote a.pattern a.output.now end e c.put_written_numbers.ensures c.put_bytes_or_none.ensures (rw d at c.put_touched.ensures)
