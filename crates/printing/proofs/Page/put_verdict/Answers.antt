-- `printing::Page::put_verdict` meets its contract: the text and the numbers of each of the two endings. Assumes nothing.
use native.Mathlib.Omega.{arith}
use Rattle.printing.proofs.TextLaws.{verdict_ok, verdict_no}
use Rattle.printing.proofs.Page.put_verdict.Goals as goal

pub returns-then-ending-eq0 : goal.returns-then-ending-eq0
returns-then-ending-eq0 c =
    let e = c.args.ending in
    verdict_ok e.number e.count e.place (omega arith) c.put_text.ensures c.put_decimal.ensures

pub returns-else-ending-eq0 : goal.returns-else-ending-eq0
returns-else-ending-eq0 c =
    let e = c.args.ending in
    let number = rw c.from.ensures at c.put_decimal-else-ending-eq0.ensures in
    verdict_no e.number e.count e.place (λ h. omega arith) c.put_text-else-ending-eq0.ensures number c.put_text-else-ending-eq0-2.ensures c.put_decimal-else-ending-eq0-2.ensures
