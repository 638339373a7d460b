-- `printing::Page::put_digits` meets its contract: the digits before the last come by the call of itself, with one digit less left. Assumes nothing.
use Rattle.std.proofs.Common.{◌<◌, arith}
use Rattle.printing.proofs.TextLaws.{digits_none, digits_one, digits_many}
use Rattle.printing.proofs.Page.+put_digits.Goals as goal

pub returns-then-left-eq0 : goal.returns-then-left-eq0
returns-then-left-eq0 t c = digits_none c.args.n c.if-left-eq0.true

pub returns-then-n-lt10 : goal.returns-then-n-lt10
returns-then-n-lt10 t c =
    let a = c.args in
    let some : 0 < a.left = omega (arith, c.if-left-eq0.false) in
    digits_one a.left a.n some c.if-n-lt10.true c.put_byte.ensures

pub returns : goal.returns
returns t c =
    let a = c.args in
    let some : 0 < a.left = omega (arith, c.if-left-eq0.false) in
    digits_many a.left a.n some c.if-n-lt10.false c.put_digits.ensures c.put_byte-2.ensures
