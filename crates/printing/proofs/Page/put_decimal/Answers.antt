-- `printing::Page::put_decimal` meets its contract. Assumes nothing.
use native.Mathlib.Omega.{arith}
use Rattle.printing.specs.Text.{decimal}
use Rattle.printing.proofs.TextLaws.{digits_one}
use Rattle.printing.proofs.Page.put_decimal.Goals as goal

pub returns-then-n-lt10 : goal.returns-then-n-lt10
unfolding decimal
returns-then-n-lt10 c = digits_one 20 c.args.n (omega arith) c.if-n-lt10.true c.put_byte.ensures

pub returns : goal.returns
unfolding decimal
returns c = c.put_digits.ensures
