-- What falls is how many digits are left at the most.
use Rattle.printing.proofs.Page.+put_digits.Given as goal

abbrev pub decreases-put_digits : goal.decreases-put_digits
decreases-put_digits l = l.left
