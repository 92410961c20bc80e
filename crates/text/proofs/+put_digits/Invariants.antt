-- A number above 99 is its hundreds and then its last two digits. What falls from call to call is the number.
use Rattle.text.proofs.+put_digits.Given as goal

abbrev pub decreases-put_digits : goal.decreases-put_digits
decreases-put_digits l = l.n
