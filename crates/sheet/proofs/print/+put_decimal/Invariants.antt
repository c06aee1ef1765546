-- It calls itself on a tenth of the number, which is the measure. Assumes nothing.
use Rattle.sheet.proofs.print.+put_decimal.Given as goal

abbrev pub decreases-put_decimal : goal.decreases-put_decimal
decreases-put_decimal l = l.n
