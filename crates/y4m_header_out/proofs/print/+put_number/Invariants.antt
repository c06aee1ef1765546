-- It calls itself on a tenth of the number, which is the measure. Assumes nothing.
use Rattle.y4m_header_out.proofs.print.+put_number.Given as goal

abbrev pub decreases-put_number : goal.decreases-put_number
decreases-put_number l = l.n
