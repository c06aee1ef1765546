-- No number, or one in the range or not. Assumes nothing.
use Rattle.y4m_header.proofs.Forms.{term_no, term_some, term_none}
use Rattle.y4m_header.proofs.numbers.term_in.Goals as goal

pub returns-in_err-n : goal.returns-in_err-n
returns-in_err-n c = rw c.from_residual.ensures (term_no _ _ c.number_in.ensures c.in_err-n.was)

pub returns-then-n : goal.returns-then-n
returns-then-n c = term_some _ _ c.number_in.ensures _ c.in_ok-n.was c.if-n.true

pub returns-else-n : goal.returns-else-n
returns-else-n c = term_none _ _ c.number_in.ensures _ c.in_ok-n.was c.if-n.false
