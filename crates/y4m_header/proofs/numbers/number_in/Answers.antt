-- Assumes nothing.
use Rattle.y4m_header.proofs.Forms.{five_digits}
use Rattle.y4m_header.proofs.numbers.number_in.Goals as goal

pub returns : goal.returns
returns c = five_digits _ _ c.number_in.ensures
