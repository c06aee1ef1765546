-- What is left of the header is what it comes to. Assumes nothing.
use Rattle.std.proofs.Common.{length, ◌-◌}
use Rattle.y4m_header.proofs.Lines.{Going}
use Rattle.y4m_header.proofs.words.words_in.Given as goal

abbrev pub invariant-loop-at : goal.invariant-loop-at
invariant-loop-at l = Going l.head l.said l.at

abbrev pub decreases-loop-at : goal.decreases-loop-at
decreases-loop-at l = length l.head - l.at
