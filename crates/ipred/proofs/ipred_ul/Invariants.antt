-- `ipred::ipred_ul`: the first i rows of the block have been written.
use Rattle.ipred.specs.Modes.{up_left}
use Rattle.ipred.proofs.Rows.{Filled}
use Rattle.ipred.proofs.ipred_ul.Given as goal

abbrev pub invariant-loop-i : goal.invariant-loop-i
invariant-loop-i l = Filled l.side (up_left l.side l.run) l.fn.block l.block l.i
