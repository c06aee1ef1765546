-- `ipred::ipred_hor_b`: the first i rows of the block have been written.
use Rattle.ipred.specs.Modes.{horizontal}
use Rattle.ipred.proofs.Rows.{Filled}
use Rattle.ipred.proofs.ipred_hor_b.Given as goal

abbrev pub invariant-loop-i : goal.invariant-loop-i
invariant-loop-i l = Filled l.side (horizontal l.side l.run) l.fn.block l.block l.i
