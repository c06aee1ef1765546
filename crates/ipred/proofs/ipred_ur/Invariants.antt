-- `ipred::ipred_ur`: the first i rows of the block have been written.
use Rattle.ipred.specs.Modes.{up_right}
use Rattle.ipred.proofs.Rows.{Filled}
use Rattle.ipred.proofs.ipred_ur.Given as goal

abbrev pub invariant-loop-i : goal.invariant-loop-i
invariant-loop-i l = Filled l.side (up_right l.side l.run) l.fn.block l.block l.i
