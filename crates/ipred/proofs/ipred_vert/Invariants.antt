-- `ipred::ipred_vert`: the first i rows of the block have been written.
use Rattle.ipred.specs.Modes.{vertical}
use Rattle.ipred.proofs.Rows.{Filled}
use Rattle.ipred.proofs.ipred_vert.Given as goal

abbrev pub invariant-loop-i : goal.invariant-loop-i
invariant-loop-i l = Filled l.side (vertical l.side l.run) l.fn.block l.block l.i
