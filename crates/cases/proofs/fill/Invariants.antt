-- `cases::fill` has the numbers that it has passed at the front of out, and stands after them.
use Rattle.std.proofs.Common.{false}
use Rattle.cases.specs.Numbers.{written}
use Rattle.cases.proofs.Fills.{Filling}
use Rattle.cases.proofs.fill.Given as goal

abbrev pub invariant-loop-v : goal.invariant-loop-v
invariant-loop-v g l = Filling (g.T.FromWritten.read (written false 0 0)) g.T.FromWritten.read l.s l.at l.initial.out l.out l.v-index l.place
