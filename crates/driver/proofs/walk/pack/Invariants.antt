-- `driver::walk::pack`: the first j leaves have been packed.
use Rattle.driver.specs.Packed.{Packed}
use Rattle.driver.proofs.walk.pack.Given as goal

abbrev pub invariant-loop-j : goal.invariant-loop-j
invariant-loop-j l = Packed l.list l.j l.leaves
