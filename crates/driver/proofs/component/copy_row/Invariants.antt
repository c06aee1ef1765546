-- `driver::component::copy_row`: the first j samples of the row have been stored.
use Rattle.std.proofs.Common.{ℕ, ◌+◌, get_or}
use Rattle.laws.proofs.Planes.{Rowed}
use Rattle.driver.proofs.component.copy_row.Given as goal

abbrev pub invariant-loop-j : goal.invariant-loop-j
invariant-loop-j l = Rowed 0 l.at (λ (j : ℕ). get_or l.given (l.from + j) 0) l.fn.to l.to l.j
