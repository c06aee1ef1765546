-- `ipred::fill_row`: the first j samples of the row have been stored.
use Rattle.std.proofs.Common.{ℕ}
use Rattle.laws.proofs.Planes.{Rowed}
use Rattle.ipred.proofs.fill_row.Given as goal

abbrev pub invariant-loop-j : goal.invariant-loop-j
invariant-loop-j l = Rowed 0 l.at (λ (j : ℕ). l.v) l.fn.block l.block l.j
