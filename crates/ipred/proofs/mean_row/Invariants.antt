-- `ipred::mean_row`: the first j samples of the row have been stored.
use Rattle.std.proofs.Common.{ℕ, ◌+◌, ◌/◌, get_or}
use Rattle.laws.proofs.Planes.{Rowed}
use Rattle.ipred.proofs.mean_row.Given as goal

abbrev pub invariant-loop-j : goal.invariant-loop-j
invariant-loop-j l = Rowed 0 l.at (λ (j : ℕ). (get_or l.run (l.a + j) 0 + get_or l.run (l.b + j) 0) / 2) l.fn.block l.block l.j
