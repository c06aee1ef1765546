-- `nbr::put_samples`: the first j samples have been stored.
use Rattle.std.proofs.Common.{ℕ, ◌+◌, ◌*◌, get_or}
use Rattle.laws.proofs.Planes.{Rowed}
use Rattle.nbr.proofs.put_samples.Given as goal

abbrev pub invariant-loop-j : goal.invariant-loop-j
invariant-loop-j l = Rowed 0 l.to (λ (j : ℕ). get_or l.plane (l.from + j * l.step) 0) l.fn.run l.run l.j
