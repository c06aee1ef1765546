-- `nbr::join_samples`: the first j samples have been joined.
use Rattle.std.proofs.Common.{ℕ, ◌+◌, ◌*◌, get_or}
use Rattle.nbr.proofs.Joins.{Joined}
use Rattle.nbr.proofs.join_samples.Given as goal

abbrev pub invariant-loop-j : goal.invariant-loop-j
invariant-loop-j l = Joined (λ (j : ℕ). get_or l.plane (l.from + j * l.step) 0) l.all l.j
