-- `ipred::sum_of`: the sum is that of the first j samples, none of which is over 65535.
use Rattle.std.proofs.Common.{◌≡◌, ℕ, ◌+◌, ◌*◌, ◌≤◌, get_or}
use Rattle.ipred.specs.Modes.{sum_below}
use Rattle.ipred.proofs.sum_of.Given as goal

abbrev pub invariant-loop-j : goal.invariant-loop-j
invariant-loop-j l = (l.sum ≡ sum_below (λ (k : ℕ). get_or l.run (l.from + k) 0) l.j) × (l.sum ≤ 65535 * l.j)
