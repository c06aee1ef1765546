-- `recon::add_row`: the first j samples of the row have been stored.
use Rattle.std.proofs.Common.{ℕ, ◌+◌, pos, ◌+ℤ◌, get_or}
use Rattle.laws.specs.Clip.{sample_z}
use Rattle.laws.proofs.Planes.{Rowed}
use Rattle.recon.proofs.add_row.Given as goal

abbrev pub invariant-loop-j : goal.invariant-loop-j
invariant-loop-j l =
    Rowed 0 l.at (λ (j : ℕ). sample_z (pos (get_or l.pred (l.from + j) 0) +ℤ get_or l.coef (l.from + j) (pos 0))) l.fn.rec l.rec l.j
