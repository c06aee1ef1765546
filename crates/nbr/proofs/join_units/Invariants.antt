-- `nbr::join_units`: the first i units have been joined.
use Rattle.std.proofs.Common.{◌*◌}
use Rattle.nbr.specs.Arms.{arm_at}
use Rattle.nbr.proofs.Joins.{Joined}
use Rattle.nbr.proofs.join_units.Given as goal

abbrev pub invariant-loop-i : goal.invariant-loop-i
invariant-loop-i l = Joined (arm_at l.arm l.n l.constrained l.plane l.words) l.all (l.i * l.n)
