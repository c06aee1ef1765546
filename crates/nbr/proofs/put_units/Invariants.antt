-- `nbr::put_units`: the first i units have been written.
use Rattle.std.proofs.Common.{◌*◌}
use Rattle.laws.proofs.Planes.{Rowed}
use Rattle.nbr.specs.Arms.{arm_at}
use Rattle.nbr.proofs.put_units.Given as goal

abbrev pub invariant-loop-i : goal.invariant-loop-i
invariant-loop-i l = Rowed 0 l.to (arm_at l.arm l.n l.constrained l.plane l.words) l.fn.run l.run (l.i * l.n)
