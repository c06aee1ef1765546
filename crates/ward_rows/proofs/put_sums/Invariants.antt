-- `ward_rows::put_sums`: the first i samples have been stored.
use Rattle.laws.proofs.Planes.{Rowed}
use Rattle.ward_rows.specs.Samples.{pair_of}
use Rattle.ward_rows.proofs.put_sums.Given as goal

abbrev pub invariant-loop-i : goal.invariant-loop-i
invariant-loop-i l = Rowed 0 l.at (pair_of l.sums) l.fn.out l.out l.i
