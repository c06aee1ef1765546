-- `ward_rows::put_singly`: the first i samples have been stored.
use Rattle.laws.proofs.Planes.{Rowed}
use Rattle.ward_rows.specs.Rows.{half_at}
use Rattle.ward_rows.proofs.put_singly.Given as goal

abbrev pub invariant-loop-i : goal.invariant-loop-i
invariant-loop-i l = Rowed 0 l.at (half_at l.p l.upper l.lower) l.fn.out l.out l.i
