-- `ward_rows::put_full`: the first i samples of the row have been stored.
use Rattle.laws.proofs.Planes.{Rowed}
use Rattle.ward_rows.specs.Rows.{full_at}
use Rattle.ward_rows.proofs.put_full.Given as goal

abbrev pub invariant-loop-i : goal.invariant-loop-i
invariant-loop-i l = Rowed 0 0 (full_at l.p l.from) l.fn.out l.out l.i
