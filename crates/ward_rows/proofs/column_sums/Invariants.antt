-- `ward_rows::column_sums`: the first i columns have been added.
use Rattle.std.proofs.Common.{◌≡◌, length}
use Rattle.laws.proofs.Fill.{Upto}
use Rattle.ward_rows.specs.Samples.{column_at}
use Rattle.ward_rows.proofs.column_sums.Given as goal

abbrev pub invariant-loop-i : goal.invariant-loop-i
invariant-loop-i l = (length l.initial.sums ≡ 32) × Upto 0 (column_at l.p l.upper l.lower) l.initial.sums l.sums l.i
