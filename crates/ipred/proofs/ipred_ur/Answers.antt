-- `ipred::ipred_ur`: a turn writes the means of one row more.
use Rattle.std.proofs.Common.{arith}
use Rattle.laws.proofs.Whole.{rows_none}
use Rattle.ipred.proofs.Rows.{row_in_lem, next_row_done, all_rows, ur_at}
use Rattle.ipred.proofs.ipred_ur.Goals as goal

pub loop-i-init : goal.loop-i-init
loop-i-init c = rows_none _ _ _ _ _ _ _

pub overflow_mul-i : goal.overflow_mul-i
overflow_mul-i c = omega (arith, row_in_lem c.loop-i.i c.requires.0 c.loop-i-test.true)

pub mean_row-requires : goal.mean_row-requires
mean_row-requires c =
    let inside = row_in_lem c.loop-i.i c.requires.0 c.loop-i-test.true in
    (omega (arith, inside), omega arith, omega arith, c.requires.1)

pub loop-i-preserved : goal.loop-i-preserved
loop-i-preserved c =
    let h = c.loop-i in
    next_row_done _ _ _ _ _ h.i _ (omega arith) (ur_at _ _ h.i) c.mean_row.ensures h.invariant

pub returns : goal.returns
returns c = all_rows _ _ c.loop-i.i c.requires.0 (omega arith) c.loop-i.invariant
