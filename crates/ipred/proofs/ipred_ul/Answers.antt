-- `ipred::ipred_ul`: a turn writes the two parts of one row more.
use Rattle.std.proofs.Common.{arith, refl}
use Rattle.laws.proofs.Whole.{rows_none}
use Rattle.ipred.proofs.Rows.{row_in_lem, next_row_done, all_rows, ul_row}
use Rattle.ipred.proofs.ipred_ul.Goals as goal

pub loop-i-init : goal.loop-i-init
loop-i-init c = rows_none _ _ _ _ _ _ _

pub overflow_mul-at : goal.overflow_mul-at
overflow_mul-at c = omega (arith, row_in_lem c.loop-i.i c.requires c.loop-i-test.true)

pub reverse_row-requires : goal.reverse_row-requires
reverse_row-requires c = omega (arith, row_in_lem c.loop-i.i c.requires c.loop-i-test.true)

pub overflow_add-at : goal.overflow_add-at
overflow_add-at c = omega (arith, row_in_lem c.loop-i.i c.requires c.loop-i-test.true)

pub copy_row-requires : goal.copy_row-requires
copy_row-requires c = omega (arith, row_in_lem c.loop-i.i c.requires c.loop-i-test.true, c.reverse_row.auto.block)

pub loop-i-preserved : goal.loop-i-preserved
loop-i-preserved c =
    let h = c.loop-i in
    next_row_done _ _ _ _ _ h.i _ (omega arith) (λ j p. refl)
    (ul_row _ _ h.i _ _ _ _ (omega arith) c.reverse_row.ensures c.copy_row.ensures) h.invariant

pub returns : goal.returns
returns c = all_rows _ _ c.loop-i.i c.requires (omega arith) c.loop-i.invariant
