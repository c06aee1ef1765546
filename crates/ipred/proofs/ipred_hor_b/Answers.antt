-- `ipred::ipred_hor_b`: a turn fills one row more with its sample of the left arm.
use Rattle.std.proofs.Common.{arith, refl}
use Rattle.laws.proofs.Whole.{rows_none}
use Rattle.ipred.proofs.Rows.{row_in_lem, next_row_done, all_rows}
use Rattle.ipred.proofs.ipred_hor_b.Goals as goal

pub loop-i-init : goal.loop-i-init
loop-i-init c = rows_none _ _ _ _ _ _ _

pub overflow_mul-i : goal.overflow_mul-i
overflow_mul-i c = omega (arith, row_in_lem c.loop-i.i c.requires c.loop-i-test.true)

pub fill_row-requires : goal.fill_row-requires
fill_row-requires c = omega (arith, row_in_lem c.loop-i.i c.requires c.loop-i-test.true)

pub loop-i-preserved : goal.loop-i-preserved
loop-i-preserved c =
    let h = c.loop-i in
    next_row_done _ _ _ _ _ h.i _ (omega arith) (λ j p. refl) c.fill_row.ensures h.invariant

pub returns : goal.returns
returns c = all_rows _ _ c.loop-i.i c.requires (omega arith) c.loop-i.invariant
