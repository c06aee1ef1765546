-- `recon::recon_rows`: a turn writes one row more of the block.
use Rattle.std.proofs.Common.{arith, refl}
use Rattle.laws.proofs.Whole.{rows_none, rows_more, rows_all_lem}
use Rattle.recon.proofs.Rows.{placed}
use Rattle.recon.proofs.recon_rows.Goals as goal

pub loop-r-init : goal.loop-r-init
loop-r-init c = rows_none _ _ _ _ _ _ _

pub overflow_mul-y : goal.overflow_mul-y
overflow_mul-y c = let p = placed c.loop-r.r c.requires c.loop-r-test.true in omega (arith, p.plane)

pub overflow_add-y-in-loop-r : goal.overflow_add-y-in-loop-r
overflow_add-y-in-loop-r c = let p = placed c.loop-r.r c.requires c.loop-r-test.true in omega (arith, p.plane)

pub overflow_mul-r : goal.overflow_mul-r
overflow_mul-r c = let p = placed c.loop-r.r c.requires c.loop-r-test.true in omega (arith, p.block)

pub recon_row-requires : goal.recon_row-requires
recon_row-requires c =
    let p = placed c.loop-r.r c.requires c.loop-r-test.true in
    (omega (arith, p.plane), omega (arith, p.block), omega (arith, p.block), c.requires.good)

pub loop-r-preserved : goal.loop-r-preserved
loop-r-preserved c =
    rows_more _ _ _ _ _ _ _ _ _ c.loop-r.r _ _ (omega arith) (omega arith) refl (λ j p. refl) c.recon_row.ensures c.loop-r.invariant

pub returns : goal.returns
returns c = rows_all_lem _ _ _ _ _ _ _ _ c.loop-r.r _ (omega arith) c.loop-r.invariant
