-- `recon::recon_small`: the array holds the block flat, and a turn copies one row more of it.
use Rattle.std.proofs.Common.{arith, ℕ, ◌*◌, ◌≤◌, refl, replicate, mul-le-mul}
use Rattle.laws.proofs.Whole.{rows_none, rows_more, rows_all_lem}
use Rattle.recon.proofs.Rows.{placed, row_front}
use Rattle.recon.proofs.recon_small.Goals as goal

-- a block of at most 4 by 4 fits the array
few : (n : ℕ) → n ≤ 4 → n * n ≤ 16
few n h = mul-le-mul h h

pub overflow_mul-n : goal.overflow_mul-n
overflow_mul-n c = omega (arith, few c.args.n c.requires.1)

pub recon_row-requires : goal.recon_row-requires
recon_row-requires c = (omega (arith, few c.args.n c.requires.1), omega (arith, c.requires.0.pred_long), omega (arith, c.requires.0.coef_long), c.requires.0.good)

pub loop-r-init : goal.loop-r-init
loop-r-init c = rows_none _ _ _ _ _ _ _

pub overflow_mul-y : goal.overflow_mul-y
overflow_mul-y c = let p = placed c.loop-r.r c.requires.0 c.loop-r-test.true in omega (arith, p.plane)

pub overflow_add-y-in-loop-r : goal.overflow_add-y-in-loop-r
overflow_add-y-in-loop-r c = let p = placed c.loop-r.r c.requires.0 c.loop-r-test.true in omega (arith, p.plane)

pub overflow_mul-r : goal.overflow_mul-r
overflow_mul-r c = let p = placed c.loop-r.r c.requires.0 c.loop-r-test.true in omega (arith, p.block, few c.args.n c.requires.1)

pub copy_row-requires : goal.copy_row-requires
copy_row-requires c =
    let p = placed c.loop-r.r c.requires.0 c.loop-r-test.true in
    (omega (arith, p.plane), omega (arith, p.block, few c.args.n c.requires.1))

pub loop-r-preserved : goal.loop-r-preserved
loop-r-preserved c =
    let p = placed c.loop-r.r c.requires.0 c.loop-r-test.true in
    rows_more _ _ _ _ _ _ _ _ _ c.loop-r.r _ _ (omega arith) (omega arith) refl
    (λ j q.
    row_front c.args.coded c.args.pred.now c.args.coef.now (replicate 16 0) _ _ _ (few c.args.n c.requires.1) (omega (arith, p.block))
    c.recon_row.ensures)
    c.copy_row.ensures c.loop-r.invariant

pub returns : goal.returns
returns c = rows_all_lem _ _ _ _ _ _ _ _ c.loop-r.r _ (omega arith) c.loop-r.invariant
