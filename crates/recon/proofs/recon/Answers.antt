-- `recon::recon`: the checks, and then one row that is the whole block.
use Rattle.std.proofs.Common.{arith, sym, ◌∙◌, mul-le-mul}
use Rattle.std.proofs.lemmas.Result.{err_from_is_err_and}
use Rattle.recon.proofs.Checks.{lent}
use Rattle.recon.proofs.Outcomes.{block_refused, block_done}
use Rattle.recon.proofs.recon.Goals as goal

pub returns-in_err-checked : goal.returns-in_err-checked
returns-in_err-checked c =
    let p = err_from_is_err_and c.from_residual.result c.from_residual.ensures.1 in
    rw (p.1, p.2) (block_refused _ _ c.checked.ensures _ c.in_err-checked.was)

pub overflow_mul-side : goal.overflow_mul-side
overflow_mul-side c =
    let l = lent _ _ _ _ (sym c.checked.ensures ∙ c.in_ok-checked.was) in
    omega (arith, mul-le-mul l.most l.most)

pub recon_row-requires : goal.recon_row-requires
recon_row-requires c =
    let l = lent _ _ _ _ (sym c.checked.ensures ∙ c.in_ok-checked.was) in
    (omega (arith, l.rec_long), omega (arith, l.pred_long), omega (arith, l.coef_long), l.good)

pub returns : goal.returns
returns c =
    let l = lent _ _ _ _ (sym c.checked.ensures ∙ c.in_ok-checked.was) in
    block_done _ _ c.checked.ensures _ c.in_ok-checked.was l.rec_long c.recon_row.ensures
