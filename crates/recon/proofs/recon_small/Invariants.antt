-- `recon::recon_small`: the first r rows of the block have been copied.
use Rattle.laws.proofs.Whole.{Rows}
use Rattle.recon.specs.Recon.{block_at}
use Rattle.recon.proofs.recon_small.Given as goal

abbrev pub invariant-loop-r : goal.invariant-loop-r
invariant-loop-r l = Rows 0 l.w l.x l.y l.n (block_at l.coded l.pred l.coef l.n) l.fn.rec l.rec l.r
