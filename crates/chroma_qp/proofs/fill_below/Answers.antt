-- `chroma_qp::fill_below`: a turn puts one entry more.
use Rattle.std.proofs.Common.{arith}
use Rattle.laws.proofs.Planes.{rowed_none, rowed_all}
use Rattle.chroma_qp.specs.Held.{held_below}
use Rattle.chroma_qp.proofs.Filled.{row_more}
use Rattle.chroma_qp.proofs.fill_below.Goals as goal

pub loop-k-init : goal.loop-k-init
loop-k-init c = rowed_none _ _ _ _

pub loop-k-preserved : goal.loop-k-preserved
unfolding held_below
loop-k-preserved c =
    row_more 0 _ _ _ _ c.loop-k.k _ _ (omega arith) (omega arith) c.put.ensures c.saturating_sub.ensures c.loop-k.invariant

pub returns : goal.returns
returns c = rowed_all _ _ _ _ _ _ c.loop-k.k (omega arith) c.loop-k.invariant
