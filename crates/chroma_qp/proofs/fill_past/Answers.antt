-- `chroma_qp::fill_past`: a turn puts one entry more.
use Rattle.std.proofs.Common.{arith, refl}
use Rattle.laws.proofs.Planes.{rowed_none, rowed_all}
use Rattle.chroma_qp.specs.Held.{held_past}
use Rattle.chroma_qp.proofs.Filled.{row_more}
use Rattle.chroma_qp.proofs.fill_past.Goals as goal

pub loop-m-init : goal.loop-m-init
loop-m-init c = rowed_none _ _ _ _

pub loop-m-preserved : goal.loop-m-preserved
unfolding held_past
loop-m-preserved c =
    row_more _ _ _ _ _ c.loop-m.m _ _ (omega arith) refl c.put.ensures c.min.ensures c.loop-m.invariant

pub returns : goal.returns
returns c = rowed_all _ _ _ _ _ _ c.loop-m.m (omega arith) c.loop-m.invariant
