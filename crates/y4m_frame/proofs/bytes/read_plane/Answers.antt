-- After i turns the first i samples are there. Assumes nothing.
use Rattle.std.proofs.Common.{arith}
use Rattle.laws.proofs.Fill.{upto_none, upto_more, upto_all}
use Rattle.y4m_frame.proofs.bytes.read_plane.Goals as goal

pub loop-i-init : goal.loop-i-init
loop-i-init c = upto_none _ _ _

pub loop-i-preserved : goal.loop-i-preserved
loop-i-preserved c = let l = c.loop-i in upto_more 0 _ _ _ l.i _ (omega arith) c.sample.ensures l.invariant

pub returns : goal.returns
returns c = let l = c.loop-i in upto_all 0 _ _ _ l.i (omega arith) l.invariant
