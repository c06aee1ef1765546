-- `rows::run::put_zeros`: a turn stores one byte more.
use Rattle.std.proofs.Common.{arith, refl}
use Rattle.laws.proofs.Fill.{upto_none, upto_more}
use Rattle.rows.proofs.run.put_zeros.Goals as goal

pub loop-j-init : goal.loop-j-init
loop-j-init c = upto_none _ _ _

pub loop-j-preserved : goal.loop-j-preserved
loop-j-preserved c = upto_more _ _ _ _ c.loop-j.j _ (omega (arith, c.loop-j-test.true, c.requires)) refl c.loop-j.invariant

pub returns : goal.returns
returns c = let l = c.loop-j in record { long = l.invariant.long; at = λ i h. l.invariant.below i (omega (arith, h, c.loop-j-test.false)) }
