-- `driver::component::copy_row`: a turn stores one sample more of the row.
use Rattle.std.proofs.Common.{arith, refl}
use Rattle.laws.proofs.Planes.{rowed_none, rowed_more, rowed_all}
use Rattle.driver.proofs.component.copy_row.Goals as goal

pub loop-j-init : goal.loop-j-init
loop-j-init c = rowed_none _ _ _ _

pub loop-j-preserved : goal.loop-j-preserved
loop-j-preserved c = rowed_more _ _ _ _ _ c.loop-j.j _ (omega arith) refl c.loop-j.invariant

pub returns : goal.returns
returns c = rowed_all _ _ _ _ _ _ c.loop-j.j (omega arith) c.loop-j.invariant
