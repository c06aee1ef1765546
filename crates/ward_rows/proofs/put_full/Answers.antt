-- `ward_rows::put_full`: a turn stores one sample more of the row.
use Rattle.std.proofs.Common.{arith}
use Rattle.laws.proofs.Planes.{rowed_none, rowed_all}
use Rattle.ward_rows.proofs.Stores.{first_more}
use Rattle.ward_rows.proofs.put_full.Goals as goal

pub loop-i-init : goal.loop-i-init
loop-i-init c = rowed_none _ _ _ _

pub screen-requires : goal.screen-requires
screen-requires c = c.requires.0 c.loop-i.i (omega arith)

pub loop-i-preserved : goal.loop-i-preserved
loop-i-preserved c = first_more _ _ _ c.loop-i.i _ (omega arith) c.screen.ensures.0 c.loop-i.invariant

pub returns : goal.returns
returns c = rowed_all _ _ _ _ _ _ c.loop-i.i (omega arith) c.loop-i.invariant
