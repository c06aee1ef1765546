-- `unit_maps::tell_row`: a turn stores one unit more in each map.
use Rattle.std.proofs.Common.{arith, refl}
use Rattle.laws.proofs.Planes.{rowed_none, rowed_more, rowed_all}
use Rattle.unit_maps.proofs.tell_row.Goals as goal

pub loop-j-init : goal.loop-j-init
loop-j-init c = (rowed_none _ _ _ _, rowed_none _ _ _ _, rowed_none _ _ _ _)

pub loop-j-preserved : goal.loop-j-preserved
loop-j-preserved c =
    let h = c.loop-j in (
      rowed_more _ _ _ _ _ h.j _ (omega arith) refl h.invariant.0,
      rowed_more _ _ _ _ _ h.j _ (omega arith) refl h.invariant.1,
      rowed_more _ _ _ _ _ h.j _ (omega arith) refl h.invariant.2,
    )

pub returns : goal.returns
returns c =
    let h = c.loop-j in
    (rowed_all _ _ _ _ _ _ h.j (omega arith) h.invariant.0, rowed_all _ _ _ _ _ _ h.j (omega arith) h.invariant.1, rowed_all _ _ _ _ _ _ h.j (omega arith) h.invariant.2)
