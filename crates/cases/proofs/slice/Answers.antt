-- `cases::slice`: the length, and then the front of the room, filled.
use Rattle.cases.proofs.Fills.{took}
use Rattle.cases.proofs.slice.Goals as goal

pub returns : goal.returns
returns g c = took _ _ _ _ _ _ _ _ c.number-n.ensures c.min-len.ensures c.fill-next.ensures
