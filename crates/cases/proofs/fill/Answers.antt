-- `cases::fill` takes one number more at each place of out.
use Rattle.std.proofs.Common.{arith}
use Rattle.cases.proofs.Fills.{filling_none, filling_more, filling_all}
use Rattle.cases.proofs.fill.Goals as goal

pub loop-v-init : goal.loop-v-init
loop-v-init g c = filling_none _ _ _ _ _

pub loop-v-preserved : goal.loop-v-preserved
loop-v-preserved g c =
    let l = c.loop-v in
    filling_more _ _ _ _ _ _ l.v-index _ _ _ (omega arith) c.number-n.ensures c.from_written.ensures l.invariant

pub returns : goal.returns
returns g c = filling_all _ _ _ _ _ _ c.loop-v.v-index _ (omega arith) c.loop-v.invariant
