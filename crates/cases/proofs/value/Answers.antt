-- `cases::value` takes one digit more at each byte.
use Rattle.std.proofs.Common.{arith}
use Rattle.std.proofs.lemmas.Grind.{common_steps}
use Rattle.cases.proofs.Steps.{value_none, value_more}
use Rattle.cases.proofs.value.Goals as goal

pub loop-b-init : goal.loop-b-init
loop-b-init c = (omega arith, value_none _ _)

pub loop-b-preserved : goal.loop-b-preserved
loop-b-preserved c = (omega arith, value_more _ _ c.loop-b.b-index _ _ c.loop-b.invariant.1 (grind (arith, common_steps)))
