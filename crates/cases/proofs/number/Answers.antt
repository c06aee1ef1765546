-- `cases::number`: no byte, none of a number, a minus first, or digits alone.
use Rattle.std.proofs.Common.{arith}
use Rattle.cases.proofs.Steps.{number_past, number_none, number_below, number_above}
use Rattle.cases.proofs.number.Goals as goal

pub returns-then-s-at : goal.returns-then-s-at
returns-then-s-at c = number_past _ _ (omega arith)

pub returns-then-start-stop : goal.returns-then-start-stop
returns-then-start-stop c = number_none _ _ _ _ (omega arith) c.until-start.ensures.0 c.until-stop.ensures.0 (omega arith)

pub returns-then-s-start-eq45 : goal.returns-then-s-start-eq45
returns-then-s-start-eq45 c =
    number_below _ _ c.until-start.result _ (omega arith) c.until-start.ensures.0 c.until-stop.ensures.0 _ (λ e. omega arith) c.if-s-start-eq45.true c.value.ensures

pub returns : goal.returns
returns c =
    number_above _ _ c.until-start.result _ (omega arith) c.until-start.ensures.0 c.until-stop.ensures.0 _ (λ e. omega arith) c.if-s-start-eq45.false c.value-2.ensures
