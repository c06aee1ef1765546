-- `cases::value` has what the digits that it has passed come to.
use Rattle.std.proofs.Common.{◌≡◌, ◌<◌}
use Rattle.cases.specs.Numbers.{value_of}
use Rattle.cases.proofs.value.Given as goal

abbrev pub invariant-loop-b : goal.invariant-loop-b
invariant-loop-b l = (l.v < 1152921504606846976) × (l.v ≡ value_of l.s l.from l.b-index)
