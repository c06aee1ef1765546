-- `cases::until` looks for what is not among the bytes that it has passed.
use Rattle.std.proofs.Common.{◌≡◌, ◌-◌, length}
use Rattle.cases.specs.Numbers.{first}
use Rattle.cases.proofs.until.Given as goal

abbrev pub invariant-loop-i : goal.invariant-loop-i
invariant-loop-i l = first l.wanted l.s (length l.s - l.at) l.at ≡ first l.wanted l.s (length l.s - l.i) l.i
