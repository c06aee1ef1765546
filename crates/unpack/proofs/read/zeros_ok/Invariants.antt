-- The bits before `at` are 0. Assumes nothing.
use mathlib.Core.Bool.{true}
use mathlib.Core.Path.{◌≡◌}
use Prim.Native.Nat.{◌-◌, ◌≤◌}
use Rattle.laws.specs.Scan.{all_below}
use Rattle.unpack.proofs.Zeros.{is_zero}
use Rattle.unpack.proofs.read.zeros_ok.Given as goal

abbrev pub invariant-loop-at : goal.invariant-loop-at
invariant-loop-at l = (l.at - l.from ≤ l.to - l.from) × (all_below (is_zero l.src l.from) (l.at - l.from) ≡ true)
