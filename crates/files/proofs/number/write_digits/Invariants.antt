-- The digits still to write, and then those written, are the digits of n.
use mathlib.Core.Path.{◌≡◌}
use mathlib.Core.List.{◌++◌}
use Prim.Native.Nat.{◌≤◌}
use lib.ListN.{length, drop}
use lib.Seq.{slice}
use Rattle.files.specs.Digits.{last_digits}
use Rattle.files.proofs.number.write_digits.Given as goal

abbrev pub invariant-loop-i : goal.invariant-loop-i
invariant-loop-i l = (length l.out ≡ length l.initial.out) × (l.i ≤ l.k) × (last_digits l.i l.rest ++ slice l.i l.k l.out ≡ last_digits l.k l.n) × (drop l.k l.out ≡ drop l.k l.initial.out)
