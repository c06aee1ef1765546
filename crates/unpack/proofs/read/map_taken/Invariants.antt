-- The roots before i have taken their digits. Assumes nothing.
use mathlib.Core.Path.{◌≡◌}
use Prim.Native.Nat.{◌/◌}
use lib.ListN.{length}
use Rattle.unpack.proofs.Reading.{At}
use Rattle.unpack.proofs.read.map_taken.Given as goal

abbrev pub invariant-loop-i : goal.invariant-loop-i
invariant-loop-i l = (length l.list ≡ 85) × At (l.w / 4) (l.h / 4) l.src l.from l.to l.i l.used
