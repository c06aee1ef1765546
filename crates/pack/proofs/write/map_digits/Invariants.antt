-- The roots before i are walked to the end, and their digits are counted. Assumes nothing.
use Rattle.std.specs.Prelude.{Ok}
use mathlib.Core.Path.{◌≡◌}
use Prim.Native.Nat.{◌/◌}
use lib.ListN.{length}
use Rattle.marks_rules.specs.Pictures.{digits_of}
use Rattle.split.specs.Picture.{root_walk}
use Rattle.split.specs.Walk.{in_turn}
use Rattle.pack.proofs.write.map_digits.Given as goal

abbrev pub invariant-loop-i : goal.invariant-loop-i
invariant-loop-i l =
    (l.digits ≡ length (digits_of l.splits (l.w / 4) (l.h / 4) l.i))
    × ((in_turn (root_walk l.splits (l.w / 4) (l.h / 4)) l.i).answer ≡ Ok tt)
    × (length l.list ≡ 85)
