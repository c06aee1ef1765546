-- The loop over a picture's roots: none so far was refused. Assumes nothing.
use Rattle.std.specs.Prelude.{Ok}
use mathlib.Core.Path.{◌≡◌}
use Prim.Native.Nat.{◌/◌}
use lib.ListN.{length}
use Rattle.split.specs.Picture.{root_walk}
use Rattle.split.specs.Walk.{in_turn}
use Rattle.split.proofs.walk_picture.Given as goal

abbrev pub invariant-loop-i : goal.invariant-loop-i
invariant-loop-i l = (length l.list ≡ 768) × ((in_turn (root_walk l.splits (l.w / 4) (l.h / 4)) l.i).answer ≡ Ok tt)
