-- A picture of 16 by 8 samples, the paper's sheet 11110: of its 1,024 split bytes the walk reaches five. A byte that it does not reach may be anything.
-- Assumes nothing.
use Prim.Native.Nat.{ℕ}
use mathlib.Core.List.{List, [], ◌∷◌}
use mathlib.Core.Path.{◌≡◌, refl}
use lib.ListN.{get_or, set, replicate}
use Rattle.split.specs.Walk.{walk, leaf_walk, by_byte, onward, in_turn}
use Rattle.reach_rules.specs.Reached.{picture_reached, reached, in_turn_reached, next_reached}

-- the blocks of 64, 32, 16, and the first of two of 8, are cut
abbrev bytes : List ℕ
bytes = set (set (set (set (replicate 1024 9) 136 1) 324 1) 546 1) 785 1

pub five : picture_reached (set bytes 787 0) 4 2 ≡ 136 ∷ 324 ∷ 546 ∷ 785 ∷ 787 ∷ []
unfolding reached in_turn_reached next_reached walk leaf_walk by_byte onward in_turn
five = refl
