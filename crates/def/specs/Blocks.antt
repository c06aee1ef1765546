-- What number 8 is given for: a block named by luma place and side, a unit, or a side alone.
-- Assumes nothing: these are definitions.
use Rattle.std.specs.Prelude.{ℕ, ◌+◌, ◌/◌, ◌%◌, Bool, List, [], ◌∷◌, leb, ltb, eqb}
use Rattle.laws.specs.Call.{all_of, any_of}

-- 4, 8, 16, 32 or 64
unfoldable pub block_side_ok : ℕ → Bool
block_side_ok side = any_of (eqb side 4 ∷ eqb side 8 ∷ eqb side 16 ∷ eqb side 32 ∷ eqb side 64 ∷ [])

-- 2, 4, 8, 16, 32 or 64: a side alone, for a mode or residual addition
unfoldable pub component_side_ok : ℕ → Bool
component_side_ok side = any_of (eqb side 2 ∷ eqb side 4 ∷ eqb side 8 ∷ eqb side 16 ∷ eqb side 32 ∷ eqb side 64 ∷ [])

-- such a block, on a multiple of its side, inside the picture
abbrev pub block_tests : (w h x y side : ℕ) → List Bool
block_tests w h x y side = block_side_ok side ∷ eqb (x % side) 0 ∷ eqb (y % side) 0 ∷ leb (x + side) w ∷ leb (y + side) h ∷ []

unfoldable pub block_ok : (w h x y side : ℕ) → Bool
block_ok w h x y side = all_of (block_tests w h x y side)

-- a unit inside the picture
unfoldable pub unit_ok : (w h x y : ℕ) → Bool
unit_ok w h x y = all_of (ltb x (w / 4) ∷ ltb y (h / 4) ∷ [])
