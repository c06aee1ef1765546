-- How large things are on the ward's screen: what a run shows along a side, the planes of a format, and what a window has of each.
-- Assumes nothing: these are definitions.
use Rattle.std.specs.Prelude.{ℕ, ◌-◌, ◌*◌, ◌/◌, ltb, eqb}
use Rattle.laws.specs.Index.{pick}
use Rattle.decoder.specs.Face.{Format}
use Rattle.decoder.specs.Face.formats.{Grey, Colour}
use Rattle.ward_check.specs.declared.Run.{Run}
use Rattle.ward_check.specs.declared.Run.TheVariants.{Full, Preview}
use Rattle.ward_check.specs.declared.Window.{Window}

-- so many samples along a side, in what a run shows
abbrev pub across : Run → ℕ → ℕ
across Full n = n
across Preview n = n / 2

-- Y alone, or Y, U and V: the planes 0, 1 and 2
abbrev pub planes_of : Format → ℕ
planes_of Grey = 1
planes_of Colour = 3

-- a place or a length counted in luma samples, in the samples of plane k
abbrev pub in_plane : (k n : ℕ) → ℕ
in_plane k n = pick (eqb k 0) n (n / 2)

-- samples of plane k; a plane that the format does not have is lent with none
unfoldable pub plane_length : Format → (k w h : ℕ) → ℕ
plane_length f k w h = pick (ltb k (planes_of f)) (in_plane k w * in_plane k h) 0

-- samples of a row that a run gives of plane k, and its rows
abbrev pub columns_of : Run → Window → ℕ → ℕ
columns_of run c k = across run (in_plane k (c.right - c.left))

abbrev pub rows_of : Run → Window → ℕ → ℕ
rows_of run c k = across run (in_plane k (c.bottom - c.top))
