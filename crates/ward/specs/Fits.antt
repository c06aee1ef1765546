-- What the row of a turn is lent where nothing but its samples can be refused.
-- Assumes nothing: these are definitions.
use Rattle.std.specs.Prelude.{ℕ, ◌*◌, ◌≤◌, ◌<◌}
use Rattle.ward_check.specs.Sizes.{in_plane, rows_of}
use Rattle.ward_check.specs.declared.Window.{Window}
use Rattle.ward.specs.declared.Turn.{Turn}

-- the turn's row of the window lies in a plane of rows of w, counted in luma samples, and has room
pub record Fits (t : Turn) (w : ℕ) (c : Window) (long out : ℕ) : Type 0 where
  pub columns : c.left < c.right
  pub rows : c.top < c.bottom
  pub wide : c.right ≤ w
  pub small : w ≤ 4096
  pub low : c.bottom ≤ 4096
  pub lent : in_plane t.plane c.bottom * in_plane t.plane w ≤ long
  pub room : w ≤ out
  pub plane : t.plane < 3
  pub row : t.row < rows_of t.run c t.plane
