-- What deblocking and the driver ask of a picture's walk.
-- Assumes nothing: these are definitions.
use Rattle.std.specs.Prelude.{ℕ, ◌*◌, ◌/◌, ◌≡◌, true, List, length, Ok}
use Rattle.def.specs.Picture.{size_ok, root_count}
use Rattle.split.specs.Picture.{picture_walk}

-- a picture of w by h luma samples whose walk is not refused
pub record Accepted (w h : ℕ) (splits : List ℕ) : Type 0 where
  pub size : size_ok w h ≡ true
  pub long : length splits ≡ 1024 * root_count w h
  pub walked : (picture_walk splits (w / 4) (h / 4)).answer ≡ Ok tt
