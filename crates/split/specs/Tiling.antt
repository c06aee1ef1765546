-- Where a unit's leaf is, found by descent and without the walk's list.
-- Assumes nothing: these are definitions.
use Rattle.std.specs.Prelude.{List, ℕ, zero, suc, ◌+◌, ◌*◌, ◌/◌, ◌^◌, ◌≤◌, ◌<◌, ltb, get_or}
use Rattle.laws.specs.Index.{pick}
use Rattle.split.specs.Picture.{across, root_bytes}
use Rattle.split.specs.Walk.{Leaf, leaf, by_byte, place}

-- the unit of column u and row v is one of p's
pub record Holds (p : Leaf) (u v : ℕ) : Type 0 where
  pub left : p.x ≤ u
  pub right : u < p.x + p.side
  pub top : p.y ≤ v
  pub bottom : v < p.y + p.side

-- the leaf that holds a unit of the block at (x, y) of side 2 ^ k: the byte says whether to go down, the unit says where
unfoldable pub leaf_at : List ℕ → (k x y u v : ℕ) → Leaf
leaf_at s zero x y u v = leaf x y 1
leaf_at s (suc k) x y u v =
    by_byte (get_or s (place k x y) 0)
    (leaf x y (2 ^ suc k))
    (leaf_at s k (pick (ltb u (x + 2 ^ k)) x (x + 2 ^ k)) (pick (ltb v (y + 2 ^ k)) y (y + 2 ^ k)) u v)
    (leaf x y (2 ^ suc k))

-- the leaf of the picture's unit of column u and row v
unfoldable pub leaf_of : List ℕ → (w u v : ℕ) → Leaf
leaf_of s w u v = leaf_at (root_bytes s (v / 16 * across w + u / 16)) 4 (16 * (u / 16)) (16 * (v / 16)) u v
