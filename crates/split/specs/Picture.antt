-- The walk of a picture: its roots in raster order. w and h are the picture's sides in units, s the split bytes of all its roots.
-- Assumes nothing: these are definitions.
use Rattle.std.specs.Prelude.{List, [], ◌++◌, ℕ, zero, suc, ◌+◌, ◌*◌, ◌/◌, ◌%◌, take, drop}
use Rattle.split.specs.Walk.{Leaf, Walk, in_turn, walk}

-- how many roots it takes to cover n units
abbrev pub across : ℕ → ℕ
across n = (n + 15) / 16

abbrev pub roots : ℕ → ℕ → ℕ
roots w h = across w * across h

-- the bytes of root i, and where it stands
abbrev pub root_bytes : List ℕ → ℕ → List ℕ
root_bytes s i = take 1024 (drop (1024 * i) s)

abbrev pub root_x : ℕ → ℕ → ℕ
root_x w i = 16 * (i % across w)

abbrev pub root_y : ℕ → ℕ → ℕ
root_y w i = 16 * (i / across w)

abbrev pub root_walk : List ℕ → (w h i : ℕ) → Walk
root_walk s w h i = walk (root_bytes s i) w h 4 (root_x w i) (root_y w i)

-- the walk of the whole picture: its answer is that of `check`
abbrev pub picture_walk : List ℕ → ℕ → ℕ → Walk
picture_walk s w h = in_turn (root_walk s w h) (roots w h)

-- the leaves of root i, of the first n roots, and of all
abbrev pub root_leaves : List ℕ → (w h i : ℕ) → List Leaf
root_leaves s w h i = (root_walk s w h i).list

unfoldable pub leaves_of : List ℕ → (w h n : ℕ) → List Leaf
leaves_of s w h zero = []
leaves_of s w h (suc n) = leaves_of s w h n ++ root_leaves s w h n

abbrev pub all_leaves : List ℕ → ℕ → ℕ → List Leaf
all_leaves s w h = leaves_of s w h (roots w h)
