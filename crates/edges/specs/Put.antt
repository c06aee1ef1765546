-- What the functions of the listing ask and leave behind. They work in luma samples; 4 of them make a unit, and no position of theirs lies inside one.
-- Assumes nothing: these are definitions.
use Rattle.std.specs.Prelude.{Bool, ◌&&◌, List, [], ◌++◌, ◌≡◌, ℕ, ◌+◌, ◌*◌, ◌/◌, ◌%◌, ◌≤◌, ◌<◌, ltb, eqb, length, get_or}
use Rattle.std.proofs.lemmas.List.Edits.{sets}
use Rattle.laws.specs.Index.{pick}
use Rattle.laws.specs.Orders.{each}
use Rattle.split.specs.Edges.{pass_of, stretch, edge_numbers}
use Rattle.split.specs.Stored.{LeafAt}

-- numbers written to a list from a place on, and the next place
pub record Put (vs : List ℕ) (out : List ℕ) (at : ℕ) (out' : List ℕ) (next : ℕ) : Type 0 where
  pub count : next ≡ at + length vs
  pub put : out' ≡ sets out at vs

-- the numbers of a stretch of n edges, from `cross` and `along`, in luma samples
abbrev pub stretch_numbers : Bool → (cross along n : ℕ) → List ℕ
stretch_numbers hor cross along n = each edge_numbers (stretch (pass_of hor) (cross / 4) (along / 4) n)

-- those of a leaf's near edge, unless it is the picture's side, and with limit 5 of the one between the halves of a leaf of 64
abbrev pub near_numbers : Bool → (cross along n : ℕ) → List ℕ
near_numbers hor cross along n = pick (ltb 0 cross) (stretch_numbers hor cross along n) []

abbrev pub leaf_edge_numbers : (hor halved : Bool) → (cross along side : ℕ) → List ℕ
leaf_edge_numbers hor halved cross along side =
    near_numbers hor cross along (side / 4) ++ pick (halved && eqb side 64) (stretch_numbers hor (cross + 32) along 16) []

-- where a stretch of n edges may start
pub record Starts (cross along n : ℕ) : Type 0 where
  pub across : cross % 4 ≡ 0
  pub down : along % 4 ≡ 0
  pub near : cross ≤ 8192
  pub far : along + 4 * n ≤ 8192

-- n leaves stand in the list, and `top` rows of units further down each lies in a picture
pub record ReadyAt (top : ℕ) (list : List ℕ) (n : ℕ) : Type 0 where
  pub long : 3 * n ≤ length list
  pub leaves : (j : ℕ) → j < n → LeafAt (get_or list (3 * j) 0) (get_or list (3 * j + 1) 0 + 4 * top) (get_or list (3 * j + 2) 0)
