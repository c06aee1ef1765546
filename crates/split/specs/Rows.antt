-- The edges of a picture told without the walk: by the leaves of the two units that meet there; and the list of them row by row, left to right.
-- Assumes nothing: these are definitions.
use Rattle.std.specs.Prelude.{Bool, true, not, ◌&&◌, ◌||◌, List, [], ◌∷◌, ◌++◌, ◌⊎◌, ◌≡◌, ℕ, zero, suc, ◌-◌, ◌%◌, ◌<◌, ltb, eqb}
use Rattle.laws.specs.Index.{pick}
use Rattle.split.specs.Edges.{Pass, vertical, horizontal, Edge, edge}
use Rattle.split.specs.Tiling.{leaf_of}
use Rattle.split.specs.Walk.{Leaf}

-- the leaf of the unit c across a pass's edges and a along them
abbrev pub home_of : Pass → List ℕ → (w c a : ℕ) → Leaf
home_of vertical s w c a = leaf_of s w c a
home_of horizontal s w c a = leaf_of s w a c

-- an edge's place across, and along
abbrev pub cross_of : Pass → Edge → ℕ
cross_of vertical e = e.x
cross_of horizontal e = e.y

abbrev pub along_of : Pass → Edge → ℕ
along_of vertical e = e.y
along_of horizontal e = e.x

-- the unit c across, a along and the one before it lie in different leaves or, with limit 5, on two sides of the cut of a leaf of 64.
-- home: the leaf of a unit, by its place across and along
pub record IsEdge (halved : Bool) (home : ℕ → ℕ → Leaf) (c a : ℕ) : Type 0 where
  pub inner : 0 < c
  pub between : (home (c - 1) a ≡ home c a → ⊥) ⊎ ((halved ≡ true) × (home (c - 1) a ≡ home c a) × ((home c a).side ≡ 16) × (c % 16 ≡ 8))

-- e is an edge of the pass, in a picture of w by h units
pub record EdgeOf (d : Pass) (halved : Bool) (s : List ℕ) (w h : ℕ) (e : Edge) : Type 0 where
  pub column : e.x < w
  pub row : e.y < h
  pub sure : IsEdge halved (home_of d s w) (cross_of d e) (along_of d e)

-- the same as a test
abbrev pub same_leaf : Leaf → Leaf → Bool
same_leaf p q = eqb p.x q.x && (eqb p.y q.y && eqb p.side q.side)

unfoldable pub is_edge : Bool → (ℕ → ℕ → Leaf) → ℕ → ℕ → Bool
is_edge halved home c a =
    ltb 0 c && (not (same_leaf (home (c - 1) a) (home c a)) || (halved && (eqb (home c a).side 16 && eqb (c % 16) 8)))

-- of row v, from the left, those of the first n columns that pass the test
unfoldable pub row_of : (Edge → Bool) → ℕ → ℕ → List Edge
row_of is v zero = []
row_of is v (suc n) = row_of is v n ++ pick (is (edge n v)) (edge n v ∷ []) []

-- of the first n rows of w columns, from the top
unfoldable pub rows_of : (Edge → Bool) → ℕ → ℕ → List Edge
rows_of is w zero = []
rows_of is w (suc n) = rows_of is w n ++ row_of is n w

-- a pass's edges, row by row
abbrev pub row_list : Pass → Bool → List ℕ → ℕ → ℕ → List Edge
row_list d halved s w h = rows_of (λ e. is_edge halved (home_of d s w) (cross_of d e) (along_of d e)) w h
