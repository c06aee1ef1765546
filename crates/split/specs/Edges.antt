-- What a pass visits, in the order of the walk, and its list of edges, as listing writes it. halved: the transform limit is 5.
-- A place is told by its coordinate across the pass's edges and the one along them, so that both passes are one definition.
-- Assumes nothing: these are definitions.
use Rattle.std.specs.Prelude.{Bool, true, false, ◌&&◌, List, [], ◌∷◌, ℕ, zero, suc, ◌+◌, ◌*◌, ltb, eqb}
use Rattle.laws.specs.Index.{pick}
use Rattle.laws.specs.Orders.{each}
use Rattle.split.specs.Picture.{all_leaves}
use Rattle.split.specs.Walk.{Leaf}

pub data Pass : Type 0 where
  vertical horizontal : Pass

-- an edge of one unit's length, by the column and row of Q: the unit right of it in the vertical pass, below it in the horizontal
pub record Edge : Type 0 where
  pub x : ℕ
  pub y : ℕ

abbrev pub edge : ℕ → ℕ → Edge
edge x y = record { x = x; y = y }

-- the edge at c across and a along
abbrev pub edge_at : Pass → ℕ → ℕ → Edge
edge_at vertical c a = edge c a
edge_at horizontal c a = edge a c

-- a leaf, or half of one, that a pass visits
pub record Visit : Type 0 where
  pub x : ℕ
  pub y : ℕ
  pub wide : ℕ
  pub tall : ℕ

abbrev pub visit : (x y wide tall : ℕ) → Visit
visit x y m n = record { x = x; y = y; wide = m; tall = n }

-- with limit 5 a leaf of 64 is two halves, side by side in the vertical pass, stacked in the horizontal
abbrev pub halves : Pass → ℕ → ℕ → List Visit
halves vertical x y = visit x y 8 16 ∷ visit (x + 8) y 8 16 ∷ []
halves horizontal x y = visit x y 16 8 ∷ visit x (y + 8) 16 8 ∷ []

unfoldable pub visit_of : Pass → Bool → Leaf → List Visit
visit_of d halved p = pick (halved && eqb p.side 16) (halves d p.x p.y) (visit p.x p.y p.side p.side ∷ [])

abbrev pub visits : Pass → Bool → List ℕ → ℕ → ℕ → List Visit
visits d halved s w h = each (visit_of d halved) (all_leaves s w h)

-- n edges, from c across and a along
unfoldable pub stretch : Pass → (c a n : ℕ) → List Edge
stretch d c a zero = []
stretch d c a (suc n) = edge_at d c a ∷ stretch d c (suc a) n

-- the left edge of a visit, or its top edge, unless it is the picture's side
abbrev pub near_edge : Pass → Visit → List Edge
near_edge vertical p = pick (ltb 0 p.x) (stretch vertical p.x p.y p.tall) []
near_edge horizontal p = pick (ltb 0 p.y) (stretch horizontal p.y p.x p.wide) []

-- the edges of some leaves, one after the other; and a pass's list, those of all
abbrev pub edges_of : Pass → Bool → List Leaf → List Edge
edges_of d halved l = each (near_edge d) (each (visit_of d halved) l)

abbrev pub edge_list : Pass → Bool → List ℕ → ℕ → ℕ → List Edge
edge_list d halved s w h = edges_of d halved (all_leaves s w h)

-- the pass by the code's flag: whether its edges are horizontal
abbrev pub pass_of : Bool → Pass
pass_of false = vertical
pass_of true = horizontal

-- an edge as listing writes it: Q's first luma sample
abbrev pub edge_numbers : Edge → List ℕ
edge_numbers e = 4 * e.x ∷ 4 * e.y ∷ []
