-- The order of a picture's units, and of a pass's edges: by root, then by the visiting rank of the first unit of the leaf (or half), then along the edge.
-- Assumes nothing: these are definitions.
use Rattle.std.specs.Prelude.{List, ◌⊎◌, ◌≡◌, ℕ, ◌/◌, ◌%◌, ◌<◌}
use Rattle.rank.specs.Ranks.{rank}
use Rattle.split.specs.Edges.{Pass, vertical, horizontal, Edge, edge}
use Rattle.split.specs.Rows.{along_of}
use Rattle.split.specs.Tiling.{leaf_of}

-- the unit (x, y) of the picture comes before (u, v): its root does, row by row and left to right, or they are in one root and its rank is lower
abbrev pub Sooner : (x y u v : ℕ) → Type 0
Sooner x y u v =
    (y / 16 < v / 16)
    ⊎ (((y / 16 ≡ v / 16) × (x / 16 < u / 16))
    ⊎ ((y / 16 ≡ v / 16) × (x / 16 ≡ u / 16) × (rank (x % 16) (y % 16) < rank (u % 16) (v % 16))))

-- the first unit of the leaf, or half, whose near edge e is on: across, it is e's own place
abbrev pub first_unit : Pass → List ℕ → ℕ → Edge → Edge
first_unit vertical s w e = edge e.x (leaf_of s w e.x e.y).y
first_unit horizontal s w e = edge (leaf_of s w e.x e.y).x e.y

abbrev pub InOrder : Pass → List ℕ → ℕ → Edge → Edge → Type 0
InOrder d s w e f =
    let p = first_unit d s w e in
    let q = first_unit d s w f in
    Sooner p.x p.y q.x q.y ⊎ ((p.x ≡ q.x) × (p.y ≡ q.y) × (along_of d e < along_of d f))
