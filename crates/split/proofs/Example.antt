-- The paper's sheet, width 16, height 8, splits 11110: its lists, by the walk and row by row. And two leaves of 64 side by side, with limit 5.
-- Assumes nothing.
use Rattle.std.specs.Prelude.{Ok}
use mathlib.Core.Bool.{true, false}
use mathlib.Core.List.{List, [], ◌∷◌}
use mathlib.Core.Path.{◌≡◌, refl}
use Prim.Native.Nat.{ℕ}
use lib.ListN.{set, replicate, length}
use Rattle.laws.specs.Orders.{each}
use Rattle.split.specs.Edges.{vertical, horizontal, edge, edge_numbers, visit_of, stretch, edge_list}
use Rattle.split.specs.Picture.{leaves_of, picture_walk}
use Rattle.split.specs.Rows.{is_edge, row_of, rows_of, row_list}
use Rattle.split.specs.Tiling.{leaf_at, leaf_of}
use Rattle.split.specs.Walk.{leaf, met, onward, in_turn, leaf_walk, by_byte, walk}

bytes : List ℕ
bytes = set (set (set (set (replicate 1024 0) 136 1) 324 1) 546 1) 785 1

accepted : picture_walk bytes 4 2 ≡ met (leaf 0 0 1 ∷ leaf 1 0 1 ∷ leaf 0 1 1 ∷ leaf 1 1 1 ∷ leaf 2 0 2 ∷ []) (Ok tt)
unfolding bytes walk leaf_walk by_byte onward in_turn
accepted = refl

listed : (each edge_numbers (edge_list vertical false bytes 4 2) ≡ 4 ∷ 0 ∷ 4 ∷ 4 ∷ 8 ∷ 0 ∷ 8 ∷ 4 ∷ [])
    × (each edge_numbers (edge_list horizontal false bytes 4 2) ≡ 0 ∷ 4 ∷ 4 ∷ 4 ∷ [])
unfolding bytes walk leaf_walk by_byte onward in_turn leaves_of each visit_of stretch
listed = (refl, refl)

by_rows_lem : (row_list vertical false bytes 4 2 ≡ edge 1 0 ∷ edge 2 0 ∷ edge 1 1 ∷ edge 2 1 ∷ []) × (row_list horizontal false bytes 4 2 ≡ edge 0 1 ∷ edge 1 1 ∷ [])
unfolding bytes by_byte leaf_at leaf_of is_edge row_of rows_of
by_rows_lem = (refl, refl)

-- three vertical edges of 16 units, and one horizontal edge of 32
halves : (length (edge_list vertical true (replicate 2048 0) 32 16) ≡ 48) × (length (edge_list horizontal true (replicate 2048 0) 32 16) ≡ 32)
unfolding walk leaf_walk by_byte onward in_turn leaves_of each visit_of stretch
halves = (refl, refl)
