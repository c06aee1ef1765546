-- The paper's sheet, width 16, height 8, splits 11110, as a picture whose two orders differ: the lists, and a chroma plane that ends the same by both. In one
-- row of units the order counts: the windows of its two edges overlap. Computed by the checker.
-- Assumes nothing.
use Rattle.std.specs.Prelude.{Ok}
use Prim.Native.Nat.{ℕ}
use mathlib.Core.Path.{◌≡◌, refl, sym, ap, ◌∙◌}
use mathlib.Core.Bool.{false}
use mathlib.Core.List.{List, [], ◌∷◌, ◌++◌}
use native.Mathlib.Omega.{arith}
use lib.IntN.{pos}
use lib.ListN.{get_or, set, replicate}
use Rattle.def.specs.Word.{flag_at}
use Rattle.def.specs.declared.Component.TheVariants.{Chroma}
use Rattle.laws.specs.Bits.{field_of}
use Rattle.laws.specs.Clip.{max_z, min_z, clip_z, abs_z, with_sign, held_to, sample_z}
use Rattle.laws.specs.Orders.{each, run}
use Rattle.line.specs.Line.{step_of, limit_of, far_of, moved_by, line_z, line_of}
use Rattle.line.specs.Row.{eq_z, far, counted_as, same_refs, any_far, motion_row, row_of as strengthRow}
use Rattle.split.specs.Edges.{Pass, vertical, horizontal, Edge, edge, visit_of, stretch, edge_list}
use Rattle.split.specs.Picture.{leaves_of, picture_walk}
use Rattle.split.specs.Rows.{is_edge, row_of, rows_of, row_list}
use Rattle.split.specs.Tiling.{leaf_at, leaf_of}
use Rattle.split.specs.Walk.{onward, in_turn, leaf_walk, by_byte, walk}
use Rattle.df_rules.specs.Demand3.{Demand3}
use Rattle.df_rules.specs.Filter.{filtered, finished}
use Rattle.df_rules.specs.Strength.{Maps, row_by, strength_of}
use Rattle.df_rules.specs.Window.{line_at, lines_at, window_at}
use Rattle.df_rules.proofs.Finished.{demand_3}

bytes : List ℕ
bytes = set (set (set (set (replicate 1024 0) 136 1) 324 1) 546 1) 785 1

accepted : (picture_walk bytes 4 2).answer ≡ Ok tt
unfolding bytes walk leaf_walk by_byte onward in_turn
accepted = refl

whole : Demand3 false bytes 4 2
whole = demand_3 false bytes 4 2 (omega arith) accepted

-- ---- the lists of the vertical pass

by_walk_lem : edge_list vertical false bytes 4 2 ≡ edge 1 0 ∷ edge 1 1 ∷ edge 2 0 ∷ edge 2 1 ∷ []
unfolding bytes walk leaf_walk by_byte onward in_turn leaves_of each visit_of stretch
by_walk_lem = refl

by_rows_lem : row_list vertical false bytes 4 2 ≡ edge 1 0 ∷ edge 2 0 ∷ edge 1 1 ∷ edge 2 1 ∷ []
unfolding bytes by_byte leaf_at leaf_of is_edge row_of rows_of
by_rows_lem = refl

-- the second edge stands in another column
orders_differ : edge_list vertical false bytes 4 2 ≡ row_list vertical false bytes 4 2 → ⊥
orders_differ e = let n : ◌≡◌ {A = ℕ} 1 2 = sym (ap column by_walk_lem) ∙ ap column e ∙ ap column by_rows_lem in omega arith
  where
    column : List Edge → ℕ
    column l = (get_or l 1 (edge 0 0)).x

-- ---- a chroma plane of 8 by 4 samples. No unit is intra or coded and none moves, so each edge is of row 3; every entry is 3

maps : Maps
maps = record { words = replicate 8 0; over = record { motion = replicate 32 (pos 0); refs = replicate 16 (pos 0); keep = replicate 8 0 } }

strengths : List ℕ
strengths = replicate 208 3

plain : ℕ → ℕ
plain qp = qp

upper : List ℕ
upper = 100 ∷ 100 ∷ 120 ∷ 120 ∷ 140 ∷ 140 ∷ 160 ∷ 160 ∷ []

lower : List ℕ
lower = 120 ∷ 120 ∷ 140 ∷ 140 ∷ 160 ∷ 160 ∷ 180 ∷ 180 ∷ []

plane : List ℕ
plane = upper ++ (upper ++ (lower ++ lower))

-- of the row's two edges, the left one first and the right one first
in_one_row : (run (filtered maps strengths plain vertical Chroma 4) (edge 1 0 ∷ edge 2 0 ∷ []) (upper ++ upper)
    ≡ 100 ∷ 107 ∷ 113 ∷ 126 ∷ 134 ∷ 140 ∷ 160 ∷ 160 ∷ 100 ∷ 107 ∷ 113 ∷ 126 ∷ 134 ∷ 140 ∷ 160 ∷ 160 ∷ [])
    × (run (filtered maps strengths plain vertical Chroma 4) (edge 2 0 ∷ edge 1 0 ∷ []) (upper ++ upper)
    ≡ 100 ∷ 106 ∷ 114 ∷ 127 ∷ 133 ∷ 140 ∷ 160 ∷ 160 ∷ 100 ∷ 106 ∷ 114 ∷ 127 ∷ 133 ∷ 140 ∷ 160 ∷ 160 ∷ [])
unfolding maps strengths plain upper run window_at lines_at line_at strength_of row_by strengthRow motion_row same_refs any_far far counted_as eq_z flag_at field_of line_of
    line_z moved_by sample_z held_to far_of limit_of step_of with_sign abs_z clip_z min_z max_z
in_one_row = (refl, refl)

-- the finished plane, by the lists as the passes visit them and row by row
ended : List ℕ
ended =
    (100 ∷ 107 ∷ 113 ∷ 126 ∷ 134 ∷ 140 ∷ 160 ∷ 160 ∷ [])
    ++ ((107 ∷ 114 ∷ 120 ∷ 133 ∷ 134 ∷ 140 ∷ 160 ∷ 160 ∷ [])
    ++ ((113 ∷ 120 ∷ 126 ∷ 139 ∷ 154 ∷ 160 ∷ 180 ∷ 180 ∷ [])
    ++ (120 ∷ 127 ∷ 133 ∷ 146 ∷ 154 ∷ 160 ∷ 180 ∷ 180 ∷ [])))

planes_agree : (finished maps strengths plain Chroma 4 (edge_list vertical false bytes 4 2) (edge_list horizontal false bytes 4 2) plane ≡ ended)
    × (finished maps strengths plain Chroma 4 (row_list vertical false bytes 4 2) (row_list horizontal false bytes 4 2) plane ≡ ended)
unfolding bytes walk leaf_walk by_byte onward in_turn leaves_of each visit_of stretch leaf_at leaf_of is_edge row_of rows_of maps strengths plain upper lower plane ended run
    window_at lines_at line_at strength_of row_by strengthRow motion_row same_refs any_far far counted_as eq_z flag_at field_of line_of line_z moved_by sample_z
    held_to far_of limit_of step_of with_sign abs_z clip_z min_z max_z
planes_agree = (refl, refl)
