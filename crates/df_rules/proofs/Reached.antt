-- The bounds of `Moves` are reached, so none can be lowered: a line of luma whose inner samples move by 4 times the entry and its outer ones by twice that, a
-- picture in which both passes move one sample by 8 times the entry, and a chroma sample that is outer in one window and inner in the next. And a kept unit, whose
-- samples stay where they moved before. Computed by the checker.
-- Assumes nothing.
use Prim.Native.Nat.{ℕ, ◌+◌, ◌*◌}
use mathlib.Core.Path.{◌≡◌, refl}
use mathlib.Core.List.{List, [], ◌∷◌, ◌++◌}
use lib.IntN.{pos}
use lib.ListN.{get_or, replicate}
use Rattle.def.specs.Word.{flag_at}
use Rattle.def.specs.declared.Component.TheVariants.{Luma, Chroma}
use Rattle.laws.specs.Bits.{field_of}
use Rattle.laws.specs.Clip.{max_z, min_z, clip_z, abs_z, with_sign, held_to, sample_z}
use Rattle.laws.specs.Orders.{run}
use Rattle.line.specs.Line.{step_of, limit_of, far_of, moved_by, line_z, line_of}
use Rattle.line.specs.Row.{eq_z, far, counted_as, same_refs, any_far, motion_row, row_of}
use Rattle.split.specs.Edges.{vertical, edge}
use Rattle.df_rules.specs.Filter.{filtered, finished}
use Rattle.df_rules.specs.Moves.{largest, passed}
use Rattle.df_rules.specs.Strength.{Maps, row_by, strength_of}
use Rattle.df_rules.specs.Window.{line_at, lines_at, window_at}

-- every entry is 3, and no unit is intra or coded and none moves
strengths : List ℕ
strengths = replicate 208 3

maps : Maps
maps = record { words = replicate 4 0; over = record { motion = replicate 16 (pos 0); refs = replicate 8 (pos 0); keep = replicate 4 0 } }

plain : ℕ → ℕ
plain qp = qp

most : largest strengths ≡ 3
unfolding strengths largest
most = refl

-- A and D by 6, B and C by 12
line_reached : line_of 100 100 132 132 (4 * 3) ≡ record { a = 106; b = 112; c = 120; d = 126 }
unfolding line_of line_z moved_by sample_z held_to far_of limit_of step_of with_sign abs_z clip_z min_z max_z
line_reached = refl

-- ---- a picture of 8 by 8 luma samples, four units

upper : List ℕ
upper = 100 ∷ 100 ∷ 100 ∷ 100 ∷ 132 ∷ 132 ∷ 132 ∷ 132 ∷ []

lower : List ℕ
lower = replicate 32 144

plane : List ℕ
plane = upper ++ (upper ++ (upper ++ (upper ++ lower)))

-- the sample at (3, 3), place 27, goes from 100 to 124
both_reached : get_or (finished maps strengths plain Luma 2 (edge 1 0 ∷ edge 1 1 ∷ []) (edge 0 1 ∷ edge 1 1 ∷ []) plane) 27 0 ≡ 100 + 8 * 3
unfolding maps strengths plain upper lower plane run window_at lines_at line_at strength_of row_by row_of motion_row same_refs any_far far counted_as eq_z flag_at field_of line_of
    line_z moved_by sample_z held_to far_of limit_of step_of with_sign abs_z clip_z min_z max_z
both_reached = refl

-- ---- in chroma an outer sample of one edge may be an inner one of the next: the D of the first moves by 9, as the B of the second

row : List ℕ
row = 100 ∷ 100 ∷ 100 ∷ 100 ∷ 124 ∷ 124 ∷ []

in_row : (keep : List ℕ) → Maps
in_row keep = record { words = replicate 3 0; over = record { motion = replicate 12 (pos 0); refs = replicate 6 (pos 0); keep = keep } }

chroma_outer : get_or (passed (in_row (replicate 3 0)) strengths plain vertical Chroma 3 (edge 1 0 ∷ edge 2 0 ∷ []) (row ++ row)) 3 0 ≡ 109
unfolding strengths plain row in_row run window_at lines_at line_at strength_of row_by row_of motion_row same_refs any_far far counted_as eq_z flag_at field_of line_of line_z
    moved_by sample_z held_to far_of limit_of step_of with_sign abs_z clip_z min_z max_z
chroma_outer = refl

-- ---- the same rows with the middle unit kept: what lies in it stays, and the unit to its right moves as it did

kept_side : (passed (in_row (0 ∷ 1 ∷ 0 ∷ [])) strengths plain vertical Chroma 3 (edge 1 0 ∷ edge 2 0 ∷ []) row ≡ 100 ∷ 100 ∷ 100 ∷ 100 ∷ 115 ∷ 124 ∷ [])
    × (passed (in_row (replicate 3 0)) strengths plain vertical Chroma 3 (edge 1 0 ∷ edge 2 0 ∷ []) row ≡ 100 ∷ 100 ∷ 100 ∷ 109 ∷ 115 ∷ 124 ∷ [])
unfolding strengths plain row in_row run window_at lines_at line_at strength_of row_by row_of motion_row same_refs any_far far counted_as eq_z flag_at field_of line_of line_z
    moved_by sample_z held_to far_of limit_of step_of with_sign abs_z clip_z min_z max_z
kept_side = (refl, refl)
