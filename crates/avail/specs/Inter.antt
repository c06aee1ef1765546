-- The eight answers of inter availability, each with the conditions of `evc_get_avail_inter`.
-- Assumes nothing: these are definitions.
use Rattle.std.specs.Prelude.{ℕ, ◌+◌, ◌-◌, Bool, not, ◌&&◌, ltb}
use Rattle.avail.specs.Around.{Input, units_across, units_down, column, row, units, intra_at, done_not_intra_at}
use Rattle.avail.specs.declared.Neighbours.{Neighbours}

-- the row below the block
abbrev pub below : Input → ℕ
below i = row i + units i

abbrev pub left_inter : Input → Bool
left_inter i = ltb 0 (column i) && done_not_intra_at i (column i - 1) (row i)

-- looked at only where the left one is there
abbrev pub low_left_inter : Input → Bool
low_left_inter i = left_inter i && (ltb (below i) (units_down i) && done_not_intra_at i (column i - 1) (below i))

-- above the block's first unit, and above its last: not intra, and need not be done
abbrev pub up_inter : Input → Bool
up_inter i = ltb 0 (row i) && not (intra_at i (column i) (row i - 1))

abbrev pub right_up_inter : Input → Bool
right_up_inter i = ltb 0 (row i) && not (intra_at i (column i + units i - 1) (row i - 1))

abbrev pub up_left_inter : Input → Bool
up_left_inter i = ltb 0 (row i) && (ltb 0 (column i) && done_not_intra_at i (column i - 1) (row i - 1))

abbrev pub up_right_inter : Input → Bool
up_right_inter i = ltb 0 (row i) && (ltb (column i + units i) (units_across i) && done_not_intra_at i (column i + units i) (row i - 1))

abbrev pub right_inter : Input → Bool
right_inter i = ltb (column i + units i) (units_across i) && done_not_intra_at i (column i + units i) (row i)

-- looked at only where the right one is there
abbrev pub low_right_inter : Input → Bool
low_right_inter i = right_inter i && (ltb (below i) (units_down i) && done_not_intra_at i (column i + units i) (below i))

unfoldable pub inter_neighbours : Input → Neighbours
inter_neighbours i =
    record {
      up = up_inter i;
      left = left_inter i;
      right = right_inter i;
      up_left = up_left_inter i;
      up_right = up_right_inter i;
      low_left = low_left_inter i;
      low_right = low_right_inter i;
      right_up = right_up_inter i;
    }
