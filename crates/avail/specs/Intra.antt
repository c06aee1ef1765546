-- The eight answers of intra availability, each with the conditions of `evc_get_avail_intra`.
-- Assumes nothing: these are definitions.
use Rattle.std.specs.Prelude.{ℕ, ◌+◌, ◌-◌, ◌*◌, Bool, ◌&&◌, ltb}
use Rattle.avail.specs.Around.{Input, units_across, units_down, column, row, units, done_at}
use Rattle.avail.specs.declared.Neighbours.{Neighbours}

-- the row of the last unit of a column of twice the block's side, which begins at its first row
abbrev pub last_below : Input → ℕ
last_below i = row i + 2 * units i - 1

abbrev pub left_done : Input → Bool
left_done i = ltb 0 (column i) && done_at i (column i - 1) (row i)

-- looked at only where the left one is there
abbrev pub low_left_done : Input → Bool
low_left_done i = left_done i && (ltb (last_below i) (units_down i) && done_at i (column i - 1) (last_below i))

-- the units above need not be done
abbrev pub some_above : Input → Bool
some_above i = ltb 0 (row i)

abbrev pub up_left_done : Input → Bool
up_left_done i = some_above i && (ltb 0 (column i) && done_at i (column i - 1) (row i - 1))

abbrev pub up_right_done : Input → Bool
up_right_done i = some_above i && (ltb (column i + units i) (units_across i) && done_at i (column i + units i) (row i - 1))

abbrev pub right_done : Input → Bool
right_done i = ltb (column i + units i) (units_across i) && done_at i (column i + units i) (row i)

-- looked at only where the right one is there
abbrev pub low_right_done : Input → Bool
low_right_done i = right_done i && (ltb (last_below i) (units_down i) && done_at i (column i + units i) (last_below i))

unfoldable pub intra_neighbours : Input → Neighbours
intra_neighbours i =
    record {
      up = some_above i;
      left = left_done i;
      right = right_done i;
      up_left = up_left_done i;
      up_right = up_right_done i;
      low_left = low_left_done i;
      low_right = low_right_done i;
      right_up = some_above i;
    }
