-- Lines of a plane as the functions below the calls have them. A line's four samples start at `at` and lie `step` apart; the next line starts `next` further on.
-- Assumes nothing: these are definitions.
use Rattle.std.specs.Prelude.{ℕ, ◌+◌, ◌-◌, ◌*◌, ◌<◌, Bool, true, false, List, ◌≡◌, length}
use Rattle.laws.specs.Plane.{with_row}
use Rattle.line.specs.declared.Mask.{Mask}
use Rattle.lanes.specs.Lanes.{Layout, lane_of, held_line}
use Rattle.df_rules.specs.Lanes.{samples_at, put_lines}

-- n lines lie in the plane
abbrev pub Inside : (step next at n : ℕ) → List ℕ → Type 0
Inside step next at n xs = at + (n - 1) * next + 3 * step < length xs

-- n lines, line k filtered at the strength st k: all are read first, so they may share places
unfoldable pub lines_of : Mask → (st : ℕ → ℕ) → (step next at n : ℕ) → List ℕ → List ℕ
lines_of m st step next at n xs = put_lines m (λ (k : ℕ). held_line (samples_at step (at + k * next) xs) (st k)) step next at n xs

-- n lines of the plane xs became the lanes of t from `first` on, in that layout, and those before are as they were
pub record Gathered (l : Layout) (step next at : ℕ) (xs t : List ℕ) (first n : ℕ) (r : List ℕ) : Type 0 where
  pub lines : (k : ℕ) → k < n → lane_of l r (first + k) ≡ samples_at step (at + k * next) xs
  pub before : (j : ℕ) → j < first → lane_of l r j ≡ lane_of l t j

-- a row of samples, written where a mask says so
abbrev pub with_row_if : Bool → (to n : ℕ) → (g : ℕ → ℕ) → List ℕ → List ℕ
with_row_if true to n g xs = with_row 0 to n g xs
with_row_if false to n g xs = xs
