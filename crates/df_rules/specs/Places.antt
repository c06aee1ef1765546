-- Where a pass's edges lie in planes and maps. A place is told across the pass's edges and along them, so that both passes are one definition.
-- Assumes nothing: these are definitions.
use Rattle.std.specs.Prelude.{ℕ, ◌+◌, ◌-◌, ◌*◌}
pub use Rattle.def.specs.Components.{unit_side}
use Rattle.split.specs.Edges.{Pass, vertical, horizontal, Edge}

-- in a plane, or a map, of `wide` a row: from one place to the next across the edges, and along them
abbrev pub step_across : Pass → ℕ → ℕ
step_across vertical wide = 1
step_across horizontal wide = wide

abbrev pub step_along : Pass → ℕ → ℕ
step_along vertical wide = wide
step_along horizontal wide = 1

-- A of the line whose C, the first sample past the edge, is at c across and a along
abbrev pub line_start : Pass → (wide c a : ℕ) → ℕ
line_start d wide c a = a * step_along d wide + (c - 2) * step_across d wide

-- Q of an edge, in a map of w units a row, and P: the unit left of Q, or above it
abbrev pub unit_q : (w : ℕ) → Edge → ℕ
unit_q w e = e.y * w + e.x

abbrev pub unit_p : Pass → (w : ℕ) → Edge → ℕ
unit_p d w e = unit_q w e - step_across d w
