-- A picture's units by column and row.
-- Assumes nothing: these are definitions.
use Rattle.std.specs.Prelude.{ℕ, ◌+◌, ◌*◌, ◌/◌, List, get_or}

-- what a map of a picture w wide, one entry a unit, has for the unit at column u, row v
abbrev pub unit_at : ℕ → List ℕ → ℕ → ℕ → ℕ
unit_at w map u v = get_or map (v * (w / 4) + u) 0
