-- The visiting rank of a root's units.
-- Assumes nothing: these are definitions.
use Rattle.std.specs.Prelude.{ℕ, zero, suc, ◌+◌, ◌*◌, ◌/◌, ◌%◌}

-- the n lowest bits of u, each at twice its place
unfoldable pub spread : ℕ → ℕ → ℕ
spread zero u = 0
spread (suc n) u = 4 * spread n (u / 2) + u % 2

-- row and column bits interleaved, the row's bit the higher: u is the unit's column in the root, v its row
abbrev pub rank : ℕ → ℕ → ℕ
rank u v = spread 4 u + 2 * spread 4 v
