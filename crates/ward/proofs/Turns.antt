-- The turn after a row.
--     same_plane, next_plane
-- Assumes nothing.
use mathlib.Core.Path.{◌≡◌, subst}
use Prim.Native.Nat.{ℕ, ◌+◌, ◌≤◌, ◌<◌}
use borrow.Author.Tests.{lt-ltb, le-ltb}
use Rattle.ward_check.specs.Sizes.{rows_of}
use Rattle.ward_check.specs.declared.Window.{Window}
use Rattle.ward.specs.Turns.{next_turn}
use Rattle.ward.specs.declared.Turn.{Turn}

pub same_plane : (c : Window) (t : Turn) (rows : ℕ) → rows ≡ rows_of t.run c t.plane → t.row + 1 < rows
    → record { run = t.run; plane = t.plane; row = t.row + 1 } ≡ next_turn c t
unfolding next_turn
same_plane c t rows e l = rw (lt-ltb (t.row + 1) (rows_of t.run c t.plane) (subst (λ (n : ℕ). t.row + 1 < n) e l))

pub next_plane : (c : Window) (t : Turn) (rows : ℕ) → rows ≡ rows_of t.run c t.plane → rows ≤ t.row + 1
    → record { run = t.run; plane = t.plane + 1; row = 0 } ≡ next_turn c t
unfolding next_turn
next_plane c t rows e l = rw (le-ltb (t.row + 1) (rows_of t.run c t.plane) (subst (λ (n : ℕ). n ≤ t.row + 1) e l))
