-- Lengths in a component.
-- Assumes nothing.
use Prim.Native.Nat.{ℕ, ◌/◌, ◌≤◌}
use mathlib.Core.Path.{◌≡◌}
use native.Mathlib.Nat.{div-le_self, le_trans}

-- r is n counted in a component of scale k
pub no_longer : (r n k m : ℕ) → r ≡ n / k → n ≤ m → r ≤ m
no_longer r n k m e h = rw e (le_trans (div-le_self n k) h)
