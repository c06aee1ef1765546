-- A loop that tests every place and keeps one flag: what it has found after a turn more, and that it passes where every place does.
--     scan_step, scan_pass
-- Assumes nothing.
use mathlib.Core.Path.{◌≡◌, refl}
use mathlib.Core.Bool.{Bool, true, ◌&&◌}
use Prim.Native.Nat.{ℕ, zero, suc, ◌+◌, ◌<◌}
use native.Mathlib.Numerals.{add-one}
use native.Mathlib.Omega.{arith}
use Rattle.laws.specs.Scan.{all_below}

module _ (f : ℕ → Bool) where
  pub scan_step : (n : ℕ) → all_below f (n + 1) ≡ (all_below f n && f n)
  unfolding all_below
  scan_step n = rw add-one

  pub scan_pass : (n : ℕ) → ((i : ℕ) → i < n → f i ≡ true) → all_below f n ≡ true
  unfolding all_below
  scan_pass zero h = refl
  scan_pass (suc n) h = simp (scan_pass n (λ i p. h i (omega arith)), h n (omega arith))
