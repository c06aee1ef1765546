-- Sums: a term more, and bounds.
-- Assumes nothing.
use Prim.Native.Nat.{ℕ, zero, suc, ◌+◌, ◌*◌, ◌≤◌, ◌<◌}
use mathlib.Core.Path.{◌≡◌, refl}
use native.Mathlib.Numerals.{add-one}
use native.Mathlib.Nat.{mul-suc}
use native.Mathlib.Omega.{arith}
use Rattle.ipred.specs.Modes.{sum_below}

module _ (f : ℕ → ℕ) where
  pub sum_none : sum_below f 0 ≡ 0
  unfolding sum_below
  sum_none = refl

  pub sum_more : (n : ℕ) → sum_below f (n + 1) ≡ sum_below f n + f n
  unfolding sum_below
  sum_more n = rw add-one

  -- of terms that are at most m
  pub sum_most : (m n : ℕ) → ((k : ℕ) → k < n → f k ≤ m) → sum_below f n ≤ m * n
  unfolding sum_below
  sum_most m zero h = omega arith
  sum_most m (suc n) h = omega (arith, sum_most m n (λ k p. h k (omega arith)), h n (omega arith), mul-suc m n)

pub sum_same : (f g : ℕ → ℕ) → ((k : ℕ) → f k ≡ g k) → (n : ℕ) → sum_below f n ≡ sum_below g n
unfolding sum_below
sum_same f g h zero = refl
sum_same f g h (suc n) = rw (sum_same f g h n, h n)
