-- The mean of DC: its shift is a division by twice the side, it is no larger than the samples, and a row of it is the block.
--     halved_side, quotient_below, mean_most, dc_block
-- Assumes nothing.
use Prim.Native.Nat.{ℕ, ◌+◌, ◌*◌, ◌/◌, ◌^◌, ◌≤◌, ◌<◌}
use mathlib.Core.Path.{◌≡◌, refl, ap, ◌∙◌}
use mathlib.Core.Bool.{true}
use mathlib.Core.List.{List}
use native.Mathlib.Nat.{zero-add, div-lt_iff_lt-mul}
use native.Mathlib.Omega.{arith}
use lib.ListN.{length, get_or}
use Rattle.laws.specs.Index.{tabulate}
use Rattle.laws.specs.Plane.{with_row}
use Rattle.laws.proofs.Whole.{whole_row}
use Rattle.def.specs.Blocks.{component_side_ok}
use Rattle.def.proofs.Blocks.{by_component_side}
use Rattle.ipred.specs.Modes.{left, up, sum_below, log2, dc, block_of}
use Rattle.ipred.proofs.Sums.{sum_same}

pub halved_side : (side : ℕ) → component_side_ok side ≡ true → 2 ^ (log2 side + 1) ≡ 2 * side
unfolding log2
halved_side = by_component_side (λ (n : ℕ). 2 ^ (log2 n + 1) ≡ 2 * n) (refl, (refl, (refl, (refl, (refl, (refl, tt))))))

pub quotient_below : (t d m : ℕ) → 0 < d → t < m * d → t / d < m
quotient_below t d m some h = (div-lt_iff_lt-mul some).1 h

-- s is the sum of 2 * side samples that are at most m
pub mean_most : (m side s : ℕ) → 0 < side → s ≤ m * side + m * side → (s + side) / (2 * side) ≤ m
mean_most m side s some h =
    omega (arith, quotient_below (s + side) (2 * side) (m + 1) (omega arith) (omega arith))

-- a and b are the sums of the two arms, as the code takes them
pub dc_block : (side : ℕ) (run block : List ℕ) (a b : ℕ) → component_side_ok side ≡ true → length block ≡ side * side
    → a ≡ sum_below (λ (j : ℕ). get_or run (0 + j) 0) side → b ≡ sum_below (up side run) side
    → with_row 0 0 (side * side) (λ (j : ℕ). (a + b + side) / (2 * side)) block ≡ block_of side (dc side run)
unfolding dc
dc_block side run block a b ok long p q =
    whole_row 0 (side * side) (λ (j : ℕ). (a + b + side) / (2 * side)) block long
    ∙ ap (λ (v : ℕ). tabulate (side * side) (λ (j : ℕ). v)) mean where
      arm : sum_below (λ (j : ℕ). get_or run (0 + j) 0) side ≡ sum_below (left run) side
      arm = sum_same (λ (j : ℕ). get_or run (0 + j) 0) (left run) (λ j. ap (λ (k : ℕ). get_or run k 0) (zero-add j)) side

      mean : (a + b + side) / (2 * side) ≡ (sum_below (left run) side + sum_below (up side run) side + side) / 2 ^ (log2 side + 1)
      mean = rw (halved_side side ok, p, q, arm)
