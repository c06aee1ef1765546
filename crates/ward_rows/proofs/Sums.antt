-- Laws of the preview by the sums of its columns.
--     sums_small    a sum is 510 at most
--     quarter_later, pair_shown    two sums come to a sample of the preview
-- Assumes nothing.
use Rattle.std.proofs.Common.{◌≡◌, ℕ, ◌+◌, ◌*◌, ◌/◌, ◌<◌, ◌≤◌, List, length, get_or, ap, ◌∙◌, ap₂, arith}
use native.Mathlib.Decide.{dec_lt}
use lib.ListN.{get_or-eq_default}
use Rattle.laws.specs.Index.{tabulate}
use Rattle.laws.proofs.Tabulate.{length_tabulate, get_d_tabulate}
use Rattle.ward_rows.specs.Samples.{quarter_at, column_at, pair_of}
use Rattle.ward_rows.specs.Samples.{quarter}
use Rattle.ward_rows.proofs.Samples.{screened_small}

module _ (p : List ℕ) (upper lower : ℕ) where
  -- past the end there is 0
  pub sums_small : (i : ℕ) → get_or (tabulate 32 (column_at p upper lower)) i 0 ≤ 510
  sums_small i = at (dec_lt i 32) where
    at : Dec (i < 32) → get_or (tabulate 32 (column_at p upper lower)) i 0 ≤ 510
    at (yes h) =
        rw (get_d_tabulate (column_at p upper lower) 32 i 0 h)
        (omega (arith, screened_small (get_or p (upper + i) 0), screened_small (get_or p (lower + i) 0)))
    at (no h) =
        let past : length (tabulate 32 (column_at p upper lower)) ≤ i = omega (arith, length_tabulate (column_at p upper lower) 32) in
        rw (get_or-eq_default (tabulate 32 (column_at p upper lower)) 0 past) (omega arith)

  summed : (j : ℕ) → j < 16 → pair_of (tabulate 32 (column_at p upper lower)) j ≡ (column_at p upper lower (2 * j) + column_at p upper lower (2 * j + 1) + 2) / 4
  summed j h = rw (get_d_tabulate (column_at p upper lower) 32 (2 * j) 0 (omega arith), get_d_tabulate (column_at p upper lower) 32 (2 * j + 1) 0 (omega arith))

-- sample j of those from place i on
pub quarter_later : (p : List ℕ) (from below i j : ℕ) → quarter_at p (from + 2 * i + 2 * j) (below + 2 * i + 2 * j) ≡ quarter_at p (from + 2 * (i + j)) (below + 2 * (i + j))
quarter_later p from below i j = ap₂ (quarter_at p) (omega arith) (omega arith)

-- and of sixteen
pub pair_shown : (p : List ℕ) (from below i j : ℕ) → j < 16
    → pair_of (tabulate 32 (column_at p (from + 2 * i) (below + 2 * i))) j ≡ quarter_at p (from + 2 * (i + j)) (below + 2 * (i + j))
unfolding quarter
pair_shown p from below i j h = summed p (from + 2 * i) (below + 2 * i) j h ∙ rw (first from, first below, second from, second below) (ap (λ (k : ℕ). k / 4) (omega arith)) where
  first : (at : ℕ) → at + 2 * i + 2 * j ≡ at + 2 * (i + j)
  first at = omega arith

  second : (at : ℕ) → at + 2 * i + (2 * j + 1) ≡ at + 2 * (i + j) + 1
  second at = omega arith
