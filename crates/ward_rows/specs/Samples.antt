-- Samples on the ward's screen: a sample of 10 bits in 8, four of them in one, and where they stand in a plane.
-- Assumes nothing: these are definitions.
use Rattle.std.specs.Prelude.{ℕ, ◌+◌, ◌*◌, ◌/◌, ◌<◌, ◌≤◌, Bool, List, nat_lt, slice_index}
use Rattle.laws.specs.Index.{pick}
use Rattle.laws.specs.Scan.{all_below}
use Rattle.decoder.specs.Face.{sample_ok}

-- (v + 2) / 4, held at 255
unfoldable pub screened : ℕ → ℕ
screened v = pick (nat_lt 255 ((v + 2) / 4)) 255 ((v + 2) / 4)

-- (sum + 2) / 4 of four
unfoldable pub quarter : (a b c d : ℕ) → ℕ
quarter a b c d = (a + b + c + d + 2) / 4

-- ---- at a place of a plane that is not converted yet

-- n samples from a place on, each at most 1023: as a test, and as what it tells
unfoldable pub run_ok : List ℕ → (from n : ℕ) → Bool
run_ok p from n = all_below (λ (j : ℕ). sample_ok (slice_index p (from + j))) n

abbrev pub Small : List ℕ → (from n : ℕ) → Type 0
Small p from n = (j : ℕ) → j < n → slice_index p (from + j) ≤ 1023

-- a sample of the preview, from two samples at each of two places
abbrev pub quarter_at : List ℕ → (upper lower : ℕ) → ℕ
quarter_at p upper lower = quarter (screened (slice_index p upper)) (screened (slice_index p (upper + 1))) (screened (slice_index p lower)) (screened (slice_index p (lower + 1)))

-- the two samples of a column, on the screen and added
abbrev pub column_at : List ℕ → (upper lower j : ℕ) → ℕ
column_at p upper lower j = screened (slice_index p (upper + j)) + screened (slice_index p (lower + j))

-- a sample of the preview, from the sums of its two columns
abbrev pub pair_of : List ℕ → ℕ → ℕ
pair_of sums j = (slice_index sums (2 * j) + slice_index sums (2 * j + 1) + 2) / 4
