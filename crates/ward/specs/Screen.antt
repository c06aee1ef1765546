-- What the ward's screen shows of a plane: 8-bit samples, cropped, at full size or half. A sample is `screened`, and four are a `quarter`, of `ward_rows`.
-- Assumes nothing: these are definitions.
use Rattle.std.specs.Prelude.{List, ℕ, ◌+◌, ◌*◌, ◌/◌, ◌%◌, length, get_or}
use Rattle.laws.specs.Index.{tabulate}
use Rattle.ward_check.specs.declared.Run.{Run}
use Rattle.ward_check.specs.declared.Run.TheVariants.{Full, Preview}
use Rattle.ward_rows.specs.Samples.{screened, quarter}

-- ---- a plane

-- its samples, converted
unfoldable pub convert : List ℕ → List ℕ
convert p = tabulate (length p) (λ (i : ℕ). screened (get_or p i 0))

-- the n columns and m rows at column x, row y of a plane of rows of w
unfoldable pub crop : (w x y n m : ℕ) → List ℕ → List ℕ
crop w x y n m p = tabulate (m * n) (λ (i : ℕ). get_or p ((y + i / n) * w + (x + i % n)) 0)

-- of the four samples behind column c, row r of the half size, the one a rows down and b columns on; and what they come to
abbrev pub corner : (n r c : ℕ) → List ℕ → (a b : ℕ) → ℕ
corner n r c p a b = get_or p ((2 * r + a) * n + (2 * c + b)) 0

unfoldable pub fourth : (n r c : ℕ) → List ℕ → ℕ
fourth n r c p = quarter (corner n r c p 0 0) (corner n r c p 0 1) (corner n r c p 1 0) (corner n r c p 1 1)

-- half the size of a plane of n columns and m rows
unfoldable pub half : (n m : ℕ) → List ℕ → List ℕ
half n m p = tabulate (m / 2 * (n / 2)) (λ (i : ℕ). fourth n (i / (n / 2)) (i % (n / 2)) p)

-- ---- a run

-- what a run shows of the n columns and m rows at column x, row y of a plane of rows of w
unfoldable pub shown : Run → (w x y n m : ℕ) → List ℕ → List ℕ
shown Full w x y n m p = convert (crop w x y n m p)
shown Preview w x y n m p = half n m (convert (crop w x y n m p))
