-- A row of what a run shows of the n columns at column x, row y of a plane of rows of w: its samples, what they are made of, and where it lies.
-- Assumes nothing: these are definitions.
use Rattle.std.specs.Prelude.{ℕ, ◌+◌, ◌*◌, Bool, false, List, [], ◌∷◌, length, nat_le, slice_index}
use Rattle.laws.specs.Call.{all_of}
use Rattle.laws.specs.Index.{pick}
use Rattle.laws.specs.Plane.{with_row}
use Rattle.ward_check.specs.Sizes.{across}
use Rattle.ward_check.specs.declared.Run.{Run}
use Rattle.ward_check.specs.declared.Run.TheVariants.{Full, Preview}
use Rattle.ward_rows.specs.Samples.{screened, run_ok, quarter_at}

-- n samples from a place on, converted, and n of the preview from two places on
abbrev pub full_at : List ℕ → (from : ℕ) → ℕ → ℕ
full_at p from j = screened (slice_index p (from + j))

abbrev pub half_at : List ℕ → (from below : ℕ) → ℕ → ℕ
half_at p from below j = quarter_at p (from + 2 * j) (below + 2 * j)

-- sample j of row r
abbrev pub sample_at : Run → (w x y r : ℕ) → List ℕ → ℕ → ℕ
sample_at Full w x y r p j = full_at p ((y + r) * w + x) j
sample_at Preview w x y r p j = half_at p ((y + 2 * r) * w + x) ((y + 2 * r) * w + x + w) j

-- the samples that row r is made of: one row of the plane, or two for a preview
unfoldable pub made_ok : Run → (w x y n r : ℕ) → List ℕ → Bool
made_ok Full w x y n r p = run_ok p ((y + r) * w + x) n
made_ok Preview w x y n r p = all_of (run_ok p ((y + 2 * r) * w + x) n ∷ run_ok p ((y + (2 * r + 1)) * w + x) n ∷ [])

-- ---- where it lies

-- the last row of the plane that row r is made of
abbrev pub last_row : Run → ℕ → ℕ
last_row Full r = r
last_row Preview r = 2 * r + 1

-- row r lies in a plane of `long` samples, and has room in `out` bytes. No picture has more than 4096 columns or rows
abbrev pub lies_tests : Run → (w x y n r long out : ℕ) → List Bool
lies_tests run w x y n r long out =
    nat_le w 4096 ∷ nat_le y 4096 ∷ nat_le r 4096 ∷ nat_le (x + n) w ∷ nat_le ((y + last_row run r) * w + x + n) long ∷ nat_le (across run n) out ∷ []

unfoldable pub lies : Run → (w x y n r long out : ℕ) → Bool
lies run w x y n r long out = all_of (lies_tests run w x y n r long out)

-- ---- put first into a buffer

-- it lies there, and no sample that it is made of is over 1023
unfoldable pub put_ok : Run → (w x y n r : ℕ) → List ℕ → (out : ℕ) → Bool
put_ok run w x y n r p out = pick (lies run w x y n r (length p) out) (made_ok run w x y n r p) false

-- then its samples stand first, and else the buffer is as it was
abbrev pub put_row : Run → (w x y n r : ℕ) → List ℕ → List ℕ → List ℕ
put_row run w x y n r p out = pick (put_ok run w x y n r p (length out)) (with_row 0 0 (across run n) (sample_at run w x y r p) out) out
