-- Flat planes and maps, of rows of w, in which a row's part or a block is replaced.
-- Assumes nothing: these are definitions.
use Rattle.std.specs.Prelude.{ℕ, ◌+◌, ◌-◌, ◌/◌, ◌%◌, Bool, ◌&&◌, List, leb, ltb, length, get_or}
use Rattle.laws.specs.Index.{pick, tabulate}

-- k is one of the n numbers from a
unfoldable pub within : ℕ → ℕ → ℕ → Bool
within a n k = leb a k && ltb k (a + n)

-- l with g 0, g 1, .. at the n places from a. d stands for what is past the end, which is never read
unfoldable pub with_row : {A : Type 0} → A → ℕ → ℕ → (ℕ → A) → List A → List A
with_row d a n g l = tabulate (length l) (λ (k : ℕ). pick (within a n k) (g (k - a)) (get_or l k d))

-- the plane l of rows of w, with f r c at row r, column c of the block of s columns and t rows at column x, row y
unfoldable pub with_block : {A : Type 0} → A → ℕ → ℕ → ℕ → ℕ → ℕ → (ℕ → ℕ → A) → List A → List A
with_block d w x y s t f l =
    tabulate (length l) (λ (k : ℕ). pick (within y t (k / w)) (pick (within x s (k % w)) (f (k / w - y) (k % w - x)) (get_or l k d)) (get_or l k d))
