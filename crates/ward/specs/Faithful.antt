-- What is shown of every plane: cropping and converting commute, larger input never gives smaller output, and a sample of the preview lies between the least
-- and the greatest of its four. The proof is `faithful`, in proofs/.
-- Assumes nothing: these are definitions.
use Rattle.std.specs.Prelude.{List, ◌≡◌, ℕ, ◌+◌, ◌*◌, ◌/◌, ◌≤◌, ◌<◌, get_or}
use Rattle.ward_check.specs.declared.Run.{Run}
use Rattle.ward_rows.specs.Samples.{screened}
use Rattle.ward.specs.Screen.{convert, crop, corner, half, shown}

-- no sample of the one is over that of the other; past the end there is 0
abbrev pub Below : List ℕ → List ℕ → Type 0
Below p q = (i : ℕ) → get_or p i 0 ≤ get_or q i 0

pub record Faithful : Type 0 where
  pub in_8_bits : (v : ℕ) → screened v ≤ 255
  -- cropping then converting equals converting then cropping
  pub commutes : (w x y n m : ℕ) (p : List ℕ) → convert (crop w x y n m p) ≡ crop w x y n m (convert p)
  -- larger input never gives smaller output: by conversion, by cropping, in the preview, and in what either run shows
  pub converted : (p q : List ℕ) → Below p q → Below (convert p) (convert q)
  pub cropped : (w x y n m : ℕ) (p q : List ℕ) → Below p q → Below (crop w x y n m p) (crop w x y n m q)
  pub halved : (n m : ℕ) (p q : List ℕ) → Below p q → Below (half n m p) (half n m q)
  pub larger : (run : Run) (w x y n m : ℕ) (p q : List ℕ) → Below p q → Below (shown run w x y n m p) (shown run w x y n m q)
  -- column c, row r of half the size: no less than what is at most each of its four, no more than what is at least each
  pub least : (n m : ℕ) (p : List ℕ) (r c : ℕ) → r < m / 2 → c < n / 2 → (k : ℕ) → ((a b : ℕ) → a ≤ 1 → b ≤ 1 → k ≤ corner n r c p a b) → k ≤ get_or (half n m p) (r * (n / 2) + c) 0
  pub greatest : (n m : ℕ) (p : List ℕ) (r c : ℕ) → r < m / 2 → c < n / 2 → (k : ℕ) → ((a b : ℕ) → a ≤ 1 → b ≤ 1 → corner n r c p a b ≤ k) → get_or (half n m p) (r * (n / 2) + c) 0 ≤ k
