-- Runs: n units from a number on.
-- Assumes nothing: these are definitions.
use Rattle.std.specs.Prelude.{ℕ, ◌+◌, ◌*◌, ◌/◌, ◌≤◌, Bool, List, [], ◌∷◌, leb, ℤ, length}
use Rattle.laws.specs.Call.{all_of}
use Rattle.laws.specs.Index.{pick}
use Rattle.laws.specs.Plane.{with_row}
use Rattle.df_rules.specs.Strength.{row_by}

-- n from k on are units of maps of these lengths
unfoldable pub run_in_maps : (words motion refs : ℕ) → (k n : ℕ) → Bool
run_in_maps words motion refs k n = all_of (leb (k + n) words ∷ leb (k + n) (motion / 4) ∷ leb (k + n) (refs / 2) ∷ [])

-- n from q on are, and n from p on, and there is room for n rows
unfoldable pub runs_in : (words motion refs rows : ℕ) → (q p n : ℕ) → Bool
runs_in words motion refs rows q p n = all_of (leb n rows ∷ run_in_maps words motion refs q n ∷ run_in_maps words motion refs p n ∷ [])

-- the same of maps
pub record RunThere (words : List ℕ) (motion refs : List ℤ) (k n : ℕ) : Type 0 where
  pub word : k + n ≤ length words
  pub mv : 4 * (k + n) ≤ length motion
  pub refi : 2 * (k + n) ≤ length refs

-- n rows, of n units from q on and those from p on, put into a list; it stays as it is where they are not all there
unfoldable pub rows_put : List ℕ → (motion refs : List ℤ) → (q p n : ℕ) → List ℕ → List ℕ
rows_put words motion refs q p n rows =
    pick (runs_in (length words) (length motion) (length refs) (length rows) q p n) (with_row 0 0 n (λ (j : ℕ). row_by words motion refs (q + j) (p + j)) rows) rows
