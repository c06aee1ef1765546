-- Lines of a plane that are read at once and then written, one after the other: what `lines_at` comes to where no two of them share a place.
-- Assumes nothing: these are definitions.
use Rattle.std.specs.Prelude.{ℕ, zero, suc, ◌+◌, ◌*◌, ◌≤◌, ◌<◌, List, ◌≡◌, get_or}
use Rattle.line.specs.declared.Mask.{Mask}
use Rattle.line.specs.declared.Quad.{Quad}
pub use Rattle.df_rules.specs.Window.{put_line}

-- the four samples at `at`
abbrev pub samples_at : (step at : ℕ) → List ℕ → Quad
samples_at step at xs = record { a = get_or xs at 0; b = get_or xs (at + step) 0; c = get_or xs (at + 2 * step) 0; d = get_or xs (at + 3 * step) 0 }

-- n lines, q k over the k-th
unfoldable pub put_lines : Mask → (q : ℕ → Quad) → (step next at n : ℕ) → List ℕ → List ℕ
put_lines m q step next at zero xs = xs
put_lines m q step next at (suc n) xs = put_line m step (at + n * next) (q n) (put_lines m q step next at n xs)

-- no two of n lines share a place
pub record Apart (step next n : ℕ) : Type 0 where
  pub never : (k l i j : ℕ) → k < l → l < n → i ≤ 3 → j ≤ 3 → l * next + j * step ≡ k * next + i * step → ⊥
