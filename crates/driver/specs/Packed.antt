-- A root's leaves, a number each: its side in units, then its row and its column in the root. It takes a third of the room of `split::leaves`'s list.
-- Assumes nothing: these are definitions.
use Rattle.std.specs.Prelude.{ℕ, ◌+◌, ◌*◌, ◌/◌, ◌%◌, ◌<◌, ◌≡◌, List, eqb, length, get_or}
use Rattle.laws.specs.Index.{pick, tabulate}
use Rattle.driver.specs.declared.walk.Root.{Root}

abbrev pub packed_leaf : (x y side : ℕ) → ℕ
packed_leaf x y side = side / 4 * 256 + y / 4 % 16 * 16 + x / 4 % 16

-- place k of a leaf's three, from its number, the root standing at (x, y)
abbrev pub place_from : (x y m k : ℕ) → ℕ
place_from x y m k = pick (eqb k 0) (x + 4 * (m % 16)) (pick (eqb k 1) (y + 4 * (m / 16 % 16)) (4 * (m / 256)))

-- the list that the numbers stand for
abbrev pub unpacked : (x y : ℕ) → List ℕ → List ℕ
unpacked x y p = tabulate 768 (λ (k : ℕ). place_from x y (get_or p (k / 3) 0) (k % 3))

-- of a root
abbrev pub unpacked_at : Root → List ℕ → List ℕ
unpacked_at root p = unpacked root.x.0 root.y.0 p

-- the first n leaves of a list
pub record Packed (list : List ℕ) (n : ℕ) (p : List ℕ) : Type 0 where
  pub long : length p ≡ 256
  pub each : (j : ℕ) → j < n → get_or p j 0 ≡ packed_leaf (get_or list (3 * j) 0) (get_or list (3 * j + 1) 0) (get_or list (3 * j + 2) 0)
