-- What the functions inside ask for and put.
-- Assumes nothing: these are definitions.
use Rattle.std.specs.Prelude.{ℕ, ◌+◌, ◌*◌, ◌≤◌, ◌<◌, ◌≡◌, List, ltb, ℤ, length, get_or, set}
use Rattle.laws.specs.Bits.{with_field}
use Rattle.laws.specs.Index.{pick}
use Rattle.split.specs.Edges.{Pass, vertical, horizontal}
use Rattle.rows_rules.specs.Rule.{first_bit, edge_row}

-- a picture's maps, c units a row
pub record Lent (c : ℕ) (words : List ℕ) (motion refs : List ℤ) : Type 0 where
  pub some : 0 < c
  pub wide : c ≤ 1024
  pub few : length words ≤ 1048576
  pub long_motion : length motion ≡ 4 * length words
  pub long_refs : length refs ≡ 2 * length words

-- the unit at column x, row y of c by h units, n in all
pub record UnitAt (c h n x y : ℕ) : Type 0 where
  pub column : x < c
  pub row : y < h
  pub high : h ≤ 1024
  pub whole : n ≡ c * h

-- a map with the row of unit k's edge on a side set by the rule
unfoldable pub edge_put : List ℕ → (motion refs : List ℤ) → ℕ → Pass → ℕ → List ℕ → List ℕ
edge_put words motion refs c d k rows = set rows k (with_field (first_bit d) 2 (edge_row words motion refs c d k) (get_or rows k 0))

-- a map with the rows of the right and the lower neighbour's edges towards the unit at column x, row y set by the rule, where c by h units have them
abbrev pub nexts_put : List ℕ → (motion refs : List ℤ) → (c h x y : ℕ) → List ℕ → List ℕ
nexts_put words motion refs c h x y rows =
    let right = pick (ltb (x + 1) c) (edge_put words motion refs c vertical (y * c + x + 1) rows) rows in
    pick (ltb (y + 1) h) (edge_put words motion refs c horizontal (y * c + x + c) right) right
