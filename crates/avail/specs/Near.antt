-- A unit by its place in the frame around a block: how the code reads every neighbour.
-- Assumes nothing: these are definitions.
use Rattle.std.specs.Prelude.{ℕ, ◌+◌, ◌-◌, ◌/◌, ◌≤◌, ◌≡◌, Bool, ◌&&◌, List, leb, ltb, length}
use Rattle.laws.specs.Index.{pick}
use Rattle.def.specs.Picture.{unit_count}
use Rattle.avail.specs.Around.{word_at}

-- k, counted from 1, is one of n
unfoldable pub counted : ℕ → ℕ → Bool
counted n k = ltb 0 k && leb k n

-- the word of the unit a columns and b rows from the one up-left of the sample (x, y), and 0 where the picture has no such unit
unfoldable pub word_near : (w h : ℕ) → List ℕ → (x y a b : ℕ) → ℕ
word_near w h words x y a b = pick (counted (h / 4) (y / 4 + b) && counted (w / 4) (x / 4 + a)) (word_at w words (x / 4 + a - 1) (y / 4 + b - 1)) 0

-- what the reader needs: a word for each unit, and sums that fit
pub record Reach (w h : ℕ) (words : List ℕ) (x y a b : ℕ) : Type 0 where
  pub long : length words ≡ unit_count w h
  pub wide : x ≤ 4096
  pub high : y ≤ 4096
  pub across : a ≤ 64
  pub down : b ≤ 64
