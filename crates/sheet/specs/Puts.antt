-- What the functions that write a text leave behind.
-- Assumes nothing: these are definitions.
use Rattle.std.specs.Prelude.{List, [], ◌++◌, ℕ, zero, suc, ◌+◌, ◌*◌, ◌≤◌, ◌<◌, length, get_or}
use Rattle.edges.specs.Put.{Put}
use Rattle.sheet.specs.Text.{place_text, count_text}
use Rattle.sheet.specs.Words.{vertical_count, horizontal_count}

-- a text that starts the buffer, and fits it
pub record Starts (text out out' : List ℕ) (r : ℕ) : Type 0 where
  pub put : Put text out 0 out' r
  pub fits : r ≤ length out

-- a list has n pairs of numbers, of three digits at most
pub record Places (l : List ℕ) (n : ℕ) : Type 0 where
  pub long : 2 * n ≤ length l
  pub small : (i : ℕ) → i < 2 * n → get_or l i 0 < 1000

-- the first n pairs of a list of numbers, each as a place
unfoldable pub places_text : ℕ → List ℕ → ℕ → List ℕ
places_text letter l zero = []
places_text letter l (suc n) = places_text letter l n ++ place_text letter (get_or l (2 * n) 0) (get_or l (2 * n + 1) 0)

-- the places of two lists, and then their counts
unfoldable pub numbers_text : List ℕ → ℕ → List ℕ → ℕ → List ℕ
numbers_text v m h n = places_text 118 v m ++ (places_text 104 h n ++ (count_text vertical_count m ++ count_text horizontal_count n))
