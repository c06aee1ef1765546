-- The maps of a picture's units, and a block of units told in all three.
-- Assumes nothing: these are definitions.
use Rattle.std.specs.Prelude.{ℕ, ◌+◌, ◌*◌, ◌≤◌, Bool, List, [], ◌∷◌, leb, length}
use Rattle.laws.specs.Call.{all_of}
use Rattle.laws.specs.Index.{pick}
use Rattle.laws.specs.Plane.{with_block}

-- one entry a unit, in rows
pub record Maps : Type 0 where
  pub words : List ℕ
  pub modes : List ℕ
  pub keep : List ℕ

abbrev pub maps_of : (words modes keep : List ℕ) → Maps
maps_of words modes keep = record { words = words; modes = modes; keep = keep }

-- the block of n by n units at column x, row y lies in maps of rows of `columns`, of these lengths
abbrev pub lies_tests : (columns x y n words modes keep : ℕ) → List Bool
lies_tests columns x y n words modes keep =
    let end = (y + n) * columns in
    leb columns 1024 ∷ leb y 1024 ∷ leb (x + n) columns ∷ leb end words ∷ leb end modes ∷ leb end keep ∷ []

unfoldable pub lies : (columns x y n words modes keep : ℕ) → Bool
lies columns x y n words modes keep = all_of (lies_tests columns x y n words modes keep)

-- the same of maps
pub record Inside (columns x y n : ℕ) (words modes keep : List ℕ) : Type 0 where
  pub wide : columns ≤ 1024
  pub high : y ≤ 1024
  pub right : x + n ≤ columns
  pub in_words : (y + n) * columns ≤ length words
  pub in_modes : (y + n) * columns ≤ length modes
  pub in_keep : (y + n) * columns ≤ length keep

-- the maps with a word, a mode and a mark in the units of the block
abbrev pub with_blocks : (columns x y n word mode mark : ℕ) → Maps → Maps
with_blocks columns x y n word mode mark m =
    record {
      words = with_block 0 columns x y n n (λ (r c : ℕ). word) m.words;
      modes = with_block 0 columns x y n n (λ (r c : ℕ). mode) m.modes;
      keep = with_block 0 columns x y n n (λ (r c : ℕ). mark) m.keep;
    }

-- where the block lies in all three, and else as they are
unfoldable pub told_maps : (columns x y n word mode mark : ℕ) → Maps → Maps
told_maps columns x y n word mode mark m =
    pick (lies columns x y n (length m.words) (length m.modes) (length m.keep)) (with_blocks columns x y n word mode mark m) m
