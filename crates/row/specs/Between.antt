-- The strength row of the edge between two numbers, of which each may be a unit of a picture's maps or not.
-- Assumes nothing: these are definitions.
use Rattle.std.specs.Prelude.{ℕ, ◌+◌, ◌*◌, ◌/◌, ◌≤◌, ◌<◌, Bool, ◌&&◌, List, [], ◌∷◌, ltb, ℤ, pos, length, get_or}
use Rattle.laws.specs.Call.{all_of}
use Rattle.laws.specs.Index.{pick}
use Rattle.line.specs.Row.{eq_z}
use Rattle.df_rules.specs.Strength.{row_by}

-- k is a unit of maps of these lengths
unfoldable pub in_maps : (words motion refs : ℕ) → ℕ → Bool
in_maps words motion refs k = all_of (ltb k words ∷ ltb k (motion / 4) ∷ ltb k (refs / 2) ∷ [])

-- the row of two units; 0 where one of the numbers is none
unfoldable pub row_in : List ℕ → (motion refs : List ℤ) → (q p : ℕ) → ℕ
row_in words motion refs q p =
    let there = in_maps (length words) (length motion) (length refs) in
    pick (there q && there p) (row_by words motion refs q p) 0

-- the units q and p have the same references
unfoldable pub same_refs : (refs : List ℤ) → (q p : ℕ) → Bool
same_refs refs q p = all_of (eq_z (get_or refs (2 * q) (pos 0)) (get_or refs (2 * p) (pos 0)) ∷ eq_z (get_or refs (2 * q + 1) (pos 0)) (get_or refs (2 * p + 1) (pos 0)) ∷ [])

-- and the same motion
unfoldable pub same_motion : (motion : List ℤ) → (q p : ℕ) → Bool
same_motion motion q p =
    all_of
    (eq_z (get_or motion (4 * q) (pos 0)) (get_or motion (4 * p) (pos 0))
    ∷ eq_z (get_or motion (4 * q + 1) (pos 0)) (get_or motion (4 * p + 1) (pos 0))
    ∷ eq_z (get_or motion (4 * q + 2) (pos 0)) (get_or motion (4 * p + 2) (pos 0))
    ∷ eq_z (get_or motion (4 * q + 3) (pos 0)) (get_or motion (4 * p + 3) (pos 0))
    ∷ [])

-- k is a unit of the maps
pub record There (words : List ℕ) (motion refs : List ℤ) (k : ℕ) : Type 0 where
  pub word : k < length words
  pub mv : 4 * k + 4 ≤ length motion
  pub refi : 2 * k + 2 ≤ length refs
