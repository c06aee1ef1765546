-- What the functions of the walk ask and leave behind, and the leaves of a list. They work in luma samples; 4 of them make a unit, and no position of theirs lies inside one.
-- Assumes nothing: these are definitions.
use Rattle.std.specs.Prelude.{List, [], ◌∷◌, ◌++◌, ◌≡◌, ℕ, zero, suc, ◌+◌, ◌-◌, ◌*◌, ◌/◌, ◌%◌, ◌^◌, ◌≤◌, ◌<◌, length, get_or, Ok, Err, Result}
use Rattle.std.proofs.lemmas.List.Edits.{sets}
use Rattle.def.specs.declared.Refusal.{Refusal}
use Rattle.def.specs.Answers.{Answer}
use Rattle.laws.specs.Orders.{each}
use Rattle.split.specs.Walk.{Leaf, leaf, Walk}

-- a block of the tree of a picture of w by h, of side `side` at (x, y)
pub record Block (w h x y side level : ℕ) : Type 0 where
  pub wide : w ≤ 4096
  pub high : h ≤ 4096
  pub units_wide : w % 4 ≡ 0
  pub units_high : h % 4 ≡ 0
  pub column : x % 4 ≡ 0
  pub row : y % 4 ≡ 0
  pub right : x + side ≤ 8192
  pub bottom : y + side ≤ 8192
  pub deep : level ≤ 4
  pub power : side ≡ 4 * 2 ^ (4 - level)

-- a leaf as it is listed: its luma place and its side
abbrev pub leaf_numbers : Leaf → List ℕ
leaf_numbers p = 4 * p.x ∷ 4 * p.y ∷ 4 * p.side ∷ []

-- the answer of a walk after which n leaves are listed
abbrev pub counted : ℕ → Answer → Result ℕ Refusal
counted n (Ok _) = Ok n
counted n (Err r) = Err r

-- the leaves that a walk met are listed after the n before them, whether it was refused or not
pub record Stored (v : Walk) (out : List ℕ) (n : ℕ) (out' : List ℕ) (r : Result ℕ Refusal) : Type 0 where
  pub answer : r ≡ counted (n + length v.list) v.answer
  pub stored : out' ≡ sets out (3 * n) (each leaf_numbers v.list)

-- how many units some leaves have
abbrev pub area : List Leaf → ℕ
area [] = 0
area (p ∷ l) = p.side * p.side + area l

-- ---- the leaves of a list, read back

abbrev pub leaf_from : List ℕ → ℕ → Leaf
leaf_from list j = leaf (get_or list (3 * j) 0 / 4) (get_or list (3 * j + 1) 0 / 4) (get_or list (3 * j + 2) 0 / 4)

-- the first n
unfoldable pub leaves_from : List ℕ → ℕ → List Leaf
leaves_from list zero = []
leaves_from list (suc n) = leaves_from list n ++ (leaf_from list n ∷ [])

-- a leaf at (x, y), in a picture
pub record LeafAt (x y side : ℕ) : Type 0 where
  pub column : x % 4 ≡ 0
  pub row : y % 4 ≡ 0
  pub units : side % 4 ≡ 0
  pub some : 4 ≤ side
  pub right : x + side ≤ 4096
  pub bottom : y + side ≤ 4096

-- n leaves stand in the list
pub record Ready (list : List ℕ) (n : ℕ) : Type 0 where
  pub long : 3 * n ≤ length list
  pub leaves : (j : ℕ) → j < n → LeafAt (get_or list (3 * j) 0) (get_or list (3 * j + 1) 0) (get_or list (3 * j + 2) 0)
