-- The walk of one root's split tree. Places and sides are in units of 4x4 luma samples, counted in the picture: w and h are its sides in units,
-- s the root's 1,024 split bytes. A block of level 4 - k has a side of 2 ^ k units.
-- Assumes nothing: these are definitions.
use Rattle.std.specs.Prelude.{List, [], ◌∷◌, ◌++◌, ℕ, zero, suc, ◌+◌, ◌-◌, ◌*◌, ◌/◌, ◌%◌, ◌^◌, ltb, leb, get_or, Ok, Err}
use Rattle.laws.specs.Call.{unless}
use Rattle.laws.specs.Index.{pick}
use Rattle.def.specs.Answers.{Answer}
use Rattle.def.specs.declared.Refusal.TheVariants.{Split, Leaf as PastPicture}

-- a leaf: its first unit's column and row, and its side in units
pub record Leaf : Type 0 where
  pub x : ℕ
  pub y : ℕ
  pub side : ℕ

abbrev pub leaf : ℕ → ℕ → ℕ → Leaf
leaf x y n = record { x = x; y = y; side = n }

-- what a walk comes to: the leaves that it met, in its order, and done, or the refusal that ended it
pub record Walk : Type 0 where
  pub list : List Leaf
  pub answer : Answer

abbrev pub met : List Leaf → Answer → Walk
met l a = record { list = l; answer = a }

abbrev pub nothing : Walk
nothing = met [] (Ok tt)

-- a walk, and then, unless it was refused, another
unfoldable pub onward : Answer → List Leaf → Walk → Walk
onward (Ok _) l b = met (l ++ b.list) b.answer
onward (Err r) l b = met l (Err r)

abbrev pub and_then : Walk → Walk → Walk
and_then a b = onward a.answer a.list b

-- the walks f 0, f 1, .., n of them, one after the other as far as none is refused
unfoldable pub in_turn : (ℕ → Walk) → ℕ → Walk
in_turn f zero = nothing
in_turn f (suc n) = and_then (in_turn f n) (f n)

-- 5: a leaf reaches past the picture
unfoldable pub leaf_walk : (w h n x y : ℕ) → Walk
leaf_walk w h n x y =
    unless (leb (x + n) w) (met [] (Err PastPicture))
    (unless (leb (y + n) h) (met [] (Err PastPicture))
    (met (leaf x y n ∷ []) (Ok tt)))

-- by a split byte: a leaf where it is 0, a cut where it is 1, and else refused
unfoldable pub by_byte : {A : Type 0} → ℕ → A → A → A → A
by_byte zero l f e = l
by_byte (suc zero) l f e = f
by_byte (suc (suc n)) l f e = e

-- where the byte of the block of side 2 ^ suc k stands: its level's 256, and the unit at its centre, 16 * row + column in the root
abbrev pub place : (k x y : ℕ) → ℕ
place k x y = 256 * (3 - k) + (16 * ((y + 2 ^ k) % 16) + (x + 2 ^ k) % 16)

-- one part of a block at (x, y) that is cut, by its number: 0 up-left, 1 up-right, 2 down-left, 3 down-right; f walks a part
abbrev pub part : (ℕ → ℕ → Walk) → (half x y n : ℕ) → Walk
part f half x y n = f (x + n % 2 * half) (y + n / 2 * half)

-- 4: a split byte that is not 0 or 1. A block that starts outside the picture is skipped; a unit has no byte
unfoldable pub walk : List ℕ → (w h k x y : ℕ) → Walk
walk s w h zero x y = pick (ltb x w) (pick (ltb y h) (leaf_walk w h 1 x y) nothing) nothing
walk s w h (suc k) x y =
    pick (ltb x w)
    (pick (ltb y h)
    (by_byte (get_or s (place k x y) 0)
    (leaf_walk w h (2 ^ suc k) x y)
    (in_turn (part (walk s w h k) (2 ^ k) x y) 4)
    (met [] (Err Split)))
    nothing)
    nothing
