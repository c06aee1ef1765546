-- The walk of a split tree by its digits: one for each block of 8 or more, in the walk's order. It has the shape of the walk by split bytes.
-- Places and sides are in units. A digit is 0 or 1.
-- Assumes nothing: these are definitions.
use Rattle.std.specs.Prelude.{List, [], ◌∷◌, ◌++◌, ℕ, zero, suc, ◌+◌, ◌*◌, ◌/◌, ◌%◌, ◌^◌, ltb, Ok, Err}
use Rattle.laws.specs.Index.{pick}
use Rattle.def.specs.Answers.{Answer}
use Rattle.def.specs.declared.Refusal.TheVariants.{Bits}
use Rattle.split.specs.Picture.{root_x, root_y}
use Rattle.split.specs.Walk.{Walk, met, nothing, and_then, leaf_walk, by_byte, place}
use Rattle.marks_rules.specs.Marks.{Mark, mark}

-- what a descent comes to: the walk, the marks that the digits give, and the digits that it left
pub record Descent : Type 0 where
  pub walk : Walk
  pub marks : List Mark
  pub left : List ℕ

abbrev pub grown : Walk → List Mark → List ℕ → Descent
grown v l ds = record { walk = v; marks = l; left = ds }

-- a descent, and then, unless it was refused, another with the digits that it left
unfoldable pub descend_on : Answer → Descent → (List ℕ → Descent) → Descent
descend_on (Ok _) a g = let b = g a.left in grown (and_then a.walk b.walk) (a.marks ++ b.marks) b.left
descend_on (Err r) a g = a

abbrev pub descend_then : Descent → (List ℕ → Descent) → Descent
descend_then a g = descend_on a.walk.answer a g

-- the descents f 0, f 1, .., n of them, one after the other
unfoldable pub descents : (ℕ → List ℕ → Descent) → ℕ → List ℕ → Descent
descents f zero ds = grown nothing [] ds
descents f (suc n) ds = descend_then (descents f n ds) (f n)

-- 16: the digits have run out
abbrev pub run_out : Descent
run_out = grown (met [] (Err Bits)) [] []

-- by the next digit: a leaf where it is 0, a cut where it is 1
abbrev pub by_digit : List ℕ → (List ℕ → Descent) → (List ℕ → Descent) → Descent
by_digit [] whole cut = run_out
by_digit (d ∷ ds) whole cut = by_byte d (whole ds) (cut ds) run_out

-- one part of a block at (x, y) that is cut, by its number
abbrev pub part_by : (ℕ → ℕ → List ℕ → Descent) → (half x y n : ℕ) → List ℕ → Descent
part_by f half x y n = f (x + n % 2 * half) (y + n / 2 * half)

-- a block's own mark comes before those of its parts
abbrev pub after : Mark → Descent → Descent
after m a = grown a.walk (m ∷ a.marks) a.left

-- a block of side 2 ^ k at (x, y): skipped where it starts outside the picture; a unit has no digit; 5: a leaf reaches past the picture
unfoldable pub descend : (w h k x y : ℕ) → List ℕ → Descent
descend w h zero x y ds = grown (pick (ltb x w) (pick (ltb y h) (leaf_walk w h 1 x y) nothing) nothing) [] ds
descend w h (suc k) x y ds =
    pick (ltb x w)
    (pick (ltb y h)
    (by_digit ds
    (λ (left : List ℕ). grown (leaf_walk w h (2 ^ suc k) x y) (mark (place k x y) 0 ∷ []) left)
    (λ (left : List ℕ). after (mark (place k x y) 1) (descents (part_by (descend w h k) (2 ^ k) x y) 4 left)))
    (grown nothing [] ds))
    (grown nothing [] ds)

-- root i of a picture
abbrev pub root_descent : (w h i : ℕ) → List ℕ → Descent
root_descent w h i = descend w h 4 (root_x w i) (root_y w i)
