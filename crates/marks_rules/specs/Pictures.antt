-- A whole picture's map, root by root. w and h are its sides in units, s the split bytes of all roots.
-- Assumes nothing: these are definitions.
use Rattle.std.specs.Prelude.{List, [], ◌++◌, ℕ, zero, suc, replicate}
use Rattle.split.specs.Picture.{roots, root_bytes, root_x, root_y}
use Rattle.marks_rules.specs.Descent.{Descent, descents, root_descent}
use Rattle.marks_rules.specs.Marks.{digits, put_all}

-- f 0, f 1, .., n of them, one after the other
unfoldable pub joined : {A : Type 0} → (ℕ → List A) → ℕ → List A
joined f zero = []
joined f (suc n) = joined f n ++ f n

-- the digits of root i, and those of the first n roots
abbrev pub root_digits : List ℕ → (w h i : ℕ) → List ℕ
root_digits s w h i = digits (root_bytes s i) w h (root_x w i) (root_y w i)

abbrev pub digits_of : List ℕ → (w h n : ℕ) → List ℕ
digits_of s w h n = joined (root_digits s w h) n

-- the sheet's digits: roots follow one another
abbrev pub picture_digits : List ℕ → (w h : ℕ) → List ℕ
picture_digits s w h = digits_of s w h (roots w h)

-- ---- a map from digits

-- what the first n roots come to
abbrev pub upto : (w h : ℕ) → List ℕ → ℕ → Descent
upto w h ds n = descents (root_descent w h) n ds

-- root i, by the digits that those before it left
abbrev pub root_by : (w h : ℕ) → List ℕ → ℕ → Descent
root_by w h ds i = root_descent w h i (upto w h ds i).left

-- its bytes: those of its marks, and 0 at every other place
abbrev pub root_map : (w h : ℕ) → List ℕ → ℕ → List ℕ
root_map w h ds i = put_all (root_by w h ds i).marks (replicate 1024 0)

abbrev pub map_of : (w h : ℕ) → List ℕ → List ℕ
map_of w h ds = joined (root_map w h ds) (roots w h)
