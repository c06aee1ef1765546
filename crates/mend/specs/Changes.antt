-- A mended map, root by root, and the changes that make it. w and h are the picture's sides in units, s the split bytes of all its roots.
-- Assumes nothing: these are definitions.
use Rattle.std.specs.Prelude.{List, [], ◌∷◌, ◌≡◌, ℕ, ◌+◌, ◌*◌, ◌/◌, ◌%◌, eqb, length, get_or}
use Rattle.std.proofs.lemmas.List.Edits.{sets}
use Rattle.laws.specs.Index.{pick}
use Rattle.laws.specs.Orders.{each}
use Rattle.marks_rules.specs.Marks.{Mark, put_all}
use Rattle.marks_rules.specs.Mended.{mend_marks}
use Rattle.marks_rules.specs.Pictures.{joined}
use Rattle.split.specs.Picture.{roots, root_bytes, root_x, root_y}

-- a block that reaches past the picture is cut; a byte above 1 inside the picture becomes 0 (`mend_by`)
abbrev pub root_marks : List ℕ → (w h i : ℕ) → List Mark
root_marks s w h i = mend_marks (root_bytes s i) w h 4 (root_x w i) (root_y w i)

-- all other bytes are copied
abbrev pub mend_root : List ℕ → (w h i : ℕ) → List ℕ
mend_root s w h i = put_all (root_marks s w h i) (root_bytes s i)

abbrev pub mend_map : List ℕ → (w h : ℕ) → List ℕ
mend_map s w h = joined (mend_root s w h) (roots w h)

-- a change: the root, the block's level, its place among the level's 256 bytes, the byte that stood there and the one that it has now
pub record Change : Type 0 where
  pub root : ℕ
  pub level : ℕ
  pub place : ℕ
  pub old : ℕ
  pub new : ℕ

-- of the byte at place p of root i, which was `old` and is `new`: none where they are equal
abbrev pub change_of : (i p old new : ℕ) → List Change
change_of i p old new = pick (eqb old new) [] (record { root = i; level = p / 256; place = p % 256; old = old; new = new } ∷ [])

-- of a mark, over the root's bytes b
abbrev pub changed : List ℕ → ℕ → Mark → List Change
changed b i m = change_of i m.place (get_or b m.place 0) m.byte

abbrev pub changes_in : List ℕ → ℕ → List Mark → List Change
changes_in b i l = each (changed b i) l

abbrev pub root_changes : List ℕ → (w h i : ℕ) → List Change
root_changes s w h i = changes_in (root_bytes s i) i (root_marks s w h i)

-- of the first n roots, and of all, in the order of the walk
abbrev pub changes_of : List ℕ → (w h n : ℕ) → List Change
changes_of s w h n = joined (root_changes s w h) n

abbrev pub all_changes : List ℕ → (w h : ℕ) → List Change
all_changes s w h = changes_of s w h (roots w h)

-- a change as it is listed
abbrev pub change_numbers : Change → List ℕ
change_numbers c = c.root ∷ c.level ∷ c.place ∷ c.old ∷ c.new ∷ []

-- changes are listed after the n before them
pub record Listed (l : List Change) (out : List ℕ) (n : ℕ) (out' : List ℕ) (r : ℕ) : Type 0 where
  pub count : r ≡ n + length l
  pub stored : out' ≡ sets out (5 * n) (each change_numbers l)
