-- Lines of a plane, filtered where they lie. A line's four samples start at `at` and lie `step` apart; the next line starts `next` further on.
-- Assumes nothing: these are definitions.
use Rattle.std.specs.Prelude.{ℕ, zero, suc, ◌+◌, ◌*◌, ◌≤◌, Bool, true, false, List, eqb, get_or, set}
use Rattle.laws.specs.Index.{pick}
use Rattle.line.specs.declared.Mask.{Mask}
use Rattle.line.specs.declared.Quad.{Quad}
use Rattle.line.specs.Line.{line_of}

-- what the four samples at `at` become
abbrev pub quad_at : (st step at : ℕ) → List ℕ → Quad
quad_at st step at xs = line_of (get_or xs at 0) (get_or xs (at + step) 0) (get_or xs (at + 2 * step) 0) (get_or xs (at + 3 * step) 0) st

-- v at place i where the mask says so
abbrev pub put_if : Bool → (i v : ℕ) → List ℕ → List ℕ
put_if true i v xs = set xs i v
put_if false i v xs = xs

-- q over the line at `at`: the samples that the mask says are written, and no other
abbrev pub put_line : Mask → (step at : ℕ) → Quad → List ℕ → List ℕ
put_line m step at q xs =
    put_if m.d (at + 3 * step) q.d (put_if m.c (at + 2 * step) q.c (put_if m.b (at + step) q.b (put_if m.a at q.a xs)))

-- one line
unfoldable pub line_at : Mask → (st step at : ℕ) → List ℕ → List ℕ
line_at m st step at xs = put_line m step at (quad_at st step at xs) xs

-- n lines, one after the other
unfoldable pub lines_at : Mask → (st step next at n : ℕ) → List ℕ → List ℕ
lines_at m st step next at zero xs = xs
lines_at m st step next at (suc n) xs = line_at m st step (at + n * next) (lines_at m st step next at n xs)

-- strength 0 leaves the window untouched
unfoldable pub window_at : Mask → (st step next at n : ℕ) → List ℕ → List ℕ
window_at m st step next at n xs = pick (eqb st 0) xs (lines_at m st step next at n xs)

-- every element is a sample
abbrev pub Samples : List ℕ → Type 0
Samples xs = (k : ℕ) → get_or xs k 0 ≤ 1023
