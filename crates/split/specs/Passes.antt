-- The two passes as the paper has them: the vertical one goes by the units that are done. w is the picture's width in units.
-- Assumes nothing: these are definitions.
use Rattle.std.specs.Prelude.{Bool, false, ◌&&◌, ◌||◌, List, [], ◌∷◌, ◌++◌, ℕ, ◌+◌, ◌-◌, ltb, leb}
use Rattle.laws.specs.Index.{pick}
use Rattle.laws.specs.Orders.{each}
use Rattle.split.specs.Edges.{Edge, Visit, vertical, horizontal, stretch}

abbrev pub left_edge : Visit → List Edge
left_edge p = stretch vertical p.x p.y p.tall

abbrev pub right_edge : Visit → List Edge
right_edge p = stretch vertical (p.x + p.wide) p.y p.tall

abbrev pub top_edge : Visit → List Edge
top_edge p = stretch horizontal p.y p.x p.wide

-- the unit of column u and row v is one of p's
unfoldable pub has : Visit → ℕ → ℕ → Bool
has p u v = leb p.x u && (ltb u (p.x + p.wide) && (leb p.y v && ltb v (p.y + p.tall)))

-- the unit is done: it is one of a visit's that was made
unfoldable pub done : List Visit → ℕ → ℕ → Bool
done [] u v = false
done (p ∷ l) u v = has p u v || done l u v

-- the visits that are left, after those made before: each visit's left edge if x > 0 and the unit left of its top row is done, then its right edge
-- if x + side < w and the unit right of its top row is done; then it sets done on its own units
unfoldable pub vertical_pass : ℕ → List Visit → List Visit → List Edge
vertical_pass w before [] = []
vertical_pass w before (p ∷ l) =
    pick (ltb 0 p.x && done before (p.x - 1) p.y) (left_edge p) []
    ++ (pick (ltb (p.x + p.wide) w && done before (p.x + p.wide) p.y) (right_edge p) []
    ++ vertical_pass w (before ++ (p ∷ [])) l)

-- the top edge if y > 0
abbrev pub horizontal_pass : List Visit → List Edge
horizontal_pass l = each (λ p. pick (ltb 0 p.y) (top_edge p) []) l
