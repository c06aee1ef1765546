-- The strength row of an edge: Q is the current unit, P the one left of it or above it.
-- Assumes nothing: these are definitions.
use Rattle.std.specs.Prelude.{ℕ, Bool, false, ◌||◌, [], ◌∷◌, eqb, ℤ, pos, negsuc, ◌-ℤ◌}
use Rattle.std.specs.Int.Signed.{lt_z, le_z}
use Rattle.laws.specs.Call.{all_of, any_of}
use Rattle.laws.specs.Clip.{abs_z}
use Rattle.laws.specs.Index.{pick}
use Rattle.def.specs.Word.{intra_of, coded_of}
use Rattle.line.specs.declared.Motion.{Motion}

-- whole numbers that are the same
unfoldable pub eq_z : ℤ → ℤ → Bool
eq_z (pos a) (pos b) = eqb a b
eq_z (pos a) (negsuc b) = false
eq_z (negsuc a) (pos b) = false
eq_z (negsuc a) (negsuc b) = eqb a b

-- two components differ by 4 or more
unfoldable pub far : ℤ → ℤ → Bool
far a b = le_z (pos 4) (abs_z (a -ℤ b))

-- motion of a negative reference counts as 0
unfoldable pub counted_as : (refi m : ℤ) → ℤ
counted_as refi m = pick (lt_z refi (pos 0)) (pos 0) m

-- references equal in place. They compare as bytes: -1 and -2 differ
unfoldable pub same_refs : Motion → Motion → Bool
same_refs q p = all_of (eq_z q.refi0 p.refi0 ∷ eq_z q.refi1 p.refi1 ∷ [])

-- a component of a list differs by 4 or more from its like
unfoldable pub any_far : Motion → Motion → Bool
any_far q p =
    any_of
    (far (counted_as q.refi0 q.x0) (counted_as p.refi0 p.x0)
    ∷ far (counted_as q.refi0 q.y0) (counted_as p.refi0 p.y0)
    ∷ far (counted_as q.refi1 q.x1) (counted_as p.refi1 p.x1)
    ∷ far (counted_as q.refi1 q.y1) (counted_as p.refi1 p.y1)
    ∷ [])

-- the two lists exchanged
abbrev pub crosswise : Motion → Motion
crosswise p = record { refi0 = p.refi1; refi1 = p.refi0; x0 = p.x1; y0 = p.y1; x1 = p.x0; y1 = p.y0 }

-- references equal in place: 2 if a component differs by 4 or more, else 3. Else equal crosswise: the same, crosswise. Else 2
unfoldable pub motion_row : Motion → Motion → ℕ
motion_row q p =
    pick (same_refs q p) (pick (any_far q p) 2 3)
    (pick (same_refs q (crosswise p)) (pick (any_far q (crosswise p)) 2 3)
    2)

-- 0 if either is intra; else 1 if either is luma-coded; else by motion. q and p are the units' words, m and n their motion
unfoldable pub row_of : (q p : ℕ) (m n : Motion) → ℕ
row_of q p m n = pick (intra_of q || intra_of p) 0 (pick (coded_of q || coded_of p) 1 (motion_row m n))
