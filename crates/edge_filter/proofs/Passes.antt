-- The two passes by a flag: one is not the other.
-- Assumes nothing.
use mathlib.Core.Bool.{Bool, true, false}
use mathlib.Core.Path.{◌≡◌, refl, sym, ap, ◌∙◌}
use Rattle.split.specs.Edges.{Pass, vertical, horizontal, pass_of}

flag : Pass → Bool
flag vertical = false
flag horizontal = true

-- the flag that a pass came from
back : (b : Bool) → flag (pass_of b) ≡ b
unfolding flag
back true = refl
back false = refl

pub pass_apart : (a b : Bool) → pass_of a ≡ pass_of b → a ≡ b
pass_apart a b e = sym (back a) ∙ ap flag e ∙ back b
