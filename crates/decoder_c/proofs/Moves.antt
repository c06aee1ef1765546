-- The promise of the call that sets a unit's motion, read in numbers.
-- Assumes nothing.
use Prim.Native.Nat.{ℕ}
use mathlib.Core.Path.{◌≡◌, ap, ◌∙◌}
use mathlib.Core.List.{List}
use lib.IntN.{ℤ}
use Rattle.line.specs.declared.Motion.{Motion}
use Rattle.rows_rules.specs.MotionCall.{Input, Outcome, outcome}

-- the input with another motion
abbrev with : Input → Motion → Input
with i m = record { w = i.w; h = i.h; x = i.x; y = i.y; moved = m; words = i.words; motion = i.motion; refs = i.refs; rows = i.rows }

abbrev numbered : ℕ → (motion refs : List ℤ) → List ℕ → Outcome
numbered n motion refs rows = record { number = n; motion = motion; refs = refs; rows = rows }

pub moved_gives : (i : Input) (m : Motion) (n k : ℕ) (motion refs : List ℤ) (rows : List ℕ) → m ≡ i.moved → n ≡ k
    → numbered k motion refs rows ≡ outcome (with i m) → numbered n motion refs rows ≡ outcome i
moved_gives i m n k motion refs rows q e p = ap (λ (j : ℕ). numbered j motion refs rows) e ∙ p ∙ ap (λ (t : Motion). outcome (with i t)) q
