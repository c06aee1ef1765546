-- After i turns i of the entries are written into zeros. Assumes nothing.
use Prim.Native.Nat.{ℕ, ◌≤◌}
use mathlib.Core.Path.{◌≡◌}
use lib.ListN.{length, get_or}
use Rattle.std.specs.Prelude.{min}
use Rattle.laws.proofs.Fill.{Upto}
use Rattle.strength.proofs.luma_entries.Given as goal

abbrev pub invariant-loop-i : goal.invariant-loop-i
invariant-loop-i l =
    (l.i ≤ l.n)
    × (l.n ≡ min (length l.strengths) 208)
    × (l.n ≤ length l.strengths)
    × (l.n ≤ 208)
    × Upto 0 (λ (k : ℕ). get_or l.strengths k 0) l.initial.list l.list l.i
