-- The entries below the first pivot and past the last, where each step clips what the step before gave, at once.
-- Assumes nothing.
use mathlib.Core.Path.{◌≡◌, ap, ◌∙◌}
use Prim.Native.Nat.{ℕ, zero, suc, ◌+◌, ◌-◌, ◌≤◌, ◌<◌, min, max}
use native.Mathlib.Omega.{arith}
use lib.IntN.{ℤ, pos, ◌+ℤ◌, ◌-ℤ◌}
use Rattle.laws.proofs.Differences.{diff_same, diff_add, diff_sub, diff_clip}
use Rattle.chroma_qp_check.specs.Pivots.{entry_qp}
use Rattle.chroma_qp.specs.Held.{held_below, held_past}
use Rattle.chroma_qp.specs.Mapping.{clip_qp, below, past}

-- 13 less than x, clipped
clip_is : (x : ℕ) → clip_qp (pos x -ℤ pos 13) ≡ entry_qp (min (x - 1) 69)
unfolding entry_qp clip_qp
clip_is x = diff_clip 13 1 70 x ∙ diff_same (max 1 (min 70 x)) 13 (min (x - 1) 69) 12 (omega arith)

-- one step down, and one up
pub clip_down : (x : ℕ) → clip_qp (entry_qp x -ℤ pos 1) ≡ entry_qp (min (x - 1) 69)
unfolding entry_qp
clip_down x = ap clip_qp (diff_sub x 12 1 0 ∙ diff_same (x + 0) (12 + 1) x 13 (omega arith)) ∙ clip_is x

pub clip_up : (x : ℕ) → clip_qp (entry_qp x +ℤ pos 1) ≡ entry_qp (min (x + 1) 69)
unfolding entry_qp
clip_up x =
    let e : min (x + 2 - 1) 69 ≡ min (x + 1) 69 = omega arith in
    ap clip_qp (diff_add x 12 1 0 ∙ diff_same (x + 1) (12 + 0) (x + 2) 13 (omega arith)) ∙ clip_is (x + 2) ∙ ap entry_qp e

-- k steps below an entry
below_is : (x k : ℕ) → x ≤ 69 → below (entry_qp x) k ≡ entry_qp (x - k)
unfolding below
below_is x zero h = ap entry_qp (omega arith)
below_is x (suc k) h = ap (λ (z : ℤ). clip_qp (z -ℤ pos 1)) (below_is x k h) ∙ clip_down (x - k) ∙ ap entry_qp (omega arith)

pub below_held : (i o k : ℕ) → o ≤ 69 → k ≤ i → below (entry_qp o) (i - k) ≡ entry_qp (held_below i o k)
unfolding held_below
below_held i o k h p = below_is o (i - k) h ∙ ap entry_qp (omega arith)

-- m steps past an entry, which may itself be past 57
pub past_held : (v m : ℕ) → 0 < m → past (entry_qp v) m ≡ entry_qp (held_past v m)
unfolding past held_past
past_held v zero h = absurd (omega arith)
past_held v (suc zero) h = clip_up v
past_held v (suc (suc m)) h =
    ap (λ (z : ℤ). clip_qp (z +ℤ pos 1)) (past_held v (suc m) (omega arith)) ∙ clip_up (min (v + suc m) 69) ∙ ap entry_qp (omega arith)
