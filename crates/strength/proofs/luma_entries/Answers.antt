-- Assumes nothing.
use Prim.Native.Nat.{ℕ, ◌≤◌, ◌<◌}
use mathlib.Core.Logic.{◌⊎◌, inl, inr}
use mathlib.Core.Path.{refl}
use native.Mathlib.Decide.{dec_lt}
use native.Mathlib.Omega.{arith}
use lib.ListN.{length, get_or-replicate}
use Rattle.std.specs.Prelude.{min}
use Rattle.std.proofs.Math.Nat.{min-le_left, min-le_right, min-eq_left, min-eq_right}
use Rattle.laws.proofs.Fill.{upto_none, upto_more}
use Rattle.strength.proofs.Strengths.{lumas}
use Rattle.strength.proofs.luma_entries.Goals as goal

-- the loop ends where there is no more room, or no more to write
ends : (l i : ℕ) → min l 208 ≤ i → Dec (l < 208) → (208 ≤ i) ⊎ (l ≤ i)
ends l i p (yes q) = inr (omega (arith, min-eq_left {n = l} {m = 208} (omega arith)))
ends l i p (no q) = inl (omega (arith, min-eq_right {n = 208} {m = l} (omega arith)))

pub loop-i-init : goal.loop-i-init
loop-i-init c =
    let l = length c.args.strengths.now in
    (omega arith, c.min-n.ensures, omega (arith, c.min-n.ensures, min-le_left l 208), omega (arith, c.min-n.ensures, min-le_right l 208), upto_none _ _ _)

pub loop-i-preserved : goal.loop-i-preserved
loop-i-preserved c =
    let v = c.loop-i.invariant in
    (omega arith, v.1, v.2, v.3, upto_more 0 _ _ _ c.loop-i.i _ (omega arith) refl v.4)

pub returns : goal.returns
returns c =
    let l = c.loop-i in
    let s = length c.args.strengths.now in
    lumas _ _ _ l.i refl (λ k p. get_or-replicate 624 k 0 0 p) (omega (arith, l.invariant.3)) (ends s l.i (omega (arith, l.invariant.1)) (dec_lt s 208)) l.invariant.4
