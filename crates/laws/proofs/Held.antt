-- A whole number held within 0..top, by the two comparisons of the code: below 0, over the top, and between.
-- Assumes nothing.
use Prim.Native.Nat.{ℕ, ◌≤◌}
use mathlib.Core.Path.{◌≡◌, refl, sym, ap}
use mathlib.Core.Bool.{true, false}
use native.Mathlib.Omega.{arith}
use borrow.Author.Tests.{ltb-true, ltb-false}
use lib.Dec.{T}
use lib.IntN.{ℤ, pos, negsuc, nat_abs}
use lib.Signed.{lt_z, non_neg}
use Rattle.laws.specs.Clip.{max_z, min_z, clip_z, held_to}
use Rattle.laws.proofs.Signs.{max_pos}

module _ (top : ℕ) where
  pub held_low : (z : ℤ) → lt_z z (pos 0) ≡ true → 0 ≡ held_to top z
  unfolding held_to clip_z max_z min_z
  held_low (pos n) e = absurd (omega (arith, ltb-true n 0 e))
  held_low (negsuc n) e = refl

  pub held_high : (z : ℤ) → lt_z (pos top) z ≡ true → top ≡ held_to top z
  unfolding held_to clip_z min_z
  held_high (pos n) e = rw e (sym (ap nat_abs (max_pos top)))
  held_high (negsuc n) e = cc

  -- one that is held as it is
  pub record Within (z : ℤ) : Type 0 where
    pub some : T (non_neg z)
    pub most : nat_abs z ≤ top
    pub same : nat_abs z ≡ held_to top z

  pub held_within : (z : ℤ) → lt_z z (pos 0) ≡ false → lt_z (pos top) z ≡ false → Within z
  unfolding held_to clip_z min_z
  held_within (pos n) a b = record { some = tt; most = ltb-false top n b; same = rw b (sym (ap nat_abs (max_pos n))) }
  held_within (negsuc n) a b = absurd (let z : ◌≡◌ {A = ℕ} 0 1 = cc in omega arith)
