-- A sample and its residual: a residual held within ±1023 makes the same sample, and the comparisons of the code are the clips.
--     held_low, held_high, held_within    the residual's clip by its comparisons
--     held_same, held_small    what is held makes the same sample, and is small
--     sum_fits, machine_sum    the sum of a sample and a held residual, in 16 bits
-- Assumes nothing.
use Prim.Native.Nat.{ℕ, zero, suc, ◌+◌, ◌-◌, ◌≤◌, ◌<◌, min}
use mathlib.Core.Path.{◌≡◌, refl, sym, ap, ◌∙◌}
use mathlib.Core.Bool.{Bool, true, false, cond}
use native.Mathlib.Omega.{arith}
use borrow.Author.Tests.{ltb-true, ltb-false, le-ltb}
use lib.IntN.{ℤ, pos, negsuc, neg_ℤ, ◌+ℤ◌}
use lib.Signed.{lt_z, mag}
use mir.Syntax.{w16}
use mir.Val.{SFits, to_z, of_z}
use Rattle.laws.specs.Clip.{max_z, min_z, clip_z, sample_z}
use Rattle.laws.specs.Sign.{sg}
use Rattle.laws.proofs.Signs.{by_lt, clip_sg, sample_sg}
use Rattle.laws.proofs.Widths.{mag_add, sfits, back}

abbrev pub held_z : ℤ → ℤ
held_z r = clip_z (neg_ℤ (pos 1023)) (pos 1023) r

-- ---- the residual

pub held_low : (r : ℤ) → lt_z r (neg_ℤ (pos 1023)) ≡ true → neg_ℤ (pos 1023) ≡ held_z r
unfolding clip_z max_z min_z
held_low (pos n) e = cc
held_low (negsuc n) e = let p : 1022 < n = ltb-true 1022 n e in rw (le-ltb n 1022 (omega arith))

pub held_high : (r : ℤ) → lt_z (pos 1023) r ≡ true → pos 1023 ≡ held_z r
unfolding clip_z max_z min_z
held_high (pos n) e = rw e
held_high (negsuc n) e = cc

pub held_within : (r : ℤ) → lt_z r (neg_ℤ (pos 1023)) ≡ false → lt_z (pos 1023) r ≡ false → r ≡ held_z r
unfolding clip_z max_z min_z
held_within (pos n) a b = rw b
held_within (negsuc n) a b =
    let few : n ≤ 1022 = ltb-false 1022 n a in
    by_lt (λ t. negsuc n ≡ cond t (negsuc n) (negsuc 1022)) n 1022 (λ h. refl) (λ h. ap negsuc (omega arith))

-- a residual by its sign and its magnitude
moved_same : (s : Bool) (p m : ℕ) → p ≤ 1023 → sample_z (pos p +ℤ sg s (min m 1023)) ≡ sample_z (pos p +ℤ sg s m)
moved_same true p m h = sample_sg true p (min m 1023) ∙ less ∙ sym (sample_sg true p m) where
  less : min (p - min m 1023) 1023 ≡ min (p - m) 1023
  less = omega arith
moved_same false p m h = sample_sg false p (min m 1023) ∙ more ∙ sym (sample_sg false p m) where
  more : min (p + min m 1023) 1023 ≡ min (p + m) 1023
  more = omega arith

pub held_same : (p : ℕ) (r : ℤ) → p ≤ 1023 → sample_z (pos p +ℤ held_z r) ≡ sample_z (pos p +ℤ r)
held_same p (pos n) h = ap (λ (z : ℤ). sample_z (pos p +ℤ z)) (clip_sg false n 1023) ∙ moved_same false p n h
held_same p (negsuc n) h = ap (λ (z : ℤ). sample_z (pos p +ℤ z)) (clip_sg true (suc n) 1023) ∙ moved_same true p (suc n) h

mag_sg : (s : Bool) (m : ℕ) → mag (sg s m) ≤ m
mag_sg true zero = omega arith
mag_sg true (suc m) = omega arith
mag_sg false m = omega arith

pub held_small : (r : ℤ) → mag (held_z r) ≤ 1023
held_small (pos n) = rw (clip_sg false n 1023) (omega (arith, mag_sg false (min n 1023)))
held_small (negsuc n) = rw (clip_sg true (suc n) 1023) (omega (arith, mag_sg true (min (suc n) 1023)))

-- ---- the sum of a sample p and a number z that is held

module _ (p : ℕ) (z : ℤ) (sample : p ≤ 1023) (small : mag z ≤ 1023) where
  pub sum_fits : SFits w16 (pos p +ℤ z)
  sum_fits = sfits w16 2047 (omega (arith, mag_add (pos p) z)) tt

  -- the operands, and the sum, as the machine reads them
  pub machine_terms : to_z w16 p +ℤ to_z w16 (of_z w16 z) ≡ pos p +ℤ z
  machine_terms = rw (back w16 z (sfits w16 1023 small tt), back w16 (pos p) (sfits w16 1023 sample tt))

  pub machine_sum : to_z w16 (of_z w16 (to_z w16 p +ℤ to_z w16 (of_z w16 z))) ≡ pos p +ℤ z
  machine_sum = ap (λ (s : ℤ). to_z w16 (of_z w16 s)) machine_terms ∙ back w16 (pos p +ℤ z) sum_fits
