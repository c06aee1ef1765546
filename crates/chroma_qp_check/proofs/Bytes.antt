-- Signed bytes: those not below 0, and any of them with 128 added, as numbers without a sign.
--     plain, byte_sign, below_none, all_left, delta_in_is    a byte by its sign, and what `delta_in` answers of it
--     raised, raised_fits, delta_out_is    a byte and 128, and what `delta_out` answers of it
-- Assumes nothing.
use mathlib.Core.Path.{◌≡◌, refl, sym, ap, ◌∙◌}
use mathlib.Core.Bool.{Bool, true, false, not}
use Prim.Native.Nat.{ℕ, suc, ◌+◌, ◌-◌, ◌≤◌}
use native.Mathlib.Omega.{arith}
use borrow.Author.Tests.{leb-false, le-leb, le-ltb}
use lib.Dec.{T}
use lib.IntN.{ℤ, pos, negsuc, nat_abs, ◌+ℤ◌, ◌-ℤ◌}
use lib.Signed.{le_z, lt_z, non_neg, mag}
use mir.Syntax.{w8, w16}
use mir.Val.{SFits, to_z, of_z}
use Rattle.laws.specs.Clip.{max_z}
use Rattle.laws.proofs.Differences.{diff_same, diff_none, diff_neg}
use Rattle.laws.proofs.Signs.{max_sg}
use Rattle.laws.proofs.Widths.{sfits, back}

-- ---- a byte that is not below 0

pub record Plain (z : ℤ) : Type 0 where
  pub some : T (non_neg z)
  pub is : z ≡ pos (nat_abs z)
  pub most : nat_abs z ≤ 127

pub plain : (z : ℤ) → SFits w8 z → le_z (pos 0) z ≡ true → Plain z
plain (pos n) f e = record { some = tt; is = refl; most = omega (arith, f.sfits) }
plain (negsuc n) f e = absurd (let h : ◌≡◌ {A = ℕ} 0 1 = cc in omega arith)

-- the code's test of a byte's sign
sign : (z : ℤ) → le_z (pos 0) z ≡ not (lt_z z (pos 0))
sign (pos n) = le-leb 0 n (omega arith) ∙ ap not (sym (le-ltb n 0 (omega arith)))
sign (negsuc n) = refl

pub byte_sign : (z : ℤ) (t : Bool) → SFits w8 z → lt_z (to_z w8 (of_z w8 z)) (pos 0) ≡ t → le_z (pos 0) z ≡ not t
byte_sign z t f e = sign z ∙ ap not (ap (λ (x : ℤ). lt_z x (pos 0)) (sym (back w8 z f)) ∙ e)

-- none is left of a byte below 0, and all of another
pub below_none : (z : ℤ) → le_z (pos 0) z ≡ false → pos 0 ≡ max_z (pos 0) z
unfolding max_z
below_none (pos n) e = absurd (omega (arith, leb-false 0 n e))
below_none (negsuc n) e = refl

pub all_left : (z : ℤ) → le_z (pos 0) z ≡ true → max_z (pos 0) z ≡ z
all_left (pos n) e = max_sg false n
all_left (negsuc n) e = absurd (let h : ◌≡◌ {A = ℕ} 0 1 = cc in omega arith)

-- the byte, as it is read, was handed to `delta_in`
pub delta_in_is : (z : ℤ) (r : ℕ) → SFits w8 z → le_z (pos 0) z ≡ true → pos r ≡ max_z (pos 0) (to_z w8 (of_z w8 z)) → z ≡ pos r
delta_in_is z r f e g = sym (g ∙ ap (max_z (pos 0)) (back w8 z f) ∙ all_left z e)

-- ---- any byte, and 128 more

pub record Raised (z : ℤ) : Type 0 where
  pub some : T (non_neg (z +ℤ pos 128))
  pub sum : pos (nat_abs (z +ℤ pos 128)) ≡ z +ℤ pos 128
  pub is : z ≡ pos (nat_abs (z +ℤ pos 128)) -ℤ pos 128
  pub most : nat_abs (z +ℤ pos 128) ≤ 255

raised_by : (z w : ℤ) (k : ℕ) → z +ℤ pos 128 ≡ w → w ≡ pos k → z ≡ pos k -ℤ pos 128 → k ≤ 255 → Raised z
raised_by z w k e f g h = record { some = rw (e ∙ f) tt; sum = rw (e ∙ f) refl; is = rw (e ∙ f) g; most = rw (e ∙ f) h }

pub raised : (z : ℤ) → SFits w8 z → Raised z
raised (pos n) f = raised_by (pos n) (pos (n + 128)) (n + 128) refl refl (diff_none n ∙ diff_same n 0 (n + 128) 128 (omega arith)) (omega (arith, f.sfits))
raised (negsuc n) f =
    raised_by (negsuc n) (pos 128 -ℤ pos (suc n)) (127 - n) refl
    (diff_same 128 (suc n) (127 - n) 0 (omega (arith, f.sfits)) ∙ sym (diff_none (127 - n)))
    (diff_neg (suc n) ∙ diff_same 0 (suc n) (127 - n) 128 (omega (arith, f.sfits)))
    (omega arith)

pub raised_fits : (z : ℤ) → SFits w8 z → SFits w16 (z +ℤ pos 128)
raised_fits z f = sfits w16 255 (small (z +ℤ pos 128) (raised z f).some (raised z f).most) tt where
  small : (w : ℤ) → T (non_neg w) → nat_abs w ≤ 255 → mag w ≤ 255
  small (pos k) t h = h
  small (negsuc k) t h = absurd t

-- the byte, as it is read, was handed to `delta_out`
pub delta_out_is : (z : ℤ) (r : ℕ) → SFits w8 z → pos r ≡ to_z w8 (of_z w8 z) +ℤ pos 128 → z ≡ pos r -ℤ pos 128
delta_out_is z r f g = (raised z f).is ∙ ap (λ (w : ℤ). pos (nat_abs w) -ℤ pos 128) (sym (g ∙ ap (λ (w : ℤ). w +ℤ pos 128) (back w8 z f)))
