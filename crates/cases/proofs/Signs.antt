-- A number with its sign is within the reach that it is read at.
-- Assumes nothing.
use Prim.Native.Nat.{ℕ, zero, suc, ◌+◌, ◌%◌, ◌<◌, ◌≤◌}
use mathlib.Core.Bool.{Bool, true, false}
use native.Mathlib.Nat.{mod-lt}
use native.Mathlib.Omega.{arith}
use mathlib.Core.Path.{◌≡◌}
use lib.IntN.{ℤ, pos, neg_ℤ}
use mir.Syntax.{w32}
use mir.Val.{to_z, of_z}
use Rattle.laws.proofs.Widths.{sfits, back}
use lib.Signed.{mag}
use Rattle.laws.specs.Index.{pick}
use Rattle.laws.specs.Sign.{sg}
use Rattle.cases.specs.Numbers.{signed_of}
use Rattle.cases.specs.declared.Written.{Written}

-- the magnitude of -k as the widths count it, where -1 is 0 away from the end
pub mag_neg : (k : ℕ) → mag (neg_ℤ (pos k)) ≤ k
mag_neg zero = omega arith
mag_neg (suc k) = omega arith

mag_below : (k m : ℕ) → k < m + 1 → 1 ≤ m → mag (neg_ℤ (pos k)) < m
mag_below zero m h p = omega arith
mag_below (suc k) m h p = omega arith

pub signed_small : (m : ℕ) (n : Written) → 1 ≤ m → mag (signed_of m n) < m
unfolding signed_of
signed_small m n h = go n.negative where
  go : (b : Bool) → mag (pick b (sg true (n.size % (m + 1))) (sg false (n.size % m))) < m
  go true = mag_below (n.size % (m + 1)) m (mod-lt n.size (omega arith)) h
  go false = mod-lt n.size (omega arith)

-- it passes through an i32 as it is
pub signed_wide : (m : ℕ) (n : Written) (z : ℤ) → 1 ≤ m → m ≤ 32768 → z ≡ signed_of m n → to_z w32 (of_z w32 z) ≡ z
signed_wide m n z h k e = rw e (back w32 _ (sfits w32 32768 (omega (arith, signed_small m n h)) tt))
