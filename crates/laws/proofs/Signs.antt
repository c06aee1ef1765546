-- Whole numbers by sign and magnitude: what each operation is on `sg s m`, which is -m where s holds and m where not.
-- Assumes nothing.
use mathlib.Core.Path.{◌≡◌, refl, sym, ap, ◌∙◌}
use mathlib.Core.Bool.{Bool, true, false, cond, not}
use Prim.Native.Nat.{ℕ, zero, suc, ◌+◌, ◌-◌, ◌*◌, ◌/◌, ◌≤◌, ◌<◌, min}
use native.Mathlib.Nat.{zero-div}
use native.Mathlib.Omega.{arith}
use lib.Dec.{T, ltb, ltb→lt, nltb→le}
use lib.IntN.{ℤ, pos, negsuc, neg_ℤ, neg_ℤ-neg_ℤ, nat_abs, sub_ℕ, ◌+ℤ◌, ◌-ℤ◌, ◌*ℤ◌}
use lib.Signed.{quot_z}
use Rattle.laws.specs.Clip.{max_z, min_z, clip_z, with_sign, held_to, sample_z}
use Rattle.laws.specs.Sign.{sg, gap_n}

-- a test's two cases
pub by_lt : (P : Bool → Type 0) (a b : ℕ) → (a < b → P true) → (b ≤ a → P false) → P (ltb a b)
by_lt P a b y n = go (ltb a b) (ltb→lt a b) (nltb→le a b)
  where
    go : (t : Bool) → (T t → a < b) → (T (not t) → b ≤ a) → P t
    go true f g = y (f tt)
    go false f g = n (g tt)

-- equal magnitudes
pos= : {a b : ℕ} → a ≡ b → pos a ≡ pos b
pos= e = ap pos e

neg= : (a b : ℕ) → a ≡ b → neg_ℤ (pos a) ≡ neg_ℤ (pos b)
neg= a b e = ap (λ (k : ℕ). neg_ℤ (pos k)) e

-- x - y, by sign and magnitude
sub_sg : (p n : ℕ) → sub_ℕ p n ≡ sg (ltb p n) (gap_n p n)
sub_sg p n =
    by_lt (λ t. cond t (negsuc (n - suc p)) (pos (p - n)) ≡ sg t (gap_n p n)) p n
    (λ h. neg= (suc (n - suc p)) (gap_n p n) (omega arith))
    (λ h. pos= (omega arith))

pub pos_sub : (x y : ℕ) → pos x -ℤ pos y ≡ sg (ltb x y) (gap_n x y)
pos_sub x zero = by_lt (λ t. pos (x + zero) ≡ sg t (gap_n x zero)) x zero (λ h. absurd (omega arith)) (λ h. pos= (omega arith))
pos_sub x (suc y) = sub_sg x (suc y)

pub neg_sg : (s : Bool) (m : ℕ) → neg_ℤ (sg s m) ≡ sg (not s) m
neg_sg true m = neg_ℤ-neg_ℤ (pos m)
neg_sg false m = refl

pub quot_sg : (s : Bool) (m k : ℕ) → quot_z (sg s m) (pos (suc k)) ≡ sg s (m / suc k)
quot_sg true zero k = pos= (zero-div (suc k)) ∙ neg= 0 (0 / suc k) (sym (zero-div (suc k)))
quot_sg true (suc m) k = refl
quot_sg false m k = refl

pub abs_sg : (s : Bool) (m : ℕ) → nat_abs (sg s m) ≡ m
abs_sg true zero = refl
abs_sg true (suc m) = refl
abs_sg false m = refl

pub twice_sg : (s : Bool) (m : ℕ) → pos 2 *ℤ sg s m ≡ sg s (2 * m)
twice_sg true zero = refl
twice_sg true (suc m) = refl
twice_sg false m = refl

pub max_pos : (m : ℕ) → max_z (pos 0) (pos m) ≡ pos m
unfolding max_z
max_pos m = by_lt (λ t. cond t (pos m) (pos 0) ≡ pos m) 0 m (λ h. refl) (λ h. pos= (omega arith))

-- nothing below 0
pub max_sg : (s : Bool) (m : ℕ) → max_z (pos 0) (sg s m) ≡ pos (cond s 0 m)
unfolding max_z
max_sg true zero = refl
max_sg true (suc m) = refl
max_sg false m = max_pos m

pub max_sub : (x y : ℕ) → max_z (pos 0) (pos x -ℤ pos y) ≡ pos (x - y)
max_sub x y =
    ap (max_z (pos 0)) (pos_sub x y) ∙ max_sg (ltb x y) (gap_n x y)
    ∙ by_lt (λ t. pos (cond t 0 (gap_n x y)) ≡ pos (x - y)) x y (λ h. pos= (omega arith)) (λ h. pos= (omega arith))

pub max_twice : (x y : ℕ) → max_z (pos 0) (pos 2 *ℤ (pos x -ℤ pos y)) ≡ pos (2 * (x - y))
max_twice x y =
    ap (λ (z : ℤ). max_z (pos 0) (pos 2 *ℤ z)) (pos_sub x y) ∙ ap (max_z (pos 0)) (twice_sg (ltb x y) (gap_n x y)) ∙ max_sg (ltb x y) (2 * gap_n x y)
    ∙ by_lt (λ t. pos (cond t 0 (2 * gap_n x y)) ≡ pos (2 * (x - y))) x y (λ h. pos= (omega arith)) (λ h. pos= (omega arith))

pub with_sg : (s : Bool) (m c : ℕ) → c ≤ m → with_sign (sg s m) (pos c) ≡ sg s c
unfolding with_sign
with_sg true zero zero h = refl
with_sg true zero (suc c) h = absurd (omega arith)
with_sg true (suc m) c h = refl
with_sg false m c h = by_lt (λ t. cond t (neg_ℤ (pos c)) (pos c) ≡ pos c) m 0 (λ h. absurd (omega arith)) (λ h. refl)

min_pos : (e m : ℕ) → min_z (pos e) (pos m) ≡ pos (min m e)
unfolding min_z
min_pos e m = by_lt (λ t. cond t (pos e) (pos m) ≡ pos (min m e)) e m (λ h. pos= (omega arith)) (λ h. pos= (omega arith))

min_neg : (e m : ℕ) → min_z (pos e) (neg_ℤ (pos m)) ≡ neg_ℤ (pos m)
unfolding min_z
min_neg e zero = by_lt (λ t. cond t (pos e) (pos 0) ≡ pos 0) e 0 (λ h. absurd (omega arith)) (λ h. refl)
min_neg e (suc m) = refl

max_low : (e k : ℕ) → max_z (neg_ℤ (pos e)) (pos k) ≡ pos k
unfolding max_z
max_low zero k = max_pos k
max_low (suc e) k = refl

max_neg : (e m : ℕ) → max_z (neg_ℤ (pos e)) (neg_ℤ (pos m)) ≡ neg_ℤ (pos (min m e))
unfolding max_z
max_neg zero zero = refl
max_neg zero (suc m) = neg= 0 (min (suc m) 0) (omega arith)
max_neg (suc e) zero = neg= 0 (min 0 (suc e)) (omega arith)
max_neg (suc e) (suc m) =
    by_lt (λ t. cond t (negsuc m) (negsuc e) ≡ neg_ℤ (pos (min (suc m) (suc e)))) m e
    (λ h. neg= (suc m) (min (suc m) (suc e)) (omega arith))
    (λ h. neg= (suc e) (min (suc m) (suc e)) (omega arith))

pub clip_sg : (s : Bool) (m e : ℕ) → clip_z (neg_ℤ (pos e)) (pos e) (sg s m) ≡ sg s (min m e)
unfolding clip_z
clip_sg true m e = ap (max_z (neg_ℤ (pos e))) (min_neg e m) ∙ max_neg e m
clip_sg false m e = ap (max_z (neg_ℤ (pos e))) (min_pos e m) ∙ max_low e (min m e)

-- a sample moved by m, and clipped
abbrev pub moved_n : Bool → ℕ → ℕ → ℕ
moved_n s x m = min (cond s (x - m) (x + m)) 1023

sample_of : (s : Bool) (m : ℕ) → sample_z (sg s m) ≡ cond s 0 (min m 1023)
unfolding sample_z held_to clip_z
sample_of true m = ap (λ (z : ℤ). nat_abs (max_z (pos 0) z)) (min_neg 1023 m) ∙ ap nat_abs (max_sg true m)
sample_of false m = ap (λ (z : ℤ). nat_abs (max_z (pos 0) z)) (min_pos 1023 m) ∙ ap nat_abs (max_pos (min m 1023))

pub sample_sg : (s : Bool) (x m : ℕ) → sample_z (pos x +ℤ sg s m) ≡ moved_n s x m
sample_sg true x m =
    ap sample_z (pos_sub x m) ∙ sample_of (ltb x m) (gap_n x m)
    ∙ by_lt (λ t. cond t 0 (min (gap_n x m) 1023) ≡ min (x - m) 1023) x m (λ h. omega arith) (λ h. omega arith)
sample_sg false x m = sample_of false (x + m)

-- a number held within 0..1023 is a sample
pub sample_le : (z : ℤ) → sample_z z ≤ 1023
sample_le (pos n) = omega (arith, sample_of false n)
sample_le (negsuc n) = omega (arith, sample_of true (suc n))
