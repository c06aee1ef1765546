-- Whole numbers as differences of two numbers without a sign: the code counts in numbers that are some constant too large, and the rules in whole numbers.
-- Each operation on differences is one on the four numbers, so that what is left is arithmetic without a sign.
--     diff_cases    a difference is not below 0, or it is
--     diff_same    equal where the sums crosswise are
--     diff_add, diff_sub, diff_mul, diff_quot, diff_le, diff_lt, diff_abs    each operation
-- Assumes nothing.
use mathlib.Core.Path.{◌≡◌, sym, ap, ◌∙◌}
use mathlib.Core.Bool.{cond}
use Prim.Native.Nat.{ℕ, zero, suc, ◌+◌, ◌-◌, ◌*◌, ◌/◌, ◌≤◌, min, max}
use native.Mathlib.Nat.{add-mul, zero-div, lt_of_not-le}
use native.Mathlib.Decide.{dec_le}
use native.Mathlib.Omega.{arith}
use lib.Dec.{leb, ltb}
use lib.IntN.{ℤ, pos, negsuc, neg_ℤ, neg_ℤ-neg_ℤ, neg_ℤ-+ℤ, nat_abs, ◌+ℤ◌, ◌-ℤ◌, ◌*ℤ◌, +ℤ_assoc, +ℤ_comm, +ℤ_idl}
use lib.Signed.{le_z, lt_z, quot_z}
use borrow.Author.Tests.{le-leb, lt-leb, lt-ltb, le-ltb}
use Rattle.laws.specs.Clip.{max_z, min_z, clip_z}
use Rattle.laws.specs.Sign.{gap_n}
use Rattle.laws.proofs.Signs.{by_lt}

pub diff_cases : (P : ℤ → Type 0) (a b : ℕ) → ((g : ℕ) → a ≡ b + g → P (pos g)) → ((g : ℕ) → b ≡ a + suc g → P (negsuc g)) → P (pos a -ℤ pos b)
diff_cases P a zero y n = y (a + zero) (omega arith)
diff_cases P a (suc b) y n =
    by_lt (λ t. P (cond t (negsuc (suc b - suc a)) (pos (a - suc b)))) a (suc b)
    (λ h. n (suc b - suc a) (omega arith)) (λ h. y (a - suc b) (omega arith))

pub diff_same : (a b c d : ℕ) → a + d ≡ c + b → pos a -ℤ pos b ≡ pos c -ℤ pos d
diff_same a b c d e =
    diff_cases (λ z. z ≡ pos c -ℤ pos d) a b
    (λ g p. diff_cases (λ z. pos g ≡ z) c d (λ h q. ap pos (omega arith)) (λ h q. absurd (omega arith)))
    (λ g p. diff_cases (λ z. negsuc g ≡ z) c d (λ h q. absurd (omega arith)) (λ h q. ap negsuc (omega arith)))

-- ---- sums

swap : (x y z w : ℤ) → (x +ℤ y) +ℤ (z +ℤ w) ≡ (x +ℤ z) +ℤ (y +ℤ w)
swap x y z w =
    +ℤ_assoc x y (z +ℤ w)
    ∙ ap (λ (k : ℤ). x +ℤ k) (sym (+ℤ_assoc y z w) ∙ ap (λ (k : ℤ). k +ℤ w) (+ℤ_comm y z) ∙ +ℤ_assoc z y w)
    ∙ sym (+ℤ_assoc x z (y +ℤ w))

pub diff_add : (a b c d : ℕ) → (pos a -ℤ pos b) +ℤ (pos c -ℤ pos d) ≡ pos (a + c) -ℤ pos (b + d)
diff_add a b c d =
    swap (pos a) (neg_ℤ (pos b)) (pos c) (neg_ℤ (pos d))
    ∙ ap (λ (k : ℤ). pos (a + c) +ℤ k) (sym (neg_ℤ-+ℤ (pos b) (pos d)))

pub diff_sub : (a b c d : ℕ) → (pos a -ℤ pos b) -ℤ (pos c -ℤ pos d) ≡ pos (a + d) -ℤ pos (b + c)
diff_sub a b c d =
    ap (λ (k : ℤ). (pos a -ℤ pos b) +ℤ k)
    (neg_ℤ-+ℤ (pos c) (neg_ℤ (pos d)) ∙ ap (λ (k : ℤ). neg_ℤ (pos c) +ℤ k) (neg_ℤ-neg_ℤ (pos d)) ∙ +ℤ_comm (neg_ℤ (pos c)) (pos d))
    ∙ diff_add a b d c

-- a number without a sign is a difference
pub diff_none : (n : ℕ) → pos n ≡ pos n -ℤ pos 0
diff_none n = ap pos (omega arith)

-- and so is its negation
pub diff_neg : (n : ℕ) → neg_ℤ (pos n) ≡ pos 0 -ℤ pos n
diff_neg n = sym (+ℤ_idl (neg_ℤ (pos n)))

-- ---- products and quotients

pub diff_mul : (a b m : ℕ) → (pos a -ℤ pos b) *ℤ pos m ≡ pos (a * m) -ℤ pos (b * m)
diff_mul a b m =
    diff_cases (λ z. z *ℤ pos m ≡ pos (a * m) -ℤ pos (b * m)) a b
    (λ g p.
    let e : a * m ≡ b * m + g * m = ap (λ (k : ℕ). k * m) p ∙ add-mul b g m in
    diff_none (g * m) ∙ diff_same (g * m) 0 (a * m) (b * m) (omega arith))
    (λ g p.
    let e : b * m ≡ a * m + suc g * m = ap (λ (k : ℕ). k * m) p ∙ add-mul a (suc g) m in
    diff_neg (suc g * m) ∙ diff_same 0 (suc g * m) (a * m) (b * m) (omega arith))

-- toward zero: what is above 0 and what is below are each rounded down, and one of the two is 0
pub diff_quot : (a b n : ℕ) → quot_z (pos a -ℤ pos b) (pos n) ≡ pos ((a - b) / n) -ℤ pos ((b - a) / n)
diff_quot a b n =
    diff_cases (λ z. quot_z z (pos n) ≡ pos ((a - b) / n) -ℤ pos ((b - a) / n)) a b
    (λ g p.
    let e : g ≡ a - b = omega arith in
    let o : b - a ≡ 0 = omega arith in
    rw (o, zero-div) (ap (λ (k : ℕ). pos (k / n)) e ∙ diff_none ((a - b) / n)))
    (λ g p.
    let e : suc g ≡ b - a = omega arith in
    let o : a - b ≡ 0 = omega arith in
    rw (o, zero-div) (ap (λ (k : ℕ). neg_ℤ (pos (k / n))) e ∙ diff_neg ((b - a) / n)))

-- ---- orders

-- two tests of which each tells the other
pub leb_alike : (x y u v : ℕ) → (x ≤ y → u ≤ v) → (u ≤ v → x ≤ y) → leb x y ≡ leb u v
leb_alike x y u v f g = go (dec_le x y) where
  go : Dec (x ≤ y) → leb x y ≡ leb u v
  go (yes p) = le-leb x y p ∙ sym (le-leb u v (f p))
  go (no p) = lt-leb x y (omega arith) ∙ sym (lt-leb u v (lt_of_not-le (λ q. p (g q))))

pub diff_le : (a b c d : ℕ) → le_z (pos a -ℤ pos b) (pos c -ℤ pos d) ≡ leb (a + d) (c + b)
diff_le a b c d =
    diff_cases (λ z. le_z z (pos c -ℤ pos d) ≡ leb (a + d) (c + b)) a b
    (λ g p.
    diff_cases (λ z. le_z (pos g) z ≡ leb (a + d) (c + b)) c d
    (λ h q. leb_alike g h (a + d) (c + b) (λ r. (omega arith)) (λ r. (omega arith)))
    (λ h q. sym (lt-leb (a + d) (c + b) (omega arith))))
    (λ g p.
    diff_cases (λ z. le_z (negsuc g) z ≡ leb (a + d) (c + b)) c d
    (λ h q. sym (le-leb (a + d) (c + b) (omega arith)))
    (λ h q. leb_alike h g (a + d) (c + b) (λ r. (omega arith)) (λ r. (omega arith))))

pub diff_lt : (a b c d : ℕ) → lt_z (pos a -ℤ pos b) (pos c -ℤ pos d) ≡ ltb (a + d) (c + b)
diff_lt a b c d =
    diff_cases (λ z. lt_z z (pos c -ℤ pos d) ≡ ltb (a + d) (c + b)) a b
    (λ g p.
    diff_cases (λ z. lt_z (pos g) z ≡ ltb (a + d) (c + b)) c d
    (λ h q. leb_alike (suc g) h (suc (a + d)) (c + b) (λ r. (omega arith)) (λ r. (omega arith)))
    (λ h q. sym (le-ltb (a + d) (c + b) (omega arith))))
    (λ g p.
    diff_cases (λ z. lt_z (negsuc g) z ≡ ltb (a + d) (c + b)) c d
    (λ h q. sym (lt-ltb (a + d) (c + b) (omega arith)))
    (λ h q. leb_alike (suc h) g (suc (a + d)) (c + b) (λ r. (omega arith)) (λ r. (omega arith))))

-- at one constant, the smaller, the larger, and a number held within bounds
pub diff_min : (k a b : ℕ) → min_z (pos a -ℤ pos k) (pos b -ℤ pos k) ≡ pos (min a b) -ℤ pos k
unfolding min_z
diff_min k a b =
    rw (diff_lt a k b k)
    (by_lt (λ t. cond t (pos a -ℤ pos k) (pos b -ℤ pos k) ≡ pos (min a b) -ℤ pos k) (a + k) (b + k)
    (λ h. diff_same a k (min a b) k (omega arith)) (λ h. diff_same b k (min a b) k (omega arith)))

pub diff_max : (k a b : ℕ) → max_z (pos a -ℤ pos k) (pos b -ℤ pos k) ≡ pos (max a b) -ℤ pos k
unfolding max_z
diff_max k a b =
    rw (diff_lt a k b k)
    (by_lt (λ t. cond t (pos b -ℤ pos k) (pos a -ℤ pos k) ≡ pos (max a b) -ℤ pos k) (a + k) (b + k)
    (λ h. diff_same b k (max a b) k (omega arith)) (λ h. diff_same a k (max a b) k (omega arith)))

pub diff_clip : (k l h x : ℕ) → clip_z (pos l -ℤ pos k) (pos h -ℤ pos k) (pos x -ℤ pos k) ≡ pos (max l (min h x)) -ℤ pos k
unfolding clip_z
diff_clip k l h x = ap (max_z (pos l -ℤ pos k)) (diff_min k h x) ∙ diff_max k l (min h x)

-- ---- every whole number is a difference

pub as_diff : (P : ℤ → Type 0) → ((a b : ℕ) → P (pos a -ℤ pos b)) → (z : ℤ) → P z
as_diff P f (pos n) = rw (diff_none n) (f n 0)
as_diff P f (negsuc n) = rw (diff_neg (suc n)) (f 0 (suc n))

pub diff_abs : (a b : ℕ) → nat_abs (pos a -ℤ pos b) ≡ gap_n a b
diff_abs a b = diff_cases (λ z. nat_abs z ≡ gap_n a b) a b (λ g p. omega arith) (λ g p. omega arith)
