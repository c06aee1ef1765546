-- Laws of a number's bits by their places: what is put at a place is read there, and every field below or above is as it was.
-- Assumes nothing.
use mathlib.Core.Path.{◌≡◌, sym, ap, ◌∙◌}
use Prim.Native.Nat.{ℕ, ◌+◌, ◌-◌, ◌*◌, ◌/◌, ◌%◌, ◌^◌, ◌<◌, ◌≤◌}
use native.Mathlib.Nat.{mod-lt, mul-add-div_right, mul-add-mod_self_right, mod-eq_of_lt, div-eq_of_lt, lt_of_lt_of_le, zero-add, zero-mul, mul_assoc, add_comm}
use native.Mathlib.Omega.{arith}
use lib.Pow.{pow_pos, pow_mono, pow-add, high, low, shr-shr}
use lib.Pow as pow
use Rattle.laws.specs.Bits.{field_of, with_field}

pub field_same : (p n v x : ℕ) → v < 2 ^ n → field_of p n (with_field p n v x) ≡ v
unfolding field_of with_field
field_same p n v x h =
    ap (λ (k : ℕ). k % 2 ^ n) (high (x / 2 ^ (p + n) * 2 ^ n + v) p (mod-lt x (pow_pos p)))
    ∙ low (x / 2 ^ (p + n)) n h

-- the bits above what lies below place q are the same where the parts above are
above : (p t hi lo : ℕ) → lo < 2 ^ p → (hi * 2 ^ p + lo) / 2 ^ (p + t) ≡ hi / 2 ^ t
above p t hi lo h = sym (shr-shr (hi * 2 ^ p + lo) p t) ∙ ap (λ (k : ℕ). k / 2 ^ t) (high hi p h)

pub field_above : (p n v x q m : ℕ) → v < 2 ^ n → p + n ≤ q → field_of q m (with_field p n v x) ≡ field_of q m x
unfolding field_of with_field
field_above p n v x q m h le =
    let t = q - (p + n) in
    let e : q ≡ p + (n + t) = omega arith in
    let f : q ≡ p + n + t = omega arith in
    ap (λ (k : ℕ). k % 2 ^ m)
    (ap (λ (k : ℕ). ((x / 2 ^ (p + n) * 2 ^ n + v) * 2 ^ p + x % 2 ^ p) / 2 ^ k) e
    ∙ above p (n + t) (x / 2 ^ (p + n) * 2 ^ n + v) (x % 2 ^ p) (mod-lt x (pow_pos p))
    ∙ above n t (x / 2 ^ (p + n)) v h
    ∙ shr-shr x (p + n) t
    ∙ ap (λ (k : ℕ). x / 2 ^ k) (sym f))

-- a field below place p, of a number that is hi * 2 ^ p with what x has below p
below : (q m t hi x : ℕ) → (hi * 2 ^ (q + m + t) + x % 2 ^ (q + m + t)) / 2 ^ q % 2 ^ m ≡ x % 2 ^ (q + m + t) / 2 ^ q % 2 ^ m
below q m t hi x =
    ap (λ (k : ℕ). (hi * k + x % 2 ^ (q + m + t)) / 2 ^ q % 2 ^ m) (ap (λ (k : ℕ). 2 ^ k) split ∙ pow-add 2 (m + t) q)
    ∙ ap (λ (k : ℕ). (k + x % 2 ^ (q + m + t)) / 2 ^ q % 2 ^ m) (sym (mul_assoc hi (2 ^ (m + t)) (2 ^ q)))
    ∙ ap (λ (k : ℕ). k % 2 ^ m) (mul-add-div_right (pow_pos q) (hi * 2 ^ (m + t)) (x % 2 ^ (q + m + t)))
    ∙ ap (λ (k : ℕ). (hi * k + x % 2 ^ (q + m + t) / 2 ^ q) % 2 ^ m) (ap (λ (k : ℕ). 2 ^ k) (add_comm m t) ∙ pow-add 2 t m)
    ∙ ap (λ (k : ℕ). (k + x % 2 ^ (q + m + t) / 2 ^ q) % 2 ^ m) (sym (mul_assoc hi (2 ^ t) (2 ^ m)))
    ∙ mul-add-mod_self_right (hi * 2 ^ t) (2 ^ m) (x % 2 ^ (q + m + t) / 2 ^ q) where
      split : q + m + t ≡ m + t + q
      split = omega arith

pub field_below : (p n v x q m : ℕ) → q + m ≤ p → field_of q m (with_field p n v x) ≡ field_of q m x
unfolding field_of with_field
field_below p n v x q m le =
    let t = p - (q + m) in
    let e : p ≡ q + m + t = omega arith in
    ap (λ (k : ℕ). ((x / 2 ^ (p + n) * 2 ^ n + v) * 2 ^ k + x % 2 ^ k) / 2 ^ q % 2 ^ m) e
    ∙ below q m t (x / 2 ^ (p + n) * 2 ^ n + v) x
    ∙ sym (below q m t (x / 2 ^ (q + m + t)) x)
    ∙ ap (λ (k : ℕ). k / 2 ^ q % 2 ^ m) (back (q + m + t)) where
      back : (k : ℕ) → x / 2 ^ k * 2 ^ k + x % 2 ^ k ≡ x
      back k = pow.split x k

-- a field put above all that a number has
pub field_fresh : (p n v x : ℕ) → x < 2 ^ p → with_field p n v x ≡ v * 2 ^ p + x
unfolding with_field
field_fresh p n v x h =
    ap (λ (k : ℕ). (k * 2 ^ n + v) * 2 ^ p + x % 2 ^ p) (div-eq_of_lt (lt_of_lt_of_le h (pow_mono {i = p} {j = p + n} (omega arith))))
    ∙ ap (λ (k : ℕ). (k + v) * 2 ^ p + x % 2 ^ p) (zero-mul (2 ^ n))
    ∙ ap (λ (k : ℕ). k * 2 ^ p + x % 2 ^ p) (zero-add v)
    ∙ ap (λ (k : ℕ). v * 2 ^ p + k) (mod-eq_of_lt h)
