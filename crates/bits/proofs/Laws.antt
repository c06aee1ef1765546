-- Laws of a slice's bits: what is put at a place is read there and nowhere else; n bits that are put are read back.
-- Assumes nothing.
use mathlib.Core.Bool.{Bool, true, false}
use mathlib.Core.Path.{◌≡◌, refl, sym, ap, ap₂, ◌∙◌, subst}
use mathlib.Core.List.{List}
use Prim.Native.Nat.{ℕ, zero, suc, ◌+◌, ◌-◌, ◌*◌, ◌/◌, ◌%◌, ◌^◌, ◌≤◌, ◌<◌}
use native.Mathlib.Nat.{add-zero, add-suc, add_assoc, zero-div, mod-lt, mul-le-mul_right, add-mul, mul_assoc, not-suc-le-zero}
use native.Mathlib.Numerals.{add-one}
use native.Mathlib.Omega.{arith}
use borrow.Author.Tests.{eqb-true, eqb-false, ltb-true, ltb-false}
use lib.Dec.{eqb, ltb}
use lib.ListN.{length, get_or, set, drop, length-set, length-drop, get_or-eq_default}
use lib.Pow.{pow_pos, pow-add, shl_exact, shr_lt, shr-shr}
use lib.Pow as pow
use lib.Seq.{get_or-set_same, get_or-set_other, set_out, get_or-drop}
use Rattle.laws.specs.Bits.{field_of, with_field}
use Rattle.laws.proofs.Bits.{field_same, field_above, field_below}
use Rattle.laws.specs.Index.{tabulate}
use Rattle.laws.proofs.Tabulate.{length_tabulate, get_d_tabulate, is_tabulate}
use Rattle.bits.specs.Bits.{bit_at, with_bit, bits_from, with_bits}

-- ---- the code of `with_bit`: x is a byte, k a bit's log, b the bit

module _ (x k b : ℕ) (h : k < 8) (bl : b < 2) where
  abbrev P : ℕ
  P = 2 ^ k

  -- the bit that stands there, and what is above it
  abbrev old : ℕ
  old = x / P % 2

  abbrev rest : ℕ
  rest = x / P / 2

  old_exact : (old * P) % 2 ^ 8 ≡ old * P
  old_exact = shl_exact {a = old} 1 k 8 (omega arith) (omega arith)

  new_exact : (b * P) % 2 ^ 8 ≡ b * P
  new_exact = shl_exact {a = b} 1 k 8 bl (omega arith)

  halves : x / P ≡ rest * 2 + old
  halves = omega arith

  parts : x ≡ rest * 2 * P + old * P + x % P
  parts = sym (pow.split x k) ∙ ap (λ (n : ℕ). n * P + x % P) halves ∙ ap (λ (n : ℕ). n + x % P) (add-mul (rest * 2) old P)

  pub bit_fits : (old * P) % 2 ^ 8 ≤ x
  bit_fits = omega (arith, old_exact, parts)

  pub bit_put : x - (old * P) % 2 ^ 8 + (b * P) % 2 ^ 8 ≡ with_field k 1 b x
  unfolding with_field
  bit_put =
      let e = old_exact in
      let f = new_exact in
      let p = parts in
      let q : x / 2 ^ (k + 1) ≡ rest = sym (shr-shr x k 1) in
      let d : (rest * 2 + b) * P ≡ rest * 2 * P + b * P = add-mul (rest * 2) b P in
      let g : x - (old * P) % 2 ^ 8 + (b * P) % 2 ^ 8 ≡ rest * 2 * P + b * P + x % P = omega arith in
      g ∙ ap (λ (n : ℕ). n + x % P) (sym d) ∙ ap (λ (n : ℕ). (n * 2 + b) * P + x % P) (sym q)

  -- what is above the bit ends before 2 ^ 8
  pub put_fits : x < 2 ^ 8 → x - (old * P) % 2 ^ 8 + (b * P) % 2 ^ 8 < 2 ^ 8
  put_fits xl =
      let e = old_exact in
      let f = new_exact in
      let p = parts in
      let m = mod-lt x (pow_pos k) in
      let sum : 7 - k + (1 + k) ≡ 8 = omega arith in
      let q : x / 2 ^ (1 + k) < 2 ^ (7 - k) = shr_lt (7 - k) (1 + k) (subst (λ (n : ℕ). x < 2 ^ n) (sym sum) xl) in
      let r : x / 2 ^ (1 + k) ≡ rest = ap (λ (n : ℕ). x / 2 ^ n) (omega arith) ∙ sym (shr-shr x k 1) in
      let u : 1 + rest ≤ 2 ^ (7 - k) = omega arith in
      let t : (1 + rest) * 2 ^ (1 + k) ≤ 2 ^ (7 - k) * 2 ^ (1 + k) = mul-le-mul_right (2 ^ (1 + k)) u in
      let w : 2 ^ (7 - k) * 2 ^ (1 + k) ≡ 2 ^ 8 = sym (pow-add 2 (7 - k) (1 + k)) ∙ ap (λ (n : ℕ). 2 ^ n) sum in
      let y : (1 + rest) * 2 ^ (1 + k) ≡ (1 + rest) * 2 * P = ap (λ (n : ℕ). (1 + rest) * n) (pow-add 2 1 k) ∙ sym (mul_assoc (1 + rest) 2 P) in
      let y' : (1 + rest) * 2 * P ≡ 2 * P + rest * 2 * P = ap (λ (n : ℕ). n * P) (add-mul 1 rest 2) ∙ add-mul 2 (rest * 2) P in
      let z : b * P ≤ 1 * P = mul-le-mul_right P (omega arith) in
      omega arith

-- ---- a bit at a place of a slice

module _ (s : List ℕ) (p b : ℕ) (l : p / 8 < length s) (bl : b < 2) where
  pub bit_same : bit_at (with_bit s p b) p ≡ b
  unfolding bit_at with_bit
  bit_same = ap (field_of (7 - p % 8) 1) (get_or-set_same s (p / 8) _ 0 l) ∙ field_same (7 - p % 8) 1 b (get_or s (p / 8) 0) bl

  in_byte : (q : ℕ) (below : Bool) → ltb (p % 8) (q % 8) ≡ below → (p % 8 ≡ q % 8 → ⊥)
      → field_of (7 - q % 8) 1 (with_field (7 - p % 8) 1 b (get_or s (p / 8) 0)) ≡ field_of (7 - q % 8) 1 (get_or s (p / 8) 0)
  in_byte q true e n = let f = ltb-true (p % 8) (q % 8) e in field_below (7 - p % 8) 1 b _ (7 - q % 8) 1 (omega arith)
  in_byte q false e n =
      let f = ltb-false (p % 8) (q % 8) e in
      let g : q % 8 < p % 8 = strictly (p % 8) (q % 8) (eqb (p % 8) (q % 8)) refl f n in
      field_above (7 - p % 8) 1 b _ (7 - q % 8) 1 bl (omega arith) where
        strictly : (i j : ℕ) (same : Bool) → eqb i j ≡ same → j ≤ i → (i ≡ j → ⊥) → j < i
        strictly i j true e le n = absurd (n (eqb-true i j e))
        strictly i j false e le n = let f = eqb-false i j e in omega arith

  pub bit_other : (q : ℕ) → (p ≡ q → ⊥) → bit_at (with_bit s p b) q ≡ bit_at s q
  unfolding bit_at with_bit
  bit_other q n = by (eqb (q / 8) (p / 8)) refl where
    by : (same : Bool) → eqb (q / 8) (p / 8) ≡ same
        → field_of (7 - q % 8) 1 (get_or (set s (p / 8) (with_field (7 - p % 8) 1 b (get_or s (p / 8) 0))) (q / 8) 0) ≡ field_of (7 - q % 8) 1 (get_or s (q / 8) 0)
    by true e =
        let f = eqb-true (q / 8) (p / 8) e in
        let m : p % 8 ≡ q % 8 → ⊥ = λ g. n (omega arith) in
        rw f (ap (field_of (7 - q % 8) 1) (get_or-set_same s (p / 8) _ 0 l) ∙ in_byte q (ltb (p % 8) (q % 8)) refl m)
    by false e = ap (field_of (7 - q % 8) 1) (get_or-set_other s (p / 8) (q / 8) _ 0 (eqb-false (q / 8) (p / 8) e))

pub length_bit : (s : List ℕ) (p b : ℕ) → length (with_bit s p b) ≡ length s
unfolding with_bit
length_bit s p b = length-set s (p / 8) _

-- ---- n bits, one after the other

below : (i n : ℕ) → (i ≡ n → ⊥) → i < suc n → i < n
below i n d h = omega arith

module _ (s : List ℕ) (p : ℕ) (f : ℕ → ℕ) where
  pub length_bits : (n : ℕ) → length (with_bits s p f n) ≡ length s
  unfolding with_bits
  length_bits zero = refl
  length_bits (suc n) = length_bit (with_bits s p f n) (p + n) (f n) ∙ length_bits n

  -- the next place has a byte
  room : (n : ℕ) → p + suc n ≤ 8 * length s → (p + n) / 8 < length (with_bits s p f n)
  room n l = omega (arith, length_bits n)

  module _ (b : (i : ℕ) → f i < 2) where
    -- what lies before the first and past the last is as it was
    pub bits_other : (n : ℕ) → p + n ≤ 8 * length s → (q : ℕ) → ((i : ℕ) → i < n → p + i ≡ q → ⊥) → bit_at (with_bits s p f n) q ≡ bit_at s q
    unfolding with_bits
    bits_other zero l q h = refl
    bits_other (suc n) l q h =
        bit_other (with_bits s p f n) (p + n) (f n) (room n l) (b n) q (h n (omega arith))
        ∙ bits_other n (omega arith) q (λ i m. h i (omega arith))

    pub bits_same : (n : ℕ) → p + n ≤ 8 * length s → (i : ℕ) → i < n → bit_at (with_bits s p f n) (p + i) ≡ f i
    unfolding with_bits
    bits_same zero l i h = absurd (not-suc-le-zero h)
    bits_same (suc n) l i h = by (eqb i n) refl (λ m. bits_same n (omega arith) i m) where
      by : (last : Bool) → eqb i n ≡ last → (i < n → bit_at (with_bits s p f n) (p + i) ≡ f i) → bit_at (with_bit (with_bits s p f n) (p + n) (f n)) (p + i) ≡ f i
      by true e g = rw (eqb-true i n e) (bit_same (with_bits s p f n) (p + n) (f n) (room n l) (b n))
      by false e g =
          let d = eqb-false i n e in
          bit_other (with_bits s p f n) (p + n) (f n) (room n l) (b n) (p + i) (λ q. d (omega arith)) ∙ g (below i n d h)

    -- the round trip
    pub bits_back : (n : ℕ) → p + n ≤ 8 * length s → bits_from (with_bits s p f n) p n ≡ tabulate n f
    bits_back n l = is_tabulate f n (bits_from (with_bits s p f n) p n) 0 (length_tabulate _ n) (λ i h. get_d_tabulate _ n i 0 h ∙ bits_same n l i h)

-- ---- past the end

pub bit_past : (s : List ℕ) (p : ℕ) → length s ≤ p / 8 → 0 ≡ bit_at s p
unfolding bit_at field_of
bit_past s p h = rw (get_or-eq_default s 0 h) (none (7 - p % 8)) where
  none : (k : ℕ) → 0 ≡ 0 / 2 ^ k % 2
  none k = rw (zero-div (2 ^ k))

pub put_past : (s : List ℕ) (p b : ℕ) → length s ≤ p / 8 → s ≡ with_bit s p b
unfolding with_bit
put_past s p b h = sym (set_out s (p / 8) _ h)

-- a bit is 0 or 1
pub bit_small : (s : List ℕ) (p : ℕ) → bit_at s p < 2
unfolding bit_at field_of
bit_small s p = omega arith

-- ---- some bits and then others

pub with_none : (s : List ℕ) (p : ℕ) (f : ℕ → ℕ) → with_bits s p f 0 ≡ s
unfolding with_bits
with_none s p f = refl

pub with_more : (s : List ℕ) (p : ℕ) (f : ℕ → ℕ) (n : ℕ) → with_bit (with_bits s p f n) (p + n) (f n) ≡ with_bits s p f (n + 1)
unfolding with_bits
with_more s p f n = rw add-one

pub with_same : (s : List ℕ) (p : ℕ) (f g : ℕ → ℕ) (n : ℕ) → ((i : ℕ) → i < n → f i ≡ g i) → with_bits s p f n ≡ with_bits s p g n
unfolding with_bits
with_same s p f g zero e = refl
with_same s p f g (suc n) e = ap₂ (λ (z : List ℕ) (b : ℕ). with_bit z (p + n) b) (with_same s p f g n (λ i l. e i (omega arith))) (e n (omega arith))

pub with_join : (s : List ℕ) (p : ℕ) (f : ℕ → ℕ) (n m : ℕ) → with_bits (with_bits s p f n) (p + n) (λ (i : ℕ). f (n + i)) m ≡ with_bits s p f (n + m)
unfolding with_bits
with_join s p f n zero = rw add-zero
with_join s p f n (suc m) =
    rw add-suc (ap₂ (λ (z : List ℕ) (q : ℕ). with_bit z q (f (n + m))) (with_join s p f n m) (add_assoc p n m))

-- the bits that are left
pub drop_bits : (s : List ℕ) (p n u : ℕ) → drop u (bits_from s p n) ≡ bits_from s (p + u) (n - u)
drop_bits s p n u =
    is_tabulate (λ (i : ℕ). bit_at s (p + u + i)) (n - u) (drop u (bits_from s p n)) 0
    (length-drop u (bits_from s p n) ∙ ap (λ (k : ℕ). k - u) (length_tabulate (λ (i : ℕ). bit_at s (p + i)) n))
    (λ k l. get_or-drop u (bits_from s p n) k 0 ∙ get_d_tabulate (λ (i : ℕ). bit_at s (p + i)) n (u + k) 0 (omega arith) ∙ ap (bit_at s) (sym (add_assoc p u k)))
