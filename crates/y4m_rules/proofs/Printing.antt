-- Laws of printing: a number's digits, and how many.
--     number_one, number_more    by its last digit
--     number_four                of a number below 10,000
--     header_text_lem                the header in its pieces
-- Assumes nothing.
use mathlib.Core.List.{List, [], ◌∷◌, ◌++◌, append_assoc}
use mathlib.Core.Path.{◌≡◌, sym, ap, ◌∙◌}
use Prim.Native.Nat.{ℕ, zero, suc, ◌+◌, ◌/◌, ◌%◌, ◌^◌, ◌≤◌, ◌<◌}
use native.Mathlib.Nat.{pow-succ'}
use native.Mathlib.Decide.{dec_lt}
use native.Mathlib.Omega.{arith}
use borrow.Author.Tests.{lt-ltb, le-ltb}
use lib.ListN.{length}
use Rattle.sheet.proofs.Puts.{decimal_short}
use Rattle.sheet.specs.Text.{decimal_by}
use Rattle.y4m_rules.specs.Words.{format}
use Rattle.y4m_rules.specs.Numbers.{number, ratio}
use Rattle.y4m_rules.specs.Header.{sides_text, header_text}

one_digit : (k n : ℕ) → n < 10 → decimal_by (suc k) n ≡ (48 + n) ∷ []
unfolding decimal_by
one_digit k n h = rw (lt-ltb n 10 h)

digit_more : (k n : ℕ) → 10 ≤ n → decimal_by (suc k) n ≡ decimal_by k (n / 10) ++ ((48 + n % 10) ∷ [])
unfolding decimal_by
digit_more k n h = rw (le-ltb n 10 h)

-- more places than a number has digits do not change it
places_enough : (k n : ℕ) → n < 10 ^ suc k → decimal_by (suc (suc k)) n ≡ decimal_by (suc k) n
places_enough zero n h = one_digit 1 n h ∙ sym (one_digit 0 n h)
places_enough (suc k) n h = go (dec_lt n 10) (places_enough k (n / 10) (omega (arith, pow-succ' 10 (suc k)))) where
  go : Dec (n < 10) → decimal_by (suc (suc k)) (n / 10) ≡ decimal_by (suc k) (n / 10) → decimal_by (suc (suc (suc k))) n ≡ decimal_by (suc (suc k)) n
  go (yes p) i = one_digit (suc (suc k)) n p ∙ sym (one_digit (suc k) n p)
  go (no p) i =
      digit_more (suc (suc k)) n (omega arith) ∙ ap (λ (l : List ℕ). l ++ ((48 + n % 10) ∷ [])) i ∙ sym (digit_more (suc k) n (omega arith))

pub number_one : (n : ℕ) → n < 10 → (48 + n) ∷ [] ≡ number n
number_one n h = sym (one_digit 4 n h)

pub number_more : (n : ℕ) → n < 100000 → 10 ≤ n → number (n / 10) ++ ((48 + n % 10) ∷ []) ≡ number n
number_more n h p = ap (λ (l : List ℕ). l ++ ((48 + n % 10) ∷ [])) (places_enough 3 (n / 10) (omega arith)) ∙ sym (digit_more 4 n p)

pub number_four : (n : ℕ) → n < 10000 → length (number n) ≤ 4
number_four n h = decimal_short 5 3 n h

-- the header in the pieces that are put
pub header_text_lem : (w h f g a b : ℕ)
    → sides_text w h ++ ((32 ∷ 70 ∷ []) ++ (ratio f g ++ ((32 ∷ 73 ∷ 112 ∷ 32 ∷ 65 ∷ []) ++ (ratio a b ++ (32 ∷ 67 ∷ (format ++ (10 ∷ [])))))))
    ≡ header_text w h f g a b
unfolding header_text
header_text_lem w h f g a b = simp append_assoc
