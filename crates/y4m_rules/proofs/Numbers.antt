-- A number that is printed is a number, and reads as itself; a ratio likewise.
--     Digits, Plain                        what a text's bytes are
--     number_value, number_form            a number printed
--     ratio-upper, ratio-lower, ratio-form two of them
--     before-all, before_at                bytes up to the first of two
-- Assumes nothing.
use mathlib.Core.Bool.{Bool, true, false, not, ◌||◌}
use mathlib.Core.List.{List, [], ◌∷◌, ◌++◌, append_assoc}
use mathlib.Core.Path.{◌≡◌, refl, sym, ap, ◌∙◌}
use Prim.Native.Nat.{ℕ, zero, suc, ◌+◌, ◌-◌, ◌*◌, ◌/◌, ◌%◌, ◌^◌, ◌≤◌, ◌<◌}
use native.Mathlib.Nat.{not-suc-le-zero, pow-suc}
use native.Mathlib.Omega.{arith}
use borrow.Author.Tests.{ltb-true, ltb-false, le-leb, ne_eqb}
use lib.Dec.{ltb, eqb}
use lib.ListN.{length, get_or, drop, length-append}
use lib.Seq.{drop_at}
use Rattle.laws.specs.Index.{pick}
use Rattle.laws.specs.Scan.{all_in}
use Rattle.laws.proofs.Bools.{or_true}
use Rattle.laws.proofs.ScanAll.{scan_pass}
use Rattle.sheet_lines.specs.Lines.{between, value_from}
use Rattle.sheet.specs.Text.{decimal_by}
use Rattle.y4m_rules.specs.Words.{before, colon_of}
use Rattle.y4m_rules.specs.Numbers.{number, ratio, is_number, is_term, is_ratio, after_colon, upper, lower}

-- ---- digits

value_snoc : (v : ℕ) (l : List ℕ) (b : ℕ) → value_from v (l ++ (b ∷ [])) ≡ 10 * value_from v l + (b - 48)
unfolding value_from
value_snoc v [] b = refl
value_snoc v (c ∷ l) b = value_snoc (10 * v + (c - 48)) l b

-- by whether a number has one digit
by_digits : (k n : ℕ) (P : List ℕ → Type 0) → (n < 10 → P ((48 + n) ∷ []))
    → (10 ≤ n → P (decimal_by k (n / 10) ++ ((48 + n % 10) ∷ []))) → P (decimal_by (suc k) n)
unfolding decimal_by
by_digits k n P f g = go (ltb n 10) refl where
  go : (t : Bool) → ltb n 10 ≡ t → P (pick t ((48 + n) ∷ []) (decimal_by k (n / 10) ++ ((48 + n % 10) ∷ [])))
  go true e = f (ltb-true n 10 e)
  go false e = g (ltb-false n 10 e)

tenth : (k n : ℕ) → n < 10 ^ suc k → n / 10 < 10 ^ k
tenth k n l = let e : 10 ^ suc k ≡ 10 ^ k * 10 = pow-suc 10 k in omega arith

value_back : (k n : ℕ) → n < 10 ^ k → value_from 0 (decimal_by k n) ≡ n
unfolding value_from decimal_by
value_back zero n l = omega arith
value_back (suc k) n l =
    by_digits k n (λ (d : List ℕ). value_from 0 d ≡ n) (λ p. omega arith)
    (λ p. value_snoc 0 (decimal_by k (n / 10)) (48 + n % 10) ∙ (let e = value_back k (n / 10) (tenth k n l) in omega arith))

decimal_some : (k n : ℕ) → 1 ≤ length (decimal_by (suc k) n)
decimal_some k n =
    by_digits k n (λ (d : List ℕ). 1 ≤ length d) (λ p. omega arith) (λ p. simp length-append (omega arith))

decimal_short : (k n : ℕ) → length (decimal_by k n) ≤ k
unfolding decimal_by
decimal_short zero n = omega arith
decimal_short (suc k) n =
    by_digits k n (λ (d : List ℕ). length d ≤ suc k) (λ p. omega arith)
    (λ p. let e = decimal_short k (n / 10) in simp length-append (omega arith))

-- each byte is a digit
abbrev pub Digits : List ℕ → Type 0
Digits l = (i : ℕ) → i < length l → (48 ≤ get_or l i 0) × (get_or l i 0 ≤ 57)

snoc_digits : (l : List ℕ) (b : ℕ) → Digits l → 48 ≤ b → b ≤ 57 → Digits (l ++ (b ∷ []))
snoc_digits [] b d p q zero h = (p, q)
snoc_digits [] b d p q (suc i) h = absurd (omega arith)
snoc_digits (c ∷ l) b d p q zero h = d 0 (omega arith)
snoc_digits (c ∷ l) b d p q (suc i) h = snoc_digits l b (λ j m. d (suc j) (omega arith)) p q i (omega arith)

decimal_digits : (k n : ℕ) → Digits (decimal_by k n)
unfolding decimal_by
decimal_digits zero n = λ i h. absurd (not-suc-le-zero h)
decimal_digits (suc k) n =
    by_digits k n Digits
    (λ p. snoc_digits [] (48 + n) (λ i h. absurd (not-suc-le-zero h)) (omega arith) (omega arith))
    (λ p. snoc_digits (decimal_by k (n / 10)) (48 + n % 10) (decimal_digits k (n / 10)) (omega arith) (omega arith))

-- no leading zero
head_snoc : (l : List ℕ) (b : ℕ) → 1 ≤ length l → get_or (l ++ (b ∷ [])) 0 0 ≡ get_or l 0 0
head_snoc [] b h = absurd (not-suc-le-zero h)
head_snoc (c ∷ l) b h = refl

some_digit : (k m : ℕ) → 1 ≤ m → m < 10 ^ k → 1 ≤ length (decimal_by k m)
some_digit zero m p l = absurd (omega arith)
some_digit (suc k) m p l = decimal_some k m

decimal_head : (k n : ℕ) → 1 ≤ n → n < 10 ^ k → 49 ≤ get_or (decimal_by k n) 0 0
decimal_head zero n p l = absurd (omega arith)
decimal_head (suc k) n p l =
    by_digits k n (λ (d : List ℕ). 49 ≤ get_or d 0 0) (λ q. omega arith)
    (λ q. let t = tenth k n l in
    rw (head_snoc (decimal_by k (n / 10)) (48 + n % 10) (some_digit k (n / 10) (omega arith) t)) (decimal_head k (n / 10) (omega arith) t))

all_digits : (l : List ℕ) → Digits l → all_in 0 (between 48 57) l ≡ true
all_digits l d =
    scan_pass (λ (i : ℕ). between 48 57 (get_or l i 0)) (length l)
    (λ i h. rw (le-leb 48 (get_or l i 0) (d i h).0, le-leb (get_or l i 0) 57 (d i h).1))

-- ---- a number

pub number_digits : (n : ℕ) → Digits (number n)
number_digits n = decimal_digits 5 n

pub number_short : (n : ℕ) → length (number n) ≤ 5
number_short n = decimal_short 5 n

pub number_value : (n : ℕ) → n < 100000 → value_from 0 (number n) ≡ n
number_value n l = value_back 5 n l

pub number_form : (n : ℕ) → n < 100000 → is_number (number n) ≡ true
unfolding is_number
number_form n l =
    rw (le-leb 1 (length (number n)) (decimal_some 4 n), le-leb (length (number n)) 5 (number_short n), all_digits (number n) (number_digits n), lead (ltb n 10) refl) where
      lead : (t : Bool) → ltb n 10 ≡ t → (eqb (length (number n)) 1 || not (eqb (get_or (number n) 0 0) 48)) ≡ true
      lead true e =
          let p = ltb-true n 10 e in
          rw (by_digits 4 n (λ (d : List ℕ). eqb (length d) 1 ≡ true) (λ q. refl) (λ q. absurd (omega arith)))
      lead false e =
          let p = ltb-false n 10 e in
          let h = decimal_head 5 n (omega arith) l in
          ap (λ (t : Bool). eqb (length (number n)) 1 || not t) (ne_eqb (get_or (number n) 0 0) 48 (λ q. omega arith)) ∙ or_true (eqb (length (number n)) 1)

-- ---- bytes before the first of two

module _ (p q : ℕ) where
  -- none of a text's bytes is one of the two
  abbrev pub Free : List ℕ → Type 0
  Free l = (i : ℕ) → i < length l → (get_or l i 0 ≡ p → ⊥) × (get_or l i 0 ≡ q → ⊥)

  pub before_at : (t : List ℕ) (c : ℕ) (r : List ℕ) → Free t → (eqb c p || eqb c q) ≡ true → before p q (t ++ (c ∷ r)) ≡ t
  unfolding before
  before_at [] c r f e = rw e
  before_at (b ∷ t) c r f e =
      let n = f 0 (omega arith) in
      rw (ne_eqb b p n.0, ne_eqb b q n.1) (ap (λ (z : List ℕ). b ∷ z) (before_at t c r (λ i h. f (suc i) (omega arith)) e))

-- ---- two numbers with a colon between

digits_free : (l : List ℕ) → Digits l → Free 58 58 l
digits_free l d i h = let e = d i h in ((λ q. omega arith), (λ q. omega arith))

module _ (n m : ℕ) where
  colon_back : colon_of (ratio n m) ≡ number n
  colon_back = before_at 58 58 (number n) 58 (number m) (digits_free (number n) (number_digits n)) refl

  after_colon_lem : after_colon (ratio n m) ≡ number m
  after_colon_lem =
      ap (λ (z : List ℕ). drop (length z + 1) (ratio n m)) colon_back
      ∙ ap (drop (length (number n) + 1)) (sym (append_assoc (number n) (58 ∷ []) (number m)))
      ∙ drop_at (number n ++ (58 ∷ [])) (number m) (length (number n) + 1) (length-append (number n) (58 ∷ []))

  pub ratio_upper : n < 100000 → upper (ratio n m) ≡ n
  unfolding upper
  ratio_upper l = ap (value_from 0) colon_back ∙ number_value n l

  pub ratio_lower : m < 100000 → lower (ratio n m) ≡ m
  unfolding lower
  ratio_lower l = ap (value_from 0) after_colon_lem ∙ number_value m l

  colon_there : get_or (ratio n m) (length (number n)) 0 ≡ 58
  colon_there = at (number n) where
    at : (l : List ℕ) → get_or (l ++ (58 ∷ number m)) (length l) 0 ≡ 58
    at [] = refl
    at (c ∷ l) = at l

term : (n : ℕ) → 1 ≤ n → n ≤ 65535 → is_term (number n) ≡ true
unfolding is_term
term n p q =
    rw (number_form n (omega arith), number_value n (omega arith), le-leb 1 n p, le-leb n 65535 q)

pub ratio_form : (n m : ℕ) → 1 ≤ n → n ≤ 65535 → 1 ≤ m → m ≤ 65535 → is_ratio (ratio n m) ≡ true
unfolding is_ratio
ratio_form n m p q r s = rw (after_colon_lem n m, colon_back n m, colon_there n m, term n p q, term m r s)
