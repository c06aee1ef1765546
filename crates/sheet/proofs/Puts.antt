-- Laws of writing: one text after another, byte by byte, and decimal numbers.
--     put_byte, starts_as, put_length
--     decimal_one, decimal_more, decimal_three, decimal_four    a number's digits, and how many
--     place_put, place_short, count_put, count_short, line_put, line_none, line_length, refused_put    lines
--     places_none, places_more, listing_put    the places of a list, and a whole listing
-- Assumes nothing.
use mathlib.Core.Path.{◌≡◌, refl, sym, ap, ◌∙◌, subst}
use mathlib.Core.Bool.{Bool, true, false}
use mathlib.Core.List.{List, [], ◌∷◌, ◌++◌}
use Prim.Native.Nat.{ℕ, zero, suc, ◌+◌, ◌*◌, ◌/◌, ◌%◌, ◌^◌, ◌≤◌, ◌<◌}
use native.Mathlib.Nat.{pow-succ'}
use native.Mathlib.Numerals.{add-one}
use native.Mathlib.Decide.{dec_lt}
use native.Mathlib.Omega.{arith}
use borrow.Author.Tests.{lt-ltb, le-ltb, eq-eqb, ne_eqb}
use lib.Dec.{ltb, eqb}
use lib.ListN.{length, get_or, set, length-append}
use lib.Seq.{length-sets}
use Rattle.laws.specs.Index.{pick}
use Rattle.def.specs.Refusals.{number_of}
use Rattle.def.specs.declared.Refusal.{Refusal}
use Rattle.edges.specs.Put.{Put}
use Rattle.edges.proofs.Puts.{put_none, put_then}
use Rattle.sheet.specs.Puts.{Starts, places_text, numbers_text}
use Rattle.sheet.specs.Text.{decimal_by, decimal, place_text, count_text, line_text, refused_text}
use Rattle.sheet.specs.Words.{refused_key, line_key, vertical_count, horizontal_count}

pub put_byte : (b : ℕ) (out : List ℕ) (at : ℕ) → Put (b ∷ []) out at (set out at b) (at + 1)
put_byte b out at = record { count = refl; put = refl }

pub starts_as : {s t out out' : List ℕ} {r : ℕ} → s ≡ t → Starts s out out' r → Starts t out out' r
starts_as {out = out} {out' = out'} {r = r} e p = subst (λ (u : List ℕ). Starts u out out' r) e p

-- the buffer keeps its length
pub put_length : {s out : List ℕ} {at : ℕ} {out' : List ℕ} {r : ℕ} → Put s out at out' r → length out' ≡ length out
put_length {s} {out} {at} p = ap length p.put ∙ length-sets out at s

-- ---- decimal numbers

one_digit : (k n : ℕ) → n < 10 → decimal_by (suc k) n ≡ (48 + n) ∷ []
unfolding decimal_by
one_digit k n h = rw (lt-ltb n 10 h)

digit_more : (k n : ℕ) → 10 ≤ n → decimal_by (suc k) n ≡ decimal_by k (n / 10) ++ ((48 + n % 10) ∷ [])
unfolding decimal_by
digit_more k n h = rw (le-ltb n 10 h)

-- how long a number below 10 ^ k is
pub decimal_short : (j k n : ℕ) → n < 10 ^ suc k → length (decimal_by j n) ≤ suc k
unfolding decimal_by
decimal_short zero k n h = omega arith
decimal_short (suc j) zero n h = rw (lt-ltb n 10 h) (omega arith)
decimal_short (suc j) (suc k) n h = go (ltb n 10) (decimal_short j k (n / 10) (omega (arith, pow-succ' 10 (suc k)))) where
  go : (t : Bool) → length (decimal_by j (n / 10)) ≤ suc k → length (pick t ((48 + n) ∷ []) (decimal_by j (n / 10) ++ ((48 + n % 10) ∷ []))) ≤ suc (suc k)
  go true i = omega arith
  go false i = omega (arith, length-append (decimal_by j (n / 10)) ((48 + n % 10) ∷ []))

-- more places than a number has digits do not change it
places_enough : (k n : ℕ) → n < 10 ^ suc k → decimal_by (suc (suc k)) n ≡ decimal_by (suc k) n
places_enough zero n h = one_digit 1 n h ∙ sym (one_digit 0 n h)
places_enough (suc k) n h = go (dec_lt n 10) (places_enough k (n / 10) (omega (arith, pow-succ' 10 (suc k)))) where
  go : Dec (n < 10) → decimal_by (suc (suc k)) (n / 10) ≡ decimal_by (suc k) (n / 10) → decimal_by (suc (suc (suc k))) n ≡ decimal_by (suc (suc k)) n
  go (yes p) i = one_digit (suc (suc k)) n p ∙ sym (one_digit (suc k) n p)
  go (no p) i = digit_more (suc (suc k)) n (omega arith) ∙ ap (λ (l : List ℕ). l ++ ((48 + n % 10) ∷ [])) i ∙ sym (digit_more (suc k) n (omega arith))

pub decimal_one : (n : ℕ) → n < 10 → (48 + n) ∷ [] ≡ decimal n
decimal_one n h = sym (one_digit 3 n h)

pub decimal_more : (n : ℕ) → n < 10000 → 10 ≤ n → decimal (n / 10) ++ ((48 + n % 10) ∷ []) ≡ decimal n
decimal_more n h p = ap (λ (l : List ℕ). l ++ ((48 + n % 10) ∷ [])) (places_enough 2 (n / 10) (omega arith)) ∙ sym (digit_more 3 n p)

pub decimal_three : (n : ℕ) → n < 1000 → length (decimal n) ≤ 3
decimal_three n h = decimal_short 4 2 n h

pub decimal_four : (n : ℕ) → n < 10000 → length (decimal n) ≤ 4
decimal_four n h = decimal_short 4 3 n h

-- ---- lines

put_two : (a b : ℕ) (out : List ℕ) (at : ℕ) → Put (a ∷ b ∷ []) out at (set (set out at a) (at + 1) b) (at + 2)
put_two a b out at =
    let e : at + 1 + 1 ≡ at + 2 = omega arith in
    subst (Put (a ∷ b ∷ []) out at (set (set out at a) (at + 1) b)) e (put_then (put_byte a out at) (put_byte b (set out at a) (at + 1)))

module _ (letter x y : ℕ) (out : List ℕ) (at : ℕ) {out₁ out₂ : List ℕ} {m n : ℕ}
    (p : Put (decimal x) (set (set out at letter) (at + 1) 32) (at + 2) out₁ m) (q : Put (decimal y) (set out₁ m 32) (m + 1) out₂ n) where
  pub place_put : Put (place_text letter x y) out at (set out₂ n 10) (n + 1)
  unfolding place_text
  place_put = put_then (put_two letter 32 out at) (put_then p (put_then (put_byte 32 out₁ m) (put_then q (put_byte 10 out₂ n))))

  pub place_short : x < 1000 → y < 1000 → n + 1 ≤ at + 10
  place_short f g = omega (arith, p.count, q.count, decimal_three x f, decimal_three y g)

module _ {key : List ℕ} (n : ℕ) {out out₁ out₂ : List ℕ} {at m r : ℕ} (p : Put key out at out₁ m) (q : Put (decimal n) out₁ m out₂ r) where
  pub count_put : Put (count_text key n) out at (set out₂ r 10) (r + 1)
  unfolding count_text
  count_put = put_then p (put_then q (put_byte 10 out₂ r))

  pub count_short : n < 10000 → length key ≡ 8 → r + 1 ≤ at + 13
  count_short f e = omega (arith, p.count, q.count, decimal_four n f)

module _ (number line : ℕ) where
  pub line_put : {out out₁ out₂ : List ℕ} {at m r : ℕ} → number ≡ 12 → Put line_key out at out₁ m → Put (decimal line) out₁ m out₂ r → Put (line_text number line) out at out₂ r
  unfolding line_text
  line_put e p q = rw (eq-eqb number 12 e) (put_then p q)

  pub line_none : (out : List ℕ) (at : ℕ) → (number ≡ 12 → ⊥) → Put (line_text number line) out at out at
  unfolding line_text
  line_none out at e = rw (ne_eqb number 12 e) (put_none out at)

  pub line_length : line < 10000 → length (line_text number line) ≤ 10
  unfolding line_text
  line_length h = go (eqb number 12) where
    go : (t : Bool) → length (pick t (line_key ++ decimal line) []) ≤ 10
    go true = omega (arith, decimal_four line h)
    go false = omega arith

pub refused_put : (r : Refusal) (line : ℕ) {number : ℕ} {out out₁ out₂ out₃ : List ℕ} {at m n k : ℕ} → number ≡ number_of r
    → Put refused_key out at out₁ m → Put (decimal number) out₁ m out₂ n → Put (line_text number line) out₂ n out₃ k → Put (refused_text r line) out at (set out₃ k 10) (k + 1)
unfolding refused_text
refused_put r line {number} {out₃ = out₃} {k = k} e p q l = rw (sym e) (put_then p (put_then q (put_then l (put_byte 10 out₃ k))))

-- ---- the places of a list

pub places_none : (letter : ℕ) (l out : List ℕ) (at : ℕ) → Put (places_text letter l 0) out at out at
unfolding places_text
places_none letter l out at = put_none out at

pub places_more : (letter : ℕ) (l : List ℕ) {out out₁ out₂ : List ℕ} {at m r : ℕ} (n x y : ℕ) → x ≡ get_or l (2 * n) 0 → y ≡ get_or l (2 * n + 1) 0
    → Put (places_text letter l n) out at out₁ m → Put (place_text letter x y) out₁ m out₂ r → Put (places_text letter l (n + 1)) out at out₂ r
unfolding places_text
places_more letter l n x y e f p q = rw (add-one n) (put_then p (rw (e, f) at q))

-- ---- a whole listing

pub listing_put : (v : List ℕ) (m : ℕ) (h : List ℕ) (n : ℕ) {out out₁ out₂ out₃ out₄ : List ℕ} {at a b c r : ℕ} → Put (places_text 118 v m) out at out₁ a → Put (places_text 104 h n) out₁ a out₂ b
    → Put (count_text vertical_count m) out₂ b out₃ c → Put (count_text horizontal_count n) out₃ c out₄ r → Put (numbers_text v m h n) out at out₄ r
unfolding numbers_text
listing_put v m h n p q s t = put_then p (put_then q (put_then s t))
