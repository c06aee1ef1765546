-- Laws of reading: a line byte by byte, a key byte by byte, and a number digit by digit.
--     line_stop, line_on, line_end, line_short    the line that starts at a place
--     key_none, key_out, key_other, key_on        what is left of a key and of a line
--     Numbered, numbered, digit_at                what the tests of a number tell
--     value-none, value_on, value_all, value_more, value_small
-- Assumes nothing.
use mathlib.Core.Path.{◌≡◌, refl, sym, ap, ◌∙◌}
use mathlib.Core.Bool.{Bool, true, false, ◌&&◌}
use mathlib.Core.List.{List, [], ◌∷◌}
use Prim.Native.Nat.{ℕ, zero, suc, ◌+◌, ◌-◌, ◌*◌, ◌^◌, ◌≤◌, ◌<◌}
use native.Mathlib.Nat.{pow-succ', pow-le-pow_right}
use native.Mathlib.Numerals.{add-one}
use native.Mathlib.Omega.{arith}
use lib.Dec.{leb, eqb}
use lib.ListN.{length, drop, get_or, drop_of_length-le}
use lib.Seq.{drop-cons}
use borrow.Author.Tests.{eq-eqb, ne_eqb, leb-true}
use Rattle.laws.specs.Index.{pick}
use Rattle.std.specs.List.{list_all}
use Rattle.laws.specs.Scan.{all_below, all_in}
use Rattle.laws.proofs.Bools.{both_left, both_right}
use Rattle.laws.proofs.Calls.{all_at}
use Rattle.laws.proofs.Scans.{scan_none, scan_at}
use Rattle.sheet_lines.specs.Lines.{line_of, between, is_number, number_tests, value_from}

here : (s : List ℕ) (i : ℕ) → i < length s → drop i s ≡ get_or s i 0 ∷ drop (i + 1) s
here s i h = drop-cons s i 0 h ∙ ap (λ (k : ℕ). get_or s i 0 ∷ drop k s) (sym (add-one i))

-- ---- the first line

pub line_none : length (line_of []) ≡ 0
unfolding line_of
line_none = refl

pub line_hit : (b : ℕ) (s : List ℕ) → b ≡ 10 → length (line_of (b ∷ s)) ≡ 0
unfolding line_of
line_hit b s e = rw (eq-eqb b 10 e)

pub line_miss : (b : ℕ) (s : List ℕ) → (b ≡ 10 → ⊥) → length (line_of (b ∷ s)) ≡ length (line_of s) + 1
unfolding line_of
line_miss b s e = rw (ne_eqb b 10 e) (omega arith)

pub line_short : (s : List ℕ) → length (line_of s) ≤ length s
unfolding line_of
line_short [] = omega arith
line_short (b ∷ s) = go (eqb b 10) (line_short s) where
  go : (t : Bool) → length (line_of s) ≤ length s → length (pick t [] (b ∷ line_of s)) ≤ suc (length s)
  go true h = omega arith
  go false h = omega arith

-- ---- a test of each element

below_cons : (f : ℕ → Bool) (b : ℕ) (l : List ℕ) (n : ℕ) → all_below (λ (k : ℕ). f (get_or (b ∷ l) k 0)) (suc n) ≡ (f b && all_below (λ (k : ℕ). f (get_or l k 0)) n)
unfolding all_below
below_cons f b l zero = go (f b) where
  go : (t : Bool) → (true && t) ≡ (t && true)
  go true = refl
  go false = refl
below_cons f b l (suc n) = ap (λ (t : Bool). t && f (get_or l n 0)) (below_cons f b l n) ∙ go (f b) (all_below (λ (k : ℕ). f (get_or l k 0)) n) (f (get_or l n 0)) where
  go : (x y z : Bool) → ((x && y) && z) ≡ (x && (y && z))
  go true y z = refl
  go false y z = refl

pub list_all_in : (f : ℕ → Bool) (l : List ℕ) → list_all f l ≡ all_in 0 f l
list_all_in f [] = sym (scan_none (λ (k : ℕ). f (get_or [] k 0)))
list_all_in f (b ∷ l) = ap (λ (t : Bool). f b && t) (list_all_in f l) ∙ sym (below_cons f b l (length l))

-- ---- a number, digit by digit

pub record Between (low high b : ℕ) : Type 0 where
  pub least : low ≤ b
  pub most : b ≤ high

-- a byte of a text all of whose bytes lie between two
pub byte_at : (low high : ℕ) (l : List ℕ) (i : ℕ) → i < length l → all_in 0 (between low high) l ≡ true → Between low high (get_or l i 0)
byte_at low high l i h e =
    let b = get_or l i 0 in
    let t : between low high b ≡ true = scan_at (λ (k : ℕ). between low high (get_or l k 0)) (length l) i h e in
    record { least = leb-true low b (both_left (leb low b) (leb b high) t); most = leb-true b high (both_right (leb low b) (leb b high) t) }

pub number_short : (l : List ℕ) → is_number l ≡ true → length l ≤ 4
unfolding is_number
number_short l e = leb-true _ _ (all_at (number_tests l) 1 e)

pub digit_at_lem : (l : List ℕ) (i : ℕ) → i < length l → is_number l ≡ true → Between 48 57 (get_or l i 0)
unfolding is_number
digit_at_lem l i h e = byte_at 48 57 l i h (all_at (number_tests l) 3 e)

pub value_on : (l : List ℕ) (i v : ℕ) → i < length l → value_from v (drop i l) ≡ value_from (10 * v + (get_or l i 0 - 48)) (drop (i + 1) l)
unfolding value_from
value_on l i v h = rw (here l i h)

pub value_all : (l : List ℕ) (i v : ℕ) → length l ≤ i → value_from v (drop i l) ≡ v
unfolding value_from
value_all l i v h = rw (drop_of_length-le l h)

-- i digits come to less than 10 ^ i
pub value_more : (i v d : ℕ) → v < 10 ^ i → d ≤ 9 → 10 * v + d < 10 ^ (i + 1)
value_more i v d h p = let e : 10 ^ (i + 1) ≡ 10 * 10 ^ i = ap (λ (k : ℕ). 10 ^ k) (add-one i) ∙ pow-succ' 10 i in omega arith

pub value_small : (i v : ℕ) → i ≤ 4 → v < 10 ^ i → v < 10000
value_small i v h p = let e : 10 ^ i ≤ 10 ^ 4 = pow-le-pow_right (omega arith) h in omega arith
