-- The header that is written is read as what was written.
--     header_back    with any bytes after it
--     header_short   it has at most 256 bytes
-- Assumes nothing.
use Rattle.std.specs.Prelude.{Some, is_some}
use mathlib.Core.Bool.{true, ◌||◌}
use mathlib.Core.List.{List, [], ◌∷◌, ◌++◌, append_assoc}
use mathlib.Core.Path.{◌≡◌, refl, sym, ap, ◌∙◌}
use Prim.Native.Nat.{ℕ, zero, suc, ◌+◌, ◌-◌, ◌≤◌, ◌<◌}
use native.Mathlib.Nat.{not-suc-le-zero}
use native.Mathlib.Omega.{arith}
use lib.Dec.{eqb}
use lib.ListN.{length, take, drop, length-append}
use lib.Seq.{drop_at, take-append-add}
use Rattle.laws.specs.Call.{unless}
use Rattle.sheet_lines.specs.Lines.{same_line, starts_with}
use Rattle.y4m_rules.specs.Words.{magic, progressive, format, before, word_of}
use Rattle.y4m_rules.specs.Numbers.{number, ratio, value_of, upper, lower}
use Rattle.y4m_rules.specs.Header.{param, header_text, nothing, with_w, with_h, with_f, with_i, with_a, with_c, value_ok, said_with, word_ok, tell, malformed, said}
use Rattle.y4m_rules.specs.Header.{ending, words, head_of, header_in}
use Rattle.y4m_rules.specs.declared.Said.{Said}
use Rattle.y4m_rules.proofs.Numbers.{Free, number_digits, number_short, number_value, number_form, ratio_upper, ratio_lower, ratio_form, before_at}

-- ---- texts without spaces and newlines

abbrev Plain : List ℕ → Type 0
Plain l = Free 32 10 l

cons_plain : (b : ℕ) (l : List ℕ) → 33 ≤ b → Plain l → Plain (b ∷ l)
cons_plain b l p h zero m = ((λ e. omega arith), (λ e. omega arith))
cons_plain b l p h (suc i) m = h i (omega arith)

none_plain : Plain []
none_plain i h = absurd (not-suc-le-zero h)

join_plain : (l k : List ℕ) → Plain l → Plain k → Plain (l ++ k)
join_plain [] k p q i m = q i m
join_plain (b ∷ l) k p q zero m = p 0 (omega arith)
join_plain (b ∷ l) k p q (suc i) m = join_plain l k (λ j n. p (suc j) (omega arith)) q i (omega arith)

number_plain : (n : ℕ) → Plain (number n)
number_plain n i h = let e = number_digits n i h in ((λ q. omega arith), (λ q. omega arith))

ratio_plain : (n m : ℕ) → Plain (ratio n m)
ratio_plain n m = join_plain (number n) (58 ∷ number m) (number_plain n) (cons_plain 58 (number m) (omega arith) (number_plain m))

format_plain : Plain format
format_plain =
    cons_plain 52 (50 ∷ 48 ∷ 112 ∷ 49 ∷ 48 ∷ []) (omega arith) (cons_plain 50 (48 ∷ 112 ∷ 49 ∷ 48 ∷ []) (omega arith)
    (cons_plain 48 (112 ∷ 49 ∷ 48 ∷ []) (omega arith) (cons_plain 112 (49 ∷ 48 ∷ []) (omega arith)
    (cons_plain 49 (48 ∷ []) (omega arith) (cons_plain 48 [] (omega arith) none_plain)))))

-- ---- one word of a header, and what follows it

module _ (n at : ℕ) (letter : ℕ) (v : List ℕ) (c : ℕ) (r : List ℕ) (p : Said) (big : 33 ≤ letter) (plain : Plain v) (ends : (eqb c 32 || eqb c 10) ≡ true) where
  word_back : word_of (letter ∷ (v ++ (c ∷ r))) ≡ letter ∷ v
  word_back = before_at 32 10 (letter ∷ v) c r (cons_plain letter v big plain) ends

  rest_back : drop (length (letter ∷ v)) (letter ∷ (v ++ (c ∷ r))) ≡ c ∷ r
  rest_back = drop_at (letter ∷ v) (c ∷ r) (length (letter ∷ v)) refl

  word_step : value_ok letter v p ≡ true → words (suc n) at (param letter v (c ∷ r)) p ≡ words n (at + 1 + length (letter ∷ v)) (c ∷ r) (said_with letter v p)
  unfolding words
  word_step g =
      ap (λ (z : List ℕ). unless (word_ok z p) (malformed (at + 1)) (words n (at + 1 + length z) (drop (length z) (letter ∷ (v ++ (c ∷ r)))) (tell z p))) word_back
      ∙ rw (g, rest_back)

-- the newline, where W, H and C have come
at_end : (n at : ℕ) (r : List ℕ) (p : Said) → is_some p.w ≡ true → is_some p.h ≡ true → p.c ≡ true → words (suc n) at (10 ∷ r) p ≡ said p (at + 1)
unfolding words ending
at_end n at r p e f g = rw (e, f, g)

-- ---- the whole header

-- what it says
abbrev pub written : (w h f g a b : ℕ) → Said
written w h f g a b = record { w = Some w; h = Some h; f = Some (f, g); a = Some (a, b); i = true; c = true }

-- what a header may be written of
pub record Numbers (w h f g a b : ℕ) : Type 0 where
  pub w_small : w < 100000
  pub h_small : h < 100000
  pub f_some : 1 ≤ f
  pub f_most : f ≤ 65535
  pub g_some : 1 ≤ g
  pub g_most : g ≤ 65535
  pub a_some : 1 ≤ a
  pub a_most : a ≤ 65535
  pub b_some : 1 ≤ b
  pub b_most : b ≤ 65535

pub header_short : (w h f g a b : ℕ) → length (header_text w h f g a b) ≤ 64
unfolding header_text
header_short w h f g a b =
    let c = number_short w in
    let d = number_short h in
    let e = number_short f in
    let i = number_short g in
    let j = number_short a in
    let k = number_short b in
    simp length-append (omega arith)

module _ (w h f g a b : ℕ) (ok : Numbers w h f g a b) (rest : List ℕ) where
  -- the words from each letter on
  abbrev from_c : List ℕ
  from_c = param 67 format (10 ∷ rest)

  abbrev from_a : List ℕ
  from_a = param 65 (ratio a b) from_c

  abbrev from_i : List ℕ
  from_i = param 73 progressive from_a

  abbrev from_f : List ℕ
  from_f = param 70 (ratio f g) from_i

  abbrev from_h : List ℕ
  from_h = param 72 (number h) from_f

  abbrev from_w : List ℕ
  from_w = param 87 (number w) from_h

  -- the header with what follows it
  abbrev whole : List ℕ
  whole = magic ++ from_w

  joined : header_text w h f g a b ++ rest ≡ whole
  unfolding header_text
  joined = simp append_assoc

  abbrev end : ℕ
  end =
      9 + 1 + suc (length (number w)) + 1 + suc (length (number h)) + 1 + suc (length (ratio f g)) + 1 + 2 + 1 + suc (length (ratio a b)) + 1 + 7 + 1

  end_is : end ≡ length (header_text w h f g a b)
  unfolding header_text
  end_is = simp length-append (omega arith)

  words_back_lem : (n : ℕ) → words (suc (suc (suc (suc (suc (suc (suc n))))))) 9 from_w nothing
      ≡ said (with_c (with_a (upper (ratio a b)) (lower (ratio a b)) (with_i (with_f (upper (ratio f g)) (lower (ratio f g)) (with_h (value_of (number h)) (with_w (value_of (number w)) nothing)))))) end
  unfolding value_ok said_with same_line starts_with
  words_back_lem n =
      word_step _ 9 87 (number w) 32 _ _ (omega arith) (number_plain w) refl (number_form w ok.w_small)
      ∙ word_step _ _ 72 (number h) 32 _ _ (omega arith) (number_plain h) refl (number_form h ok.h_small)
      ∙ word_step _ _ 70 (ratio f g) 32 _ _ (omega arith) (ratio_plain f g) refl (ratio_form f g ok.f_some ok.f_most ok.g_some ok.g_most)
      ∙ word_step _ _ 73 progressive 32 _ _ (omega arith) (cons_plain 112 [] (omega arith) none_plain) refl refl
      ∙ word_step _ _ 65 (ratio a b) 32 _ _ (omega arith) (ratio_plain a b) refl (ratio_form a b ok.a_some ok.a_most ok.b_some ok.b_most)
      ∙ word_step _ _ 67 format 10 rest _ (omega arith) format_plain refl refl
      ∙ at_end n _ rest _ refl refl refl

  said_back : with_c (with_a (upper (ratio a b)) (lower (ratio a b))
      (with_i (with_f (upper (ratio f g)) (lower (ratio f g)) (with_h (value_of (number h)) (with_w (value_of (number w)) nothing))))) ≡ written w h f g a b
  said_back =
      let ew = number_value w ok.w_small in
      let eh = number_value h ok.h_small in
      let ef = ratio_upper f g (omega (arith, ok.f_most)) in
      let eg = ratio_lower f g (omega (arith, ok.g_most)) in
      let ea = ratio_upper a b (omega (arith, ok.a_most)) in
      let eb = ratio_lower a b (omega (arith, ok.b_most)) in
      rw (ew, eh, ef, eg, ea, eb)

  opened : unless (same_line magic (word_of whole)) (malformed 0) (words 256 9 (drop 9 whole) nothing) ≡ said (written w h f g a b) (length (header_text w h f g a b))
  unfolding before same_line starts_with
  opened = words_back_lem 249 ∙ rw (said_back, end_is)

-- a header that is written, with any bytes after it
pub header_back : (w h f g a b : ℕ) → Numbers w h f g a b → (rest : List ℕ)
    → header_in (header_text w h f g a b ++ rest) ≡ said (written w h f g a b) (length (header_text w h f g a b))
unfolding header_in
header_back w h f g a b ok rest =
    let t = header_text w h f g a b in
    let k : length t + (256 - length t) ≡ 256 = omega (arith, header_short w h f g a b) in
    let e : head_of (t ++ rest) ≡ t ++ take (256 - length t) rest = ap (λ (n : ℕ). take n (t ++ rest)) (sym k) ∙ take-append-add t rest (256 - length t) in
    ap (λ (z : List ℕ). unless (same_line magic (word_of z)) (malformed 0) (words 256 9 (drop 9 z) nothing)) (e ∙ joined w h f g a b ok (take (256 - length t) rest))
    ∙ opened w h f g a b ok (take (256 - length t) rest)
