-- What each early answer and each last one of the header's functions comes to.
--     value_no, value_is, ratio_no, ratio_is    what an answer tells of its text
--     other_is     a text that is just some bytes
--     value_none, value_some, term_no, term_none, term_some, ratio_cut, ratio_upper_no, ratio_lower_no, ratio_both    numbers
--     once_no, once_yes, told_first, told_not     a word's value, where its letter may come once
-- Assumes nothing.
use Rattle.std.specs.Prelude.{Option, Some, None, is_some}
use mathlib.Core.Bool.{Bool, true, false, not, ◌&&◌, ◌||◌}
use mathlib.Core.List.{List, [], ◌∷◌}
use mathlib.Core.Path.{◌≡◌, refl, sym, ap, ap₂, ◌∙◌}
use Prim.Native.Nat.{ℕ, ◌+◌, ◌-◌, ◌≤◌, ◌<◌}
use native.Mathlib.Omega.{arith}
use borrow.Author.Tests.{ne_eqb}
use lib.Dec.{eqb}
use lib.Pointwise.{pointwise}
use lib.ListN.{length, take, drop, get_or, get_or-eq_default}
use Rattle.std.proofs.lemmas.Option.{same_Some}
use Rattle.laws.specs.Index.{pick}
use Rattle.laws.proofs.Bools.{and_false}
use Rattle.sheet_lines.specs.Lines.{same_line}
use Rattle.sheet_lines.specs.Fields.{number_by}
use Rattle.sheet_lines.proofs.Forms.{rest_of, same_is}
use Rattle.y4m_rules.specs.Words.{colon_of, progressive, format}
use Rattle.y4m_rules.specs.Numbers.{is_number, is_term, is_ratio, in_range, value_of, after_colon, upper, lower}
use Rattle.y4m_rules.specs.Header.{with_w, with_h, with_f, with_i, with_a, with_c, value_ok, said_with, word_ok, tell}
use Rattle.y4m_rules.specs.declared.Said.{Said}
use Rattle.y4m_rules.proofs.Reading.{before_take, before_found}
use Rattle.y4m_header.specs.Values.{value_by, ratio_by, told_by}

-- ---- what an answer tells

module _ (form : List ℕ → Bool) (l : List ℕ) (v : Option ℕ) (e : v ≡ value_by form l) where
  pub value_no : v ≡ None → form l ≡ false
  value_no q = go (form l) (sym e ∙ q) where
    go : (t : Bool) → pick t (Some (value_of l)) None ≡ None → t ≡ false
    go true z = cc
    go false z = refl

  pub value_is : (n : ℕ) → v ≡ Some n → (form l ≡ true) × (n ≡ value_of l)
  value_is n q = go (form l) (sym e ∙ q) where
    go : (t : Bool) → pick t (Some (value_of l)) None ≡ Some n → (t ≡ true) × (n ≡ value_of l)
    go true z = (refl, cc)
    go false z = absurd (let y : ◌≡◌ {A = ℕ} 0 1 = cc in omega arith)

module _ (l : List ℕ) (v : Option (ℕ × ℕ)) (e : v ≡ ratio_by l) where
  pub ratio_no : v ≡ None → is_ratio l ≡ false
  unfolding ratio_by
  ratio_no q = go (is_ratio l) (sym e ∙ q) where
    go : (t : Bool) → pick {A = Option (ℕ × ℕ)} t (Some (upper l, lower l)) None ≡ None → t ≡ false
    go true z = cc
    go false z = refl

  pub ratio_is : (n m : ℕ) → v ≡ Some (n, m) → (is_ratio l ≡ true) × (n ≡ upper l) × (m ≡ lower l)
  unfolding ratio_by
  ratio_is n m q = go (is_ratio l) (sym e ∙ q) where
    go : (t : Bool) → pick {A = Option (ℕ × ℕ)} t (Some (upper l, lower l)) None ≡ Some (n, m) → (t ≡ true) × (n ≡ upper l) × (m ≡ lower l)
    go true z = let y : (upper l, lower l) ≡ (n, m) = same_Some _ _ z in (refl, sym (ap (λ (x : ℕ × ℕ). x.0) y), sym (ap (λ (x : ℕ × ℕ). x.1) y))
    go false z = absurd (let y : ◌≡◌ {A = ℕ} 0 1 = cc in omega arith)

-- both numbers of a ratio
abbrev pub both : List ℕ → ℕ × ℕ
both l = (upper l, lower l)

pub ratio_both_is : (l : List ℕ) → ratio_by l ≡ pick (is_ratio l) (Some (both l)) None
unfolding ratio_by
ratio_both_is l = refl

-- ---- a text that is just some bytes

-- what the code's `!=` found
pub other_is : (key l k : List ℕ) (t : Bool) → k ≡ key → t ≡ not (pointwise eqb l k) → t ≡ not (same_line key l)
other_is key l k t e d = d ∙ ap not (same_is key l k (pointwise eqb l k) e refl)

-- ---- numbers

pub five_digits : (l : List ℕ) (v : Option ℕ) → v ≡ number_by 5 l → v ≡ value_by is_number l
unfolding is_number
five_digits l v e = e

module _ (l : List ℕ) where
  pub value_none : (form : List ℕ → Bool) → form l ≡ false → None ≡ value_by form l
  value_none form e = rw e

  pub value_some : (form : List ℕ → Bool) (n : ℕ) → form l ≡ true → n ≡ value_of l → Some n ≡ value_by form l
  value_some form n e q = rw e (ap Some q)

  module _ (v : Option ℕ) (e : v ≡ value_by is_number l) where
    pub term_no : v ≡ None → None ≡ value_by is_term l
    unfolding is_term
    term_no q = rw (value_no is_number l v e q)

    module _ (n : ℕ) (q : v ≡ Some n) where
      term_is : is_term l ≡ in_range n
      unfolding is_term
      term_is = let p = value_is is_number l v e n q in rw (p.0, sym p.1)

      pub term_some : in_range n ≡ true → Some n ≡ value_by is_term l
      term_some r = value_some is_term n (term_is ∙ r) (value_is is_number l v e n q).1

      pub term_none : in_range n ≡ false → None ≡ value_by is_term l
      term_none r = value_none is_term (term_is ∙ r)

-- ---- two numbers with a colon between; colon: how many bytes stand before it

either : (t : Bool) → (t || t) ≡ true → t ≡ true
either true e = refl
either false e = e

module _ (l : List ℕ) (colon : ℕ) (at : colon ≡ length (colon_of l)) where
  no_ratio : is_ratio l ≡ false → None ≡ ratio_by l
  unfolding ratio_by
  no_ratio e = rw e

  pub ratio_cut : length l ≤ colon → None ≡ ratio_by l
  unfolding is_ratio
  ratio_cut h =
      let z : get_or l (length (colon_of l)) 0 ≡ 0 = get_or-eq_default l 0 (omega arith) in
      no_ratio (rw z (and_false (is_term (colon_of l)) false refl))

  first : take colon l ≡ colon_of l
  first = ap (λ (n : ℕ). take n l) at ∙ before_take 58 58 l

  second : take (length l - (colon + 1)) (drop (colon + 1) l) ≡ after_colon l
  second = rest_of (colon + 1) l ∙ ap (λ (n : ℕ). drop (n + 1) l) at

  module _ (v : Option ℕ) (e : v ≡ value_by is_term (take colon l)) where
    pub ratio_upper_no : v ≡ None → None ≡ ratio_by l
    unfolding is_ratio
    ratio_upper_no q = no_ratio (rw (sym (ap is_term first) ∙ value_no is_term (take colon l) v e q))

    module _ (n : ℕ) (q : v ≡ Some n) (u : Option ℕ) (f : u ≡ value_by is_term (take (length l - (colon + 1)) (drop (colon + 1) l))) where
      pub ratio_lower_no : u ≡ None → None ≡ ratio_by l
      unfolding is_ratio
      ratio_lower_no r =
          let z : is_term (after_colon l) ≡ false = sym (ap is_term second) ∙ value_no is_term _ u f r in
          no_ratio (ap (λ (t : Bool). is_term (colon_of l) && (eqb (get_or l (length (colon_of l)) 0) 58 && t)) z
          ∙ ap (λ (t : Bool). is_term (colon_of l) && t) (and_false (eqb (get_or l (length (colon_of l)) 0) 58) false refl)
          ∙ and_false (is_term (colon_of l)) false refl)

      pub ratio_both : (m : ℕ) → u ≡ Some m → colon < length l → Some (n, m) ≡ ratio_by l
      unfolding ratio_by is_ratio upper lower
      ratio_both m r h =
          let a = value_is is_term (take colon l) v e n q in
          let b = value_is is_term (take (length l - (colon + 1)) (drop (colon + 1) l)) u f m r in
          let x : is_term (colon_of l) ≡ true = sym (ap is_term first) ∙ a.0 in
          let y : is_term (after_colon l) ≡ true = sym (ap is_term second) ∙ b.0 in
          let z : eqb (get_or l (length (colon_of l)) 0) 58 ≡ true = either _ (before_found 58 58 l (omega arith)) in
          rw (x, y, z) (ap₂ (λ (x y : ℕ). Some (x, y)) (a.1 ∙ ap value_of first) (b.1 ∙ ap value_of second))

-- ---- a word's value, where its letter may come once

-- o: what has come before; x: what the value is, where it has the form; p: what has been said with it
module _ {T : Type 0} (o : Option T) (form : Bool) (x : T) (p : T → Said) where
  pub once_no : pick (is_some o) None (pick form (Some x) None) ≡ None → None ≡ told_by (not (is_some o) && form) (p x)
  once_no e = go (is_some o) form e where
    go : (t f : Bool) → pick t None (pick f (Some x) None) ≡ None → None ≡ told_by (not t && f) (p x)
    go true f z = refl
    go false true z = cc
    go false false z = refl

  pub once_yes : (n : T) → pick (is_some o) None (pick form (Some x) None) ≡ Some n → Some (p n) ≡ told_by (not (is_some o) && form) (p x)
  once_yes n e = go (is_some o) form e where
    go : (t f : Bool) → pick t None (pick f (Some x) None) ≡ Some n → Some (p n) ≡ told_by (not t && f) (p x)
    go true f z = cc
    go false true z = ap (λ (y : T). Some (p y)) (sym (same_Some _ _ z))
    go false false z = cc

-- both tests at once; t: whether the value is another
module _ (seen form : Bool) (p : Said) (t : Bool) (e : t ≡ not form) where
  pub told_first : (seen || t) ≡ false → Some p ≡ told_by (not seen && form) p
  told_first q = go seen form t e q where
    go : (s f k : Bool) → k ≡ not f → (s || k) ≡ false → Some p ≡ told_by (not s && f) p
    go true f k d z = cc
    go false true k d z = refl
    go false false k d z = cc

  pub told_not : (seen || t) ≡ true → None ≡ told_by (not seen && form) p
  told_not q = go seen form t e q where
    go : (s f k : Bool) → k ≡ not f → (s || k) ≡ true → None ≡ told_by (not s && f) p
    go true f k d z = refl
    go false true k d z = cc
    go false false k d z = refl

-- ---- a word, by its letter

module _ (letter : ℕ) (v : List ℕ) (p : Said) where
  pub letter_x : letter ≡ 88 → Some p ≡ told_by (value_ok letter v p) (said_with letter v p)
  unfolding value_ok said_with
  letter_x e = rw e

  module _ (t : Option Said) where
    pub letter_w : letter ≡ 87 → t ≡ told_by (not (is_some p.w) && is_number v) (with_w (value_of v) p) → t ≡ told_by (value_ok letter v p) (said_with letter v p)
    unfolding value_ok said_with
    letter_w e q = rw e q

    pub letter_h : letter ≡ 72 → t ≡ told_by (not (is_some p.h) && is_number v) (with_h (value_of v) p) → t ≡ told_by (value_ok letter v p) (said_with letter v p)
    unfolding value_ok said_with
    letter_h e q = rw e q

    pub letter_f : letter ≡ 70 → t ≡ told_by (not (is_some p.f) && is_ratio v) (with_f (upper v) (lower v) p) → t ≡ told_by (value_ok letter v p) (said_with letter v p)
    unfolding value_ok said_with
    letter_f e q = rw e q

    pub letter_i : letter ≡ 73 → t ≡ told_by (not p.i && same_line progressive v) (with_i p) → t ≡ told_by (value_ok letter v p) (said_with letter v p)
    unfolding value_ok said_with
    letter_i e q = rw e q

    pub letter_a : letter ≡ 65 → t ≡ told_by (not (is_some p.a) && is_ratio v) (with_a (upper v) (lower v) p) → t ≡ told_by (value_ok letter v p) (said_with letter v p)
    unfolding value_ok said_with
    letter_a e q = rw e q

    pub letter_c : letter ≡ 67 → t ≡ told_by (not p.c && same_line format v) (with_c p) → t ≡ told_by (value_ok letter v p) (said_with letter v p)
    unfolding value_ok said_with
    letter_c e q = rw e q

  pub letter_none : (letter ≡ 88 → ⊥) → (letter ≡ 87 → ⊥) → (letter ≡ 72 → ⊥) → (letter ≡ 70 → ⊥) → (letter ≡ 73 → ⊥) → (letter ≡ 65 → ⊥) → (letter ≡ 67 → ⊥)
      → None ≡ told_by (value_ok letter v p) (said_with letter v p)
  unfolding value_ok
  letter_none x w h f i a c =
      rw (ne_eqb letter 88 x, ne_eqb letter 87 w, ne_eqb letter 72 h, ne_eqb letter 70 f, ne_eqb letter 73 i, ne_eqb letter 65 a, ne_eqb letter 67 c)

-- a word that has a letter, or none
module _ (l : List ℕ) (p : Said) where
  pub word_none : length l ≡ 0 → None ≡ told_by (word_ok l p) (tell l p)
  word_none e = go l e where
    go : (k : List ℕ) → length k ≡ 0 → None ≡ told_by (word_ok k p) (tell k p)
    go [] z = refl
    go (b ∷ k) z = absurd (omega arith)

  pub word_some : (t : Option Said) → (length l ≡ 0 → ⊥) → t ≡ told_by (value_ok (get_or l 0 0) (take (length l - 1) (drop 1 l)) p)
      (said_with (get_or l 0 0) (take (length l - 1) (drop 1 l)) p) → t ≡ told_by (word_ok l p) (tell l p)
  word_some t e q = go l e (q ∙ ap (λ (v : List ℕ). told_by (value_ok (get_or l 0 0) v p) (said_with (get_or l 0 0) v p)) (rest_of 1 l)) where
    go : (k : List ℕ) → (length k ≡ 0 → ⊥) → t ≡ told_by (value_ok (get_or k 0 0) (drop 1 k) p) (said_with (get_or k 0 0) (drop 1 k) p) → t ≡ told_by (word_ok k p) (tell k p)
    go [] z r = absurd (z refl)
    go (b ∷ k) z r = r
