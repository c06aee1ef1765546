-- Laws of reading: bytes up to the first of two.
--     here    a text from a place on, by its first byte
--     before_none, before_hit, before_miss, before_short, before_take, before_found, before_fits    bytes up to the first of two
-- Assumes nothing.
use mathlib.Core.Bool.{Bool, true, false, ◌||◌}
use mathlib.Core.List.{List, [], ◌∷◌}
use mathlib.Core.Path.{◌≡◌, refl, sym, ap, ◌∙◌}
use Prim.Native.Nat.{ℕ, suc, ◌+◌, ◌≤◌, ◌<◌}
use native.Mathlib.Numerals.{add-one}
use native.Mathlib.Omega.{arith}
use lib.Dec.{eqb}
use lib.ListN.{length, take, drop, get_or, length-drop}
use lib.Seq.{drop-cons}
use Rattle.laws.specs.Index.{pick}
use Rattle.y4m_rules.specs.Words.{before}

-- ---- bytes up to the first of two

pub here : (s : List ℕ) (i : ℕ) → i < length s → drop i s ≡ get_or s i 0 ∷ drop (i + 1) s
here s i h = drop-cons s i 0 h ∙ ap (λ (k : ℕ). get_or s i 0 ∷ drop k s) (sym (add-one i))

module _ (p q : ℕ) where
  pub before_none : length (before p q []) ≡ 0
  unfolding before
  before_none = refl

  pub before_hit : (b : ℕ) (s : List ℕ) → (eqb b p || eqb b q) ≡ true → length (before p q (b ∷ s)) ≡ 0
  unfolding before
  before_hit b s e = rw e

  pub before_miss : (b : ℕ) (s : List ℕ) → (eqb b p || eqb b q) ≡ false → length (before p q (b ∷ s)) ≡ length (before p q s) + 1
  unfolding before
  before_miss b s e = rw e (omega arith)

  pub before_short : (s : List ℕ) → length (before p q s) ≤ length s
  unfolding before
  before_short [] = omega arith
  before_short (b ∷ s) = go (eqb b p || eqb b q) (before_short s) where
    go : (t : Bool) → length (before p q s) ≤ length s → length (pick t [] (b ∷ before p q s)) ≤ suc (length s)
    go true h = omega arith
    go false h = omega arith

  pub before_take : (s : List ℕ) → take (length (before p q s)) s ≡ before p q s
  unfolding before
  before_take [] = refl
  before_take (b ∷ s) = go (eqb b p || eqb b q) (before_take s) where
    go : (t : Bool) → take (length (before p q s)) s ≡ before p q s → take (length (pick t [] (b ∷ before p q s))) (b ∷ s) ≡ pick t [] (b ∷ before p q s)
    go true h = refl
    go false h = ap (λ (l : List ℕ). b ∷ l) h

  -- what the bytes stop at
  pub before_found : (s : List ℕ) → length (before p q s) < length s → (eqb (get_or s (length (before p q s)) 0) p || eqb (get_or s (length (before p q s)) 0) q) ≡ true
  unfolding before
  before_found [] h = absurd (omega arith)
  before_found (b ∷ s) h = go (eqb b p || eqb b q) refl h (λ k. before_found s k) where
    go : (t : Bool) → (eqb b p || eqb b q) ≡ t → length (pick t [] (b ∷ before p q s)) < suc (length s)
        → (length (before p q s) < length s → (eqb (get_or s (length (before p q s)) 0) p || eqb (get_or s (length (before p q s)) 0) q) ≡ true)
        → (eqb (get_or (b ∷ s) (length (pick t [] (b ∷ before p q s))) 0) p || eqb (get_or (b ∷ s) (length (pick t [] (b ∷ before p q s))) 0) q) ≡ true
    go true e k f = e
    go false e k f = f (omega arith)

  -- within the text, from a place on
  pub before_fits : (s : List ℕ) (at : ℕ) → at ≤ length s → at + length (before p q (drop at s)) ≤ length s
  before_fits s at h = omega (arith, before_short (drop at s), length-drop at s)
