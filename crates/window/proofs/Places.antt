-- Where lines lie.
--     last_small    the sums of `last` do not wrap
--     last_by    the last sample, by numbers that are the place's
--     rows_at, halves_at    what the tests of the two ways say; rows_lie, halves-lie    by numbers that are the place's
--     by_rows, by_halves_lem, by_neither    a call by what these tests answer; kept_in, kept_out    one that makes neither
--     apart_rows, apart_halves, apart_neither    what a call over two edges answers by them; lines-taken, lines_left    what it leaves
-- Assumes nothing.
use Prim.Native.Nat.{ℕ, ◌+◌, ◌-◌, ◌*◌, ◌≤◌, ◌<◌}
use mathlib.Core.Bool.{Bool, true, false, ◌&&◌}
use mathlib.Core.List.{List}
use mathlib.Core.Path.{◌≡◌, refl, sym, ap, ◌∙◌}
use native.Mathlib.Nat.{mul-one, mul-le-mul}
use native.Mathlib.Omega.{arith}
use borrow.Author.Tests.{eqb-true, leb-true, ltb-true, lt-ltb, le-ltb}
use lib.Dec.{eqb, leb}
use Rattle.laws.proofs.Bools.{both_left, both_right, or_true}
use Rattle.line.specs.declared.Mask.{Mask}
use Rattle.window.specs.declared.Place.{Place}
use Rattle.window.specs.Lines.{lines_of}
use Rattle.window.specs.Window.{last_of, inside, by_rows, by_halves, lies, lies_apart, window_of}

pub last_small : (n next : ℕ) → n ≤ 8 → next ≤ 4294967295 → (n - 1) * next ≤ 30064771065
last_small n next h l = mul-le-mul {n₁ = n - 1} {m₁ = next} {n₂ = 7} {m₂ = 4294967295} (omega arith) l

pub last_by : (p : Place) (n step next at : ℕ) → step ≡ p.step → next ≡ p.next → at ≡ p.at → at + (n - 1) * next + 3 * step ≡ last_of p n
last_by p n step next at s e a = λ i. a i + (n - 1) * e i + 3 * s i

module _ (p : Place) (n long : ℕ) where
  pub record Beside : Type 0 where
    pub beside : p.next ≡ 1
    pub room : n ≤ p.step
    pub within : p.at + n + 3 * p.step ≤ long

  pub rows_at : 1 ≤ n → by_rows p n long ≡ true → Beside
  unfolding by_rows
  rows_at h e =
      let a = inside p n long in
      let b = eqb p.next 1 in
      let f = both_left (a && b) (leb n p.step) e in
      let one = eqb-true p.next 1 (both_right a b f) in
      let i = ltb-true _ long (both_left a b f) in
      let m : (n - 1) * p.next ≡ n - 1 = ap (λ (k : ℕ). (n - 1) * k) one ∙ mul-one (n - 1) in
      record { beside = one; room = leb-true n p.step (both_right (a && b) _ e); within = omega arith }

  pub rows_lie : (m step at : ℕ) → 1 ≤ n → long ≤ m → by_rows p n long ≡ true → step ≡ p.step → at ≡ p.at → (n ≤ step) × (at + n + 3 * step ≤ m)
  rows_lie m step at h l e s a = let b = rows_at h e in (omega (arith, b.room), omega (arith, b.within))

  pub record Below : Type 0 where
    pub below : p.step ≡ 1
    pub within : p.at + (n - 1) * p.next + 3 * 1 < long

  pub halves_at : by_halves p n long ≡ true → Below
  unfolding by_halves
  halves_at e =
      let a = inside p n long in
      let b = eqb p.step 1 in
      let one = eqb-true p.step 1 (both_right a b e) in
      let i = ltb-true _ long (both_left a b e) in
      record { below = one; within = omega arith }

  pub halves_lie : (m next at : ℕ) → long ≤ m → by_halves p n long ≡ true → next ≡ p.next → at ≡ p.at → at + (n - 1) * next + 3 * 1 < m
  halves_lie m next at l e s a =
      let b = halves_at e in
      let f = last_by p n 1 next at (sym b.below) s a in
      omega (arith, b.within, b.below)

  -- ---- a call by the tests' answers

  module _ (r : Bool) (e : r ≡ by_rows p n long) (m : Mask) (st : ℕ → ℕ) (xs : List ℕ) where
    pub by_rows_lem : (ys : List ℕ) → r ≡ true → ys ≡ lines_of m st p.step p.next p.at n xs → ys ≡ window_of (lies p n long) m st p n xs
    unfolding window_of lies
    by_rows_lem ys t w = rw (← e, t) w

    module _ (h : Bool) (f : h ≡ by_halves p n long) where
      pub by_halves_lem : (ys : List ℕ) → h ≡ true → ys ≡ lines_of m st p.step p.next p.at n xs → ys ≡ window_of (lies p n long) m st p n xs
      unfolding window_of lies
      by_halves_lem ys t w = rw (← f, t, or_true (by_rows p n long)) w

      pub by_neither : r ≡ false → h ≡ false → xs ≡ window_of (lies p n long) m st p n xs
      unfolding window_of lies
      by_neither t s = rw (← e, t, ← f, s) refl

  -- ---- and one over two edges

  module _ (r : Bool) (e : r ≡ by_rows p n long) where
    pub apart_rows : r ≡ true → true ≡ lies_apart p n long
    unfolding lies_apart
    apart_rows t = rw (← e, t) refl

    module _ (h : Bool) (f : h ≡ (by_halves p n long && leb 4 p.next)) where
      pub apart_halves : h ≡ true → true ≡ lies_apart p n long
      unfolding lies_apart
      apart_halves t = rw (← f, t, or_true (by_rows p n long)) refl

      pub apart_neither : r ≡ false → h ≡ false → false ≡ lies_apart p n long
      unfolding lies_apart
      apart_neither t s = rw (← e, t, ← f, s) refl

-- ---- what is left, by the answer

module _ (m : Mask) (st : ℕ → ℕ) (p : Place) (n : ℕ) (xs : List ℕ) where
  pub lines_taken : (ys : List ℕ) → ys ≡ lines_of m st p.step p.next p.at n xs → ys ≡ window_of true m st p n xs
  unfolding window_of
  lines_taken ys w = w

  pub lines_left : xs ≡ window_of false m st p n xs
  unfolding window_of
  lines_left = refl

-- n lines, a number that the call computes
module _ (p : Place) (n n₁ l long : ℕ) (e : n ≡ n₁) (f : l ≡ last_of p n) (m : Mask) (st : ℕ → ℕ) (xs : List ℕ) where
  pub kept_in : (ys : List ℕ) → l < long → ys ≡ lines_of m st p.step p.next p.at n xs → ys ≡ window_of (inside p n₁ long) m st p n₁ xs
  unfolding window_of
  kept_in ys h w = rw (← e, lt-ltb (last_of p n) long (omega arith)) w

  pub kept_out : long ≤ l → xs ≡ window_of (inside p n₁ long) m st p n₁ xs
  unfolding window_of
  kept_out h = rw (← e, le-ltb (last_of p n) long (omega arith)) refl
