-- A list whose members have different numbers below n has at most n members.
-- Assumes nothing.
use mathlib.Core.Bool.{Bool, true, false}
use mathlib.Core.List.Memᴰ
use mathlib.Core.List.{List, [], ◌∷◌, Memᴰ}
use mathlib.Core.Logic.{⊎_elim}
use mathlib.Core.Path.{◌≡◌, refl, sym, ◌∙◌, subst}
use Prim.Native.Nat.{ℕ, zero, suc, ◌≤◌, ◌<◌}
use native.Mathlib.Omega.{arith}
use borrow.Author.Tests.{eqb-true, eqb-false}
use lib.Dec.{eqb}
use lib.ListN.{length}
use Rattle.laws.specs.Index.{pick}
use Rattle.laws.specs.Orders.{Pairwise}

module _ {E : Type 0} (f : E → ℕ) where
  abbrev Apart : List E → Type 0
  Apart l = Pairwise (λ a b. f a ≡ f b → ⊥) l

  -- without the members of number n
  strip : ℕ → List E → List E
  strip n [] = []
  strip n (a ∷ l) = pick (eqb (f a) n) (strip n l) (a ∷ strip n l)

  record Kept (n : ℕ) (l : List E) (a : E) : Type 0 where
    listed : Memᴰ a l
    other : f a ≡ n → ⊥

  more : (n : ℕ) (b : E) (l : List E) {a : E} → Kept n l a → Kept n (b ∷ l) a
  more n b l k = record { listed = Memᴰ.tail k.listed; other = k.other }

  kept : (n : ℕ) (l : List E) (a : E) → Memᴰ a (strip n l) → Kept n l a
  unfolding strip
  kept n [] a m = absurd (Memᴰ.not-nil m)
  kept n (b ∷ l) a m = go (eqb (f b) n) refl m (kept n l a) where
    go : (t : Bool) → eqb (f b) n ≡ t → Memᴰ a (pick t (strip n l) (b ∷ strip n l)) → (Memᴰ a (strip n l) → Kept n l a) → Kept n (b ∷ l) a
    go true e m i = more n b l (i m)
    go false e m i =
        ⊎_elim (λ (q : a ≡ b). subst (Kept n (b ∷ l)) (sym q) (record { listed = Memᴰ.head refl; other = eqb-false (f b) n e })) (λ j. more n b l (i j)) (Memᴰ.cases_cons m)

  strip_apart : (n : ℕ) (l : List E) → Apart l → Apart (strip n l)
  unfolding strip
  strip_apart n [] p = tt
  strip_apart n (b ∷ l) p = go (eqb (f b) n) (strip_apart n l p.1) where
    go : (t : Bool) → Apart (strip n l) → Apart (pick t (strip n l) (b ∷ strip n l))
    go true i = i
    go false i = (λ a m. p.0 a (kept n l a m).listed, i)

  -- where none has the number, all are left
  strip_none : (n : ℕ) (l : List E) → ((a : E) → Memᴰ a l → f a ≡ n → ⊥) → length l ≤ length (strip n l)
  unfolding strip
  strip_none n [] h = omega arith
  strip_none n (b ∷ l) h = go (eqb (f b) n) refl (strip_none n l (λ a m. h a (Memᴰ.tail m))) where
    go : (t : Bool) → eqb (f b) n ≡ t → length l ≤ length (strip n l) → suc (length l) ≤ length (pick t (strip n l) (b ∷ strip n l))
    go true e i = absurd (h b (Memᴰ.head refl) (eqb-true (f b) n e))
    go false e i = omega arith

  -- and one at most has it
  strip_one : (n : ℕ) (l : List E) → Apart l → length l ≤ suc (length (strip n l))
  unfolding strip
  strip_one n [] p = omega arith
  strip_one n (b ∷ l) p = go (eqb (f b) n) refl (strip_one n l p.1) where
    go : (t : Bool) → eqb (f b) n ≡ t → length l ≤ suc (length (strip n l)) → suc (length l) ≤ suc (length (pick t (strip n l) (b ∷ strip n l)))
    go true e i = omega (arith, strip_none n l (λ a m q. p.0 a m (eqb-true (f b) n e ∙ sym q)))
    go false e i = omega arith

  pub few_below : (n : ℕ) (l : List E) → Apart l → ((a : E) → Memᴰ a l → f a < n) → length l ≤ n
  few_below zero [] p h = omega arith
  few_below zero (a ∷ l) p h = absurd (let z = h a (Memᴰ.head refl) in omega arith)
  few_below (suc n) l p h =
      omega (
        arith,
        strip_one n l p,
        few_below n (strip n l) (strip_apart n l p) (λ a m. below (f a) (h a (kept n l a m).listed) (kept n l a m).other),
      ) where
        below : (k : ℕ) → k < suc n → (k ≡ n → ⊥) → k < n
        below k g q = omega arith
