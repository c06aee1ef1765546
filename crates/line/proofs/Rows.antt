-- The strength row's numbers in the code's terms: bytes that are the same, and a difference of 4 or more.
-- Assumes nothing.
use mathlib.Core.Path.{◌≡◌, refl, sym, ap, ◌∙◌}
use mathlib.Core.Bool.{Bool, true, false, not, ◌&&◌, ◌||◌}
use Prim.Native.Nat.{ℕ, ◌<◌}
use native.Mathlib.Omega.{arith}
use borrow.Author.Tests.{eqb-true, eqb-false, eq-eqb, ne_eqb}
use lib.Dec.{eqb, leb, leb-suc-suc}
use lib.IntN.{ℤ, pos, negsuc, ◌-ℤ◌, +ℤ_idl, +ℤ-neg_ℤ_cancel}
use lib.Signed.{le_z, mag}
use mir.Syntax.{Width, w8, w16, w32}
use mir.Val.{SFits, to_z, of_z}
use Rattle.def.specs.Word.{intra_of, coded_of}
use Rattle.laws.specs.Clip.{abs_z}
use Rattle.laws.proofs.Bools.{or_false}
use Rattle.laws.proofs.Widths.{sfits, back, mag_sub}
use Rattle.laws.specs.Index.{pick}
use Rattle.line.specs.declared.Motion.{Motion}
use Rattle.line.specs.Row.{eq_z, far, same_refs, any_far, crosswise, motion_row, row_of}

eq_z_refl : (a : ℤ) → eq_z a a ≡ true
unfolding eq_z
eq_z_refl (pos a) = eq-eqb a a refl
eq_z_refl (negsuc a) = eq-eqb a a refl

eq_z_other : (a b : ℤ) → (a ≡ b → ⊥) → eq_z a b ≡ false
unfolding eq_z
eq_z_other (pos a) (pos b) ne = ne_eqb a b (λ e. ne (ap pos e))
eq_z_other (pos a) (negsuc b) ne = refl
eq_z_other (negsuc a) (pos b) ne = refl
eq_z_other (negsuc a) (negsuc b) ne = ne_eqb a b (λ e. ne (ap negsuc e))

pub eq_z_same : (a b : ℤ) → eq_z a b ≡ true → a ≡ b
unfolding eq_z
eq_z_same (pos a) (pos b) e = ap pos (eqb-true a b e)
eq_z_same (pos a) (negsuc b) e = absurd (let z : ◌≡◌ {A = ℕ} 0 1 = cc in omega arith)
eq_z_same (negsuc a) (pos b) e = absurd (let z : ◌≡◌ {A = ℕ} 0 1 = cc in omega arith)
eq_z_same (negsuc a) (negsuc b) e = ap negsuc (eqb-true a b e)

-- numbers that fit a width are the same where their bits are
pub same_bits : (w : Width) (a b : ℤ) → SFits w a → SFits w b → eqb (of_z w a) (of_z w b) ≡ eq_z a b
same_bits w a b f g = go (eqb (of_z w a) (of_z w b)) refl
  where
    go : (t : Bool) → eqb (of_z w a) (of_z w b) ≡ t → t ≡ eq_z a b
    go true e =
        let same : a ≡ b = sym (back w a f) ∙ ap (to_z w) (eqb-true _ _ e) ∙ back w b g in
        sym (eq_z_refl a) ∙ ap (eq_z a) same
    go false e = sym (eq_z_other a b (λ q. eqb-false _ _ e (ap (of_z w) q)))

-- ---- a difference in a wider type

small : {z : ℤ} → SFits w16 z → SFits w32 z
small f = sfits w32 32768 (omega (arith, f.sfits)) tt

pub widened : {z : ℤ} → SFits w16 z → SFits w32 (to_z w16 (of_z w16 z))
widened {z} f = rw (back w16 z f) (small f)

pub plain : {z : ℤ} → SFits w16 z → to_z w32 (of_z w32 (to_z w16 (of_z w16 z))) ≡ z
plain {z} f = rw (back w16 z f) (back w32 z (small f))

pub difference : {a b : ℤ} → SFits w16 a → SFits w16 b → SFits w32 (a -ℤ b)
difference {a} {b} f g = sfits w32 65536 (omega (arith, mag_sub a b, f.sfits, g.sfits)) tt

pub either_way : (d : ℤ) → (le_z (pos 4) d || le_z d (negsuc 3)) ≡ le_z (pos 4) (abs_z d)
unfolding abs_z
either_way (pos n) = or_false (leb 4 n)
either_way (negsuc n) = sym (leb-suc-suc 3 n)

-- ---- the row by motion, of its four tests

-- 3 where the references are equal, in place or crosswise, and nothing is far from P so taken
pub by_tests : (q p : Motion) (s t f near : Bool) → s ≡ same_refs q p → t ≡ same_refs q (crosswise p) → f ≡ any_far q (pick s p (crosswise p))
    → ((s || t) && not f) ≡ near → pick {A = ℕ} near 3 2 ≡ motion_row q p
unfolding motion_row
by_tests q p s t f near es et ef e =
    ap (λ (b : Bool). pick b 3 2) (sym e) ∙ ap (λ (b : Bool). pick ((s || t) && not b) 3 2) ef ∙ choice s t
    ∙ (λ i. pick (es i) (pick (any_far q p) 2 3) (pick (et i) (pick (any_far q (crosswise p)) 2 3) 2))
  where
    turned : (f : Bool) → ◌≡◌ {A = ℕ} (pick (not f) 3 2) (pick f 2 3)
    turned true = refl
    turned false = refl

    choice : (s t : Bool) → ◌≡◌ {A = ℕ} (pick ((s || t) && not (any_far q (pick s p (crosswise p)))) 3 2) (pick s (pick (any_far q p) 2 3) (pick t (pick (any_far q (crosswise p)) 2 3) 2))
    choice true t = turned (any_far q p)
    choice false true = turned (any_far q (crosswise p))
    choice false false = refl

-- ---- two units that move alike

far_self : (a : ℤ) → far a a ≡ false
unfolding far abs_z
far_self a = rw (ap (λ (k : ℤ). k -ℤ a) (sym (+ℤ_idl a)) ∙ +ℤ-neg_ℤ_cancel (pos 0) a)

pub motion_self : (m : Motion) → motion_row m m ≡ 3
unfolding motion_row same_refs any_far
motion_self m = simp (eq_z_refl, far_self)

-- a unit's row is by motion: it is neither intra nor luma-coded
neither : (s t : Bool) → (s || t) ≡ false → (s ≡ false) × (t ≡ false)
neither true t e = absurd (let z : ◌≡◌ {A = ℕ} 0 1 = cc in omega arith)
neither false t e = (refl, e)

pub row_self : (a b : ℕ) (m : Motion) → (intra_of a || coded_of a) ≡ false → (intra_of b || coded_of b) ≡ false → row_of a b m m ≡ 3
unfolding row_of
row_self a b m e f =
    let p = neither (intra_of a) (coded_of a) e in
    let q = neither (intra_of b) (coded_of b) f in
    rw (p.0, q.0, p.1, q.1) (motion_self m)

-- ---- a unit's motion, read back from its bits

pub record Read (m : Motion) : Type 0 where
  pub refi0 : to_z w8 (of_z w8 m.refi0) ≡ m.refi0
  pub refi1 : to_z w8 (of_z w8 m.refi1) ≡ m.refi1
  pub x0 : to_z w16 (of_z w16 m.x0) ≡ m.x0
  pub y0 : to_z w16 (of_z w16 m.y0) ≡ m.y0
  pub x1 : to_z w16 (of_z w16 m.x1) ≡ m.x1
  pub y1 : to_z w16 (of_z w16 m.y1) ≡ m.y1

pub read : (m : Motion) → mag m.refi0 < 128 → mag m.refi1 < 128 → mag m.x0 < 32768 → mag m.y0 < 32768 → mag m.x1 < 32768 → mag m.y1 < 32768 → Read m
read m r₀ r₁ x₀ y₀ x₁ y₁ =
    record {
      refi0 = back w8 _ (record { sfits = r₀ });
      refi1 = back w8 _ (record { sfits = r₁ });
      x0 = back w16 _ (record { sfits = x₀ });
      y0 = back w16 _ (record { sfits = y₀ });
      x1 = back w16 _ (record { sfits = x₁ });
      y1 = back w16 _ (record { sfits = y₁ });
    }

-- ---- the row, likewise: of the words a and b

module _ (a b : ℕ) (m n : Motion) where
  pub either_intra : (s t : Bool) → s ≡ intra_of a → t ≡ intra_of b → (s || t) ≡ true → 0 ≡ row_of a b m n
  unfolding row_of
  either_intra s t p q e = rw ((λ i. sym p i || sym q i) ∙ e)

  pub either_coded : (s t k l : Bool) → s ≡ intra_of a → t ≡ intra_of b → (s || t) ≡ false → k ≡ coded_of a → l ≡ coded_of b → (k || l) ≡ true → 1 ≡ row_of a b m n
  unfolding row_of
  either_coded s t k l p q e u v f = rw ((λ i. sym p i || sym q i) ∙ e, (λ i. sym u i || sym v i) ∙ f)

  pub by_motion : (s t k l : Bool) (r : ℕ) → s ≡ intra_of a → t ≡ intra_of b → (s || t) ≡ false → k ≡ coded_of a → l ≡ coded_of b → (k || l) ≡ false → r ≡ motion_row m n → r ≡ row_of a b m n
  unfolding row_of
  by_motion s t k l r p q e u v f h = rw ((λ i. sym p i || sym q i) ∙ e, (λ i. sym u i || sym v i) ∙ f) h
