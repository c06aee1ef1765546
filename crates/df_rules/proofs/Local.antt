-- Steps on a plane that read and write at some places only: two that have no place in common commute; and a window is such a step.
-- Assumes nothing.
use Prim.Native.Nat.{ℕ, zero, suc, ◌+◌, ◌*◌, ◌<◌}
use mathlib.Core.Path.{◌≡◌, refl, sym, ap, ◌∙◌, subst}
use mathlib.Core.Bool.{Bool, true, false}
use mathlib.Core.List.{List}
use native.Mathlib.Omega.{arith}
use borrow.Author.Tests.{eqb-true, eqb-false, ltb-true, ltb-false}
use lib.Dec.{eqb, ltb}
use lib.ListN.{length, get_or, set, length-set}
use lib.Seq.{ext_get_or, get_or-set_same, get_or-set_other, set_out}
use Rattle.laws.specs.Index.{pick}
use Rattle.line.specs.declared.Mask.{Mask}
use Rattle.line.specs.declared.Quad.{Quad}
use Rattle.split.proofs.Induct.{test}
use Rattle.df_rules.specs.Window.{quad_at, put_if, line_at, lines_at, window_at}

-- two planes of one length that agree at the places of P
pub record Same (P : ℕ → Type 0) (xs ys : List ℕ) : Type 0 where
  pub long : length xs ≡ length ys
  pub at : (i : ℕ) → P i → get_or xs i 0 ≡ get_or ys i 0

-- a step that leaves all but P's places as they are, and what it leaves at these depends on what was there only
pub record Local (P : ℕ → Type 0) (f : List ℕ → List ℕ) : Type 0 where
  pub leaves : (xs : List ℕ) → Same (λ i. P i → ⊥) (f xs) xs
  pub reads : (xs ys : List ℕ) → Same P xs ys → Same P (f xs) (f ys)

-- the places of one key
abbrev pub Keyed : (ℕ → ℕ) → ℕ → ℕ → Type 0
Keyed key k i = key i ≡ k

self : (P : ℕ → Type 0) (xs : List ℕ) → Same P xs xs
self P xs = record { long = refl; at = λ i p. refl }

trans : {P : ℕ → Type 0} {xs ys zs : List ℕ} → Same P xs ys → Same P ys zs → Same P xs zs
trans s t = record { long = s.long ∙ t.long; at = λ i p. s.at i p ∙ t.at i p }

module _ (key : ℕ → ℕ) where
  -- a step of one key leaves the places of another
  spared : {j k : ℕ} {f : List ℕ → List ℕ} → Local (Keyed key j) f → (j ≡ k → ⊥) → (xs : List ℕ) → Same (Keyed key k) (f xs) xs
  spared l ne xs = record { long = (l.leaves xs).long; at = λ i p. (l.leaves xs).at i (λ e. ne (sym e ∙ p)) }

  -- at a place of the first key the second step does nothing, and at any other the first does nothing
  pub commute : (j k : ℕ) (f g : List ℕ → List ℕ) → Local (Keyed key j) f → Local (Keyed key k) g → (j ≡ k → ⊥) → (xs : List ℕ) → f (g xs) ≡ g (f xs)
  commute j k f g lf lg ne xs =
      ext_get_or 0 (f (g xs)) (g (f xs)) ((lf.leaves (g xs)).long ∙ (lg.leaves xs).long ∙ sym (lf.leaves xs).long ∙ sym (lg.leaves (f xs)).long)
      (λ i h. test (eqb (key i) j) (λ t. first i (eqb-true _ _ t)) (λ t. other i (eqb-false _ _ t))) where
        first : (i : ℕ) → key i ≡ j → get_or (f (g xs)) i 0 ≡ get_or (g (f xs)) i 0
        first i p = (lf.reads (g xs) xs (spared lg (λ e. ne (sym e)) xs)).at i p ∙ sym ((spared lg (λ e. ne (sym e)) (f xs)).at i p)

        other : (i : ℕ) → (key i ≡ j → ⊥) → get_or (f (g xs)) i 0 ≡ get_or (g (f xs)) i 0
        other i p = (lf.leaves (g xs)).at i p ∙ test (eqb (key i) k)
            (λ u. sym ((lg.reads (f xs) xs (spared lf ne xs)).at i (eqb-true _ _ u)))
            (λ u. (lg.leaves xs).at i (eqb-false _ _ u) ∙ sym ((lf.leaves xs).at i p) ∙ sym ((lg.leaves (f xs)).at i (eqb-false _ _ u)))

-- ---- stores

module _ (P : ℕ → Type 0) where
  set_same : {xs ys : List ℕ} {v w : ℕ} (a : ℕ) → v ≡ w → Same P xs ys → Same P (set xs a v) (set ys a w)
  set_same {xs} {ys} {v} {w} a e s = record {
    long = length-set xs a v ∙ s.long ∙ sym (length-set ys a w);
    at = λ i p. test (eqb i a)
        (λ t. let q : i ≡ a = eqb-true _ _ t in rw q (test (ltb a (length xs))
        (λ u. let h = ltb-true _ _ u in let n = s.long in get_or-set_same xs a v 0 h ∙ e ∙ sym (get_or-set_same ys a w 0 (omega arith)))
        (λ u. let h = ltb-false _ _ u in let n = s.long in rw (set_out xs a v h, set_out ys a w (omega arith)) (rw q at (s.at i p)))))
        (λ t. get_or-set_other xs a i v 0 (eqb-false _ _ t) ∙ s.at i p ∙ sym (get_or-set_other ys a i w 0 (eqb-false _ _ t)));
  }

  set_leaves : {xs ys : List ℕ} (a v : ℕ) → P a → Same (λ i. P i → ⊥) xs ys → Same (λ i. P i → ⊥) (set xs a v) ys
  set_leaves {xs} {ys} a v pa s = record {
    long = length-set xs a v ∙ s.long;
    at = λ i p. get_or-set_other xs a i v 0 (λ e. p (subst P (sym e) pa)) ∙ s.at i p;
  }

  put_same : (b : Bool) {xs ys : List ℕ} {v w : ℕ} (a : ℕ) → v ≡ w → Same P xs ys → Same P (put_if b a v xs) (put_if b a w ys)
  put_same true a e s = set_same a e s
  put_same false a e s = s

  put_leaves : (b : Bool) {xs ys : List ℕ} (a v : ℕ) → P a → Same (λ i. P i → ⊥) xs ys → Same (λ i. P i → ⊥) (put_if b a v xs) ys
  put_leaves true a v p s = set_leaves a v p s
  put_leaves false a v p s = s

-- ---- lines

module _ (P : ℕ → Type 0) (m : Mask) (st step : ℕ) where
  quad_same : (at : ℕ) → P at → P (at + step) → P (at + 2 * step) → P (at + 3 * step) → (xs ys : List ℕ) → Same P xs ys → quad_at st step at xs ≡ quad_at st step at ys
  quad_same at a b c d xs ys s = rw (s.at at a, s.at (at + step) b, s.at (at + 2 * step) c, s.at (at + 3 * step) d)

  line_local : (at : ℕ) → P at → P (at + step) → P (at + 2 * step) → P (at + 3 * step) → Local P (line_at m st step at)
  unfolding line_at
  line_local at a b c d = record {
    leaves = λ xs. put_leaves P m.d _ _ d (put_leaves P m.c _ _ c (put_leaves P m.b _ _ b (put_leaves P m.a _ _ a (self _ xs))));
    reads = λ xs ys s. let q = quad_same at a b c d xs ys s in
        put_same P m.d _ (ap (λ (z : Quad). z.d) q)
        (put_same P m.c _ (ap (λ (z : Quad). z.c) q) (put_same P m.b _ (ap (λ (z : Quad). z.b) q) (put_same P m.a _ (ap (λ (z : Quad). z.a) q) s)));
  }

  lines_local : (next at n : ℕ) → ((k j : ℕ) → k < n → j < 4 → P (at + k * next + j * step)) → Local P (lines_at m st step next at n)
  unfolding lines_at
  lines_local next at zero h = record { leaves = self _; reads = λ xs ys s. s }
  lines_local next at (suc n) h =
      let i = lines_local next at n (λ k j l. h k j (omega arith)) in
      let f : (j i : ℕ) → j < 4 → i ≡ at + n * next + j * step → P i = λ j i l e. subst P (sym e) (h n j (omega arith) l) in
      let l = line_local (at + n * next) (f 0 _ (omega arith) (omega arith)) (f 1 _ (omega arith) (omega arith)) (f 2 _ (omega arith) (omega arith)) (f 3 _ (omega arith) (omega arith)) in
      record {
        leaves = λ xs. trans (l.leaves _) (i.leaves xs);
        reads = λ xs ys s. l.reads _ _ (i.reads xs ys s);
      }

  -- line k's sample j lies at at + k * next + j * step
  pub window_local : (next at n : ℕ) → ((k j : ℕ) → k < n → j < 4 → P (at + k * next + j * step)) → Local P (window_at m st step next at n)
  unfolding window_at
  window_local next at n h = go (eqb st 0) where
    go : (b : Bool) → Local P (λ xs. pick b xs (lines_at m st step next at n xs))
    go true = record { leaves = self _; reads = λ xs ys s. s }
    go false = lines_local next at n h
