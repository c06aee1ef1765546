-- The edges row by row: which they are, their order, and that a pass's list and its list row by row have the same members.
-- Assumes nothing.
use mathlib.Core.Bool.{Bool, true, false, not, ◌&&◌, ◌||◌, true≢false}
use mathlib.Core.Logic.{◌⊎◌, inl, inr, ⊎_elim}
use mathlib.Core.List.Memᴰ
use mathlib.Core.List.{[], ◌∷◌, Memᴰ}
use mathlib.Core.Path.{◌≡◌, refl, sym, ap, ◌∙◌, subst}
use Prim.Native.Nat.{ℕ, zero, suc, ◌-◌, ◌%◌, ◌<◌}
use native.Mathlib.Omega.{arith}
use borrow.Author.Tests.{eqb-true, eqb-false, eq-eqb, ltb-true, lt-ltb}
use lib.Dec.{eqb}
use Rattle.laws.specs.Index.{pick}
use Rattle.laws.specs.Orders.{Pairwise}
use Rattle.laws.proofs.Orders.{pairwise_append}
use Rattle.split.specs.Edges.{Edge, edge}
use Rattle.split.specs.Rows.{IsEdge, same_leaf, is_edge, row_of, rows_of}
use Rattle.split.specs.Walk.{Leaf}
use Rattle.split.proofs.Induct.{test}
use Rattle.split.proofs.Sides.{and-true}

-- ---- the test

same_leaf_lem : (p q : Leaf) → same_leaf p q ≡ true → p ≡ q
same_leaf_lem p q e =
    let t = and-true (eqb p.x q.x) _ e in
    let u = and-true (eqb p.y q.y) (eqb p.side q.side) t.1 in
    let a = eqb-true p.x q.x t.0 in
    let b = eqb-true p.y q.y u.0 in
    let c = eqb-true p.side q.side u.1 in
    λ i. record { x = a i; y = b i; side = c i }

leaf_same : (p q : Leaf) → p ≡ q → same_leaf p q ≡ true
leaf_same p q e = simp (eq-eqb _ _ (ap (λ (z : Leaf). z.x) e), eq-eqb _ _ (ap (λ (z : Leaf). z.y) e), eq-eqb _ _ (ap (λ (z : Leaf). z.side) e))

pub is_edge_lem : (halved : Bool) (home : ℕ → ℕ → Leaf) (c a : ℕ) → is_edge halved home c a ≡ true → IsEdge halved home c a
unfolding is_edge
is_edge_lem halved home c a e =
    let t = and-true _ _ e in
    record { inner = ltb-true _ _ t.0; between = go (same_leaf (home (c - 1) a) (home c a)) refl t.1 }
  where
    go : (b : Bool) → same_leaf (home (c - 1) a) (home c a) ≡ b → (not b || (halved && (eqb (home c a).side 16 && eqb (c % 16) 8))) ≡ true
        → (home (c - 1) a ≡ home c a → ⊥) ⊎ ((halved ≡ true) × (home (c - 1) a ≡ home c a) × ((home c a).side ≡ 16) × (c % 16 ≡ 8))
    go true q e =
        let t = and-true _ _ e in
        let u = and-true _ _ t.1 in
        inr (t.0, same_leaf_lem _ _ q, eqb-true _ _ u.0, eqb-true _ _ u.1)
    go false q e = inl (λ z. true≢false (sym (leaf_same _ _ z) ∙ q))

pub edge_is : (halved : Bool) (home : ℕ → ℕ → Leaf) (c a : ℕ) → IsEdge halved home c a → is_edge halved home c a ≡ true
unfolding is_edge
edge_is halved home c a h = rw (lt-ltb _ _ h.inner) (⊎_elim
    (λ ne. test (same_leaf (home (c - 1) a) (home c a)) (λ t. absurd (ne (same_leaf_lem _ _ t))) (λ t. rw t))
    (λ k. rw (leaf_same _ _ k.1, k.0, eq-eqb _ _ k.2, eq-eqb _ _ k.3)) h.between)

-- ---- row by row

-- e's row comes before f's, or it is the same and e stands left of f
abbrev pub Earlier : Edge → Edge → Type 0
Earlier e f = (e.y < f.y) ⊎ ((e.y ≡ f.y) × (e.x < f.x))

module _ (is : Edge → Bool) where
  pub record Listed (w h : ℕ) (e : Edge) : Type 0 where
    pub column : e.x < w
    pub row : e.y < h
    pub sure : is e ≡ true

  one_mem : (b : Bool) (u v : ℕ) (e : Edge) → Memᴰ e (pick b (edge u v ∷ []) []) → (b ≡ true) × (e ≡ edge u v)
  one_mem true u v e m = (refl, Memᴰ.eq_of_singleton m)
  one_mem false u v e m = absurd (Memᴰ.not-nil m)

  mem_one : (b : Bool) (u v : ℕ) → b ≡ true → Memᴰ (edge u v) (pick b (edge u v ∷ []) [])
  mem_one b u v t = rw t (Memᴰ.head refl)

  row_mem : (v n : ℕ) (e : Edge) → Memᴰ e (row_of is v n) → (e.x < n) × (e.y ≡ v) × (is e ≡ true)
  unfolding row_of
  row_mem v zero e m = absurd (Memᴰ.not-nil m)
  row_mem v (suc n) e m =
      ⊎_elim (λ i. let h = row_mem v n e i in let g = h.0 in (omega arith, h.1, h.2))
      (λ i. let h = one_mem (is (edge n v)) n v e i in
      let p : e.x ≡ n = ap (λ (z : Edge). z.x) h.1 in
      let q : e.y ≡ v = ap (λ (z : Edge). z.y) h.1 in
      (omega arith, q, ap is h.1 ∙ h.0))
      (Memᴰ.append_cases (row_of is v n) m)

  mem_row : (v n u : ℕ) → u < n → is (edge u v) ≡ true → Memᴰ (edge u v) (row_of is v n)
  unfolding row_of
  mem_row v zero u g t = absurd (omega arith)
  mem_row v (suc n) u g t =
      test (eqb u n)
      (λ q. let e = eqb-true u n q in
      Memᴰ.append_right (row_of is v n) (subst (λ (k : ℕ). Memᴰ (edge k v) (pick (is (edge n v)) (edge n v ∷ []) [])) (sym e) (mem_one (is (edge n v)) n v (rw e at t))))
      (λ q. let ne = eqb-false u n q in Memᴰ.append_left _ (mem_row v n u (omega arith) t))

  pub rows_mem : (w n : ℕ) (e : Edge) → Memᴰ e (rows_of is w n) → Listed w n e
  unfolding rows_of
  rows_mem w zero e m = absurd (Memᴰ.not-nil m)
  rows_mem w (suc n) e m =
      ⊎_elim (λ i. let h = rows_mem w n e i in let g = h.row in record { column = h.column; row = omega arith; sure = h.sure })
      (λ i. let h = row_mem n w e i in let g = h.1 in record { column = h.0; row = omega arith; sure = h.2 })
      (Memᴰ.append_cases (rows_of is w n) m)

  pub mem_rows : (w n u v : ℕ) → u < w → v < n → is (edge u v) ≡ true → Memᴰ (edge u v) (rows_of is w n)
  unfolding rows_of
  mem_rows w zero u v g k t = absurd (omega arith)
  mem_rows w (suc n) u v g k t =
      test (eqb v n)
      (λ q. let e = eqb-true v n q in
      Memᴰ.append_right (rows_of is w n) (subst (λ (r : ℕ). Memᴰ (edge u v) (row_of is r w)) e (mem_row v w u g t)))
      (λ q. let ne = eqb-false v n q in Memᴰ.append_left _ (mem_rows w n u v g (omega arith) t))

  one_order : (b : Bool) (u v : ℕ) → Pairwise Earlier (pick b (edge u v ∷ []) [])
  one_order true u v = (λ f m. absurd (Memᴰ.not-nil m), tt)
  one_order false u v = tt

  row_order : (v n : ℕ) → Pairwise Earlier (row_of is v n)
  unfolding row_of
  row_order v zero = tt
  row_order v (suc n) =
      pairwise_append Earlier (row_of is v n) (pick (is (edge n v)) (edge n v ∷ []) []) (row_order v n) (one_order (is (edge n v)) n v)
      (λ e f i j. let h = row_mem v n e i in let g = one_mem (is (edge n v)) n v f j in
      let h₀ = h.0 in
      let h₁ = h.1 in
      let p : f.x ≡ n = ap (λ (z : Edge). z.x) g.1 in
      let q : f.y ≡ v = ap (λ (z : Edge). z.y) g.1 in
      inr (omega arith, omega arith))

  pub rows_order : (w n : ℕ) → Pairwise Earlier (rows_of is w n)
  unfolding rows_of
  rows_order w zero = tt
  rows_order w (suc n) =
      pairwise_append Earlier (rows_of is w n) (row_of is n w) (rows_order w n) (row_order n w)
      (λ e f i j. let h = (rows_mem w n e i).row in let g = (row_mem n w f j).1 in inl (omega arith))
