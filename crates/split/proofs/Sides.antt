-- The edges of leaves that tile a picture, in either pass: which they are, and that those of one place along follow each other across.
-- Assumes nothing.
use mathlib.Core.Bool.{Bool, true, false, ◌&&◌, true≢false}
use mathlib.Core.Logic.{◌⊎◌, inl, inr, ⊎_elim}
use mathlib.Core.List.Memᴰ
use mathlib.Core.List.{List, [], ◌++◌, Memᴰ}
use mathlib.Core.Path.{◌≡◌, refl, sym, ap, ◌∙◌, subst}
use Prim.Native.Nat.{ℕ, zero, suc, ◌+◌, ◌-◌, ◌%◌, ◌≤◌, ◌<◌}
use native.Mathlib.Omega.{arith}
use borrow.Author.Tests.{ltb-true, lt-ltb, eqb-true, eqb-false, eq-eqb}
use lib.Dec.{ltb, eqb}
use Rattle.laws.specs.Index.{pick}
use Rattle.laws.specs.Orders.{Pairwise, each}
use Rattle.laws.proofs.Orders.{pairwise_append, pairwise_each, each_mem, mem_each}
use Rattle.split.specs.Edges.{Pass, vertical, horizontal, Edge, edge_at, stretch}
use Rattle.split.specs.Rows.{IsEdge}
use Rattle.split.specs.Walk.{Leaf}
use Rattle.split.proofs.Induct.{test}

pub and-true : (a b : Bool) → (a && b) ≡ true → (a ≡ true) × (b ≡ true)
and-true true b e = (refl, e)
and-true false b e = absurd (true≢false (sym e))

-- ---- a leaf's place across a pass's edges, and along them

abbrev pub X : Pass → Leaf → ℕ
X vertical p = p.x
X horizontal p = p.y

abbrev pub Y : Pass → Leaf → ℕ
Y vertical p = p.y
Y horizontal p = p.x

-- ---- leaves that tile a picture of m units across and n along. home: the leaf of a unit

module _ (d : Pass) where
  pub record Has (p : Leaf) (c a : ℕ) : Type 0 where
    pub left : X d p ≤ c
    pub right : c < X d p + p.side
    pub top : Y d p ≤ a
    pub bottom : a < Y d p + p.side

  pub record Within (m n : ℕ) (p : Leaf) : Type 0 where
    pub some : 1 ≤ p.side
    pub right : X d p + p.side ≤ m
    pub bottom : Y d p + p.side ≤ n
    pub whole : p.side ≡ 16 → X d p % 16 ≡ 0

  pub record Tiled (home : ℕ → ℕ → Leaf) (m n : ℕ) (l : List Leaf) : Type 0 where
    pub order : Pairwise (λ p q. (X d p + p.side ≤ X d q) ⊎ (Y d p + p.side ≤ Y d q)) l
    pub covers : (c a : ℕ) → c < m → a < n → Memᴰ (home c a) l × Has (home c a) c a
    pub found : (p : Leaf) (c a : ℕ) → Memᴰ p l → Has p c a → home c a ≡ p
    pub known : (p : Leaf) → Memᴰ p l → Within m n p

  -- ---- a stretch

  pub record On (c a n : ℕ) (e : Edge) : Type 0 where
    pub place : ℕ
    pub from : a ≤ place
    pub to : place < a + n
    pub is : e ≡ edge_at d c place

  pub stretch_mem : (c a n : ℕ) (e : Edge) → Memᴰ e (stretch d c a n) → On c a n e
  unfolding stretch
  stretch_mem c a zero e m = absurd (Memᴰ.not-nil m)
  stretch_mem c a (suc n) e m =
      ⊎_elim (λ q. record { place = a; from = omega arith; to = omega arith; is = q })
      (λ i. let h = stretch_mem c (suc a) n e i in
      let f = h.from in let t = h.to in record { place = h.place; from = omega arith; to = omega arith; is = h.is })
      (Memᴰ.cases_cons m)

  mem_stretch : (c a n k : ℕ) → a ≤ k → k < a + n → Memᴰ (edge_at d c k) (stretch d c a n)
  unfolding stretch
  mem_stretch c a zero k g h = absurd (omega arith)
  mem_stretch c a (suc n) k g h =
      test (eqb k a) (λ t. Memᴰ.head (ap (edge_at d c) (eqb-true _ _ t)))
      (λ t. let ne = eqb-false k a t in Memᴰ.tail (mem_stretch c (suc a) n k (omega arith) (omega arith)))

  -- ---- a leaf's: its own, unless it stands at the picture's side; with limit 5, the one between the halves of a leaf of 64

  unfoldable pub leaf_edges : Bool → Leaf → List Edge
  leaf_edges halved p =
      pick (ltb 0 (X d p)) (stretch d (X d p) (Y d p) p.side) []
      ++ pick (halved && eqb p.side 16) (stretch d (X d p + 8) (Y d p) 16) []

  pub record Of (halved : Bool) (p : Leaf) (e : Edge) : Type 0 where
    pub cross : ℕ
    pub along : ℕ
    pub is : e ≡ edge_at d cross along
    pub top : Y d p ≤ along
    pub bottom : along < Y d p + p.side
    pub which : ((cross ≡ X d p) × (0 < X d p)) ⊎ ((halved ≡ true) × (p.side ≡ 16) × (cross ≡ X d p + 8))

  pub pick_mem : {e : Edge} (b : Bool) (l : List Edge) → Memᴰ e (pick b l []) → (b ≡ true) × Memᴰ e l
  pick_mem true l m = (refl, m)
  pick_mem false l m = absurd (Memᴰ.not-nil m)

  mem_pick : {e : Edge} (b : Bool) (l : List Edge) → b ≡ true → Memᴰ e l → Memᴰ e (pick b l [])
  mem_pick true l t m = m
  mem_pick false l t m = absurd (true≢false (sym t))

  pub leaf_mem : (halved : Bool) (p : Leaf) (e : Edge) → Memᴰ e (leaf_edges halved p) → Of halved p e
  unfolding leaf_edges
  leaf_mem halved p e m =
      ⊎_elim (λ i. let b = pick_mem (ltb 0 (X d p)) _ i in let o = stretch_mem _ _ _ e b.1 in
      record { cross = X d p; along = o.place; is = o.is; top = o.from; bottom = o.to; which = inl (refl, ltb-true _ _ b.0) })
      (λ i. let b = pick_mem (halved && eqb p.side 16) _ i in let o = stretch_mem _ _ _ e b.1 in
      let t = and-true _ _ b.0 in let n = eqb-true _ _ t.1 in let u = o.to in
      record { cross = X d p + 8; along = o.place; is = o.is; top = o.from; bottom = omega arith; which = inr (t.0, n, refl) })
      (Memᴰ.append_cases (pick (ltb 0 (X d p)) (stretch d (X d p) (Y d p) p.side) []) m)

  mem_leaf_own : (halved : Bool) (p : Leaf) (a : ℕ) → 0 < X d p → Y d p ≤ a → a < Y d p + p.side → Memᴰ (edge_at d (X d p) a) (leaf_edges halved p)
  unfolding leaf_edges
  mem_leaf_own halved p a g t b = Memᴰ.append_left _ (mem_pick (ltb 0 (X d p)) _ (lt-ltb _ _ g) (mem_stretch _ _ _ a t b))

  mem_leaf_half : (halved : Bool) (p : Leaf) (a : ℕ) → halved ≡ true → p.side ≡ 16 → Y d p ≤ a → a < Y d p + p.side → Memᴰ (edge_at d (X d p + 8) a) (leaf_edges halved p)
  unfolding leaf_edges
  mem_leaf_half halved p a s n t b =
      Memᴰ.append_right (pick (ltb 0 (X d p)) (stretch d (X d p) (Y d p) p.side) [])
      (mem_pick (halved && eqb p.side 16) _ (rw (s, eq-eqb _ _ n)) (mem_stretch _ _ _ a t (omega arith)))

  -- ---- all of them

  module _ (home : ℕ → ℕ → Leaf) (m n : ℕ) (l : List Leaf) (t : Tiled home m n l) (halved : Bool) where
    abbrev pub edges : List Edge
    edges = each (leaf_edges halved) l

    pub record Found (e : Edge) : Type 0 where
      pub cross : ℕ
      pub along : ℕ
      pub is : e ≡ edge_at d cross along
      pub right : cross < m
      pub bottom : along < n
      pub sure : IsEdge halved home cross along

    pub edges_mem : (e : Edge) → Memᴰ e edges → Found e
    edges_mem e i =
        let f = each_mem (leaf_edges halved) l e i in
        let p = f.one in
        let k = t.known p f.listed in
        let o = leaf_mem halved p e f.mine in
        let top = o.top in
        let bottom = o.bottom in
        ⊎_elim (λ z. let z₀ = z.0 in let z₁ = z.1 in
        let here : home o.cross o.along ≡ p = t.found p _ _ f.listed (record { left = omega arith; right = omega arith; top = top; bottom = bottom }) in
        record {
          cross = o.cross;
          along = o.along;
          is = o.is;
          right = omega arith;
          bottom = omega arith;
          sure = record {
            inner = omega arith;
            between = inl (λ q. let v = (t.covers (o.cross - 1) o.along (omega arith) (omega arith)).1 in
                let r : X d (home (o.cross - 1) o.along) ≡ X d p = ap (X d) (q ∙ here) in let left = v.left in omega arith);
          };
        })
        (λ z. let z₁ = z.1 in let z₂ = z.2 in let y = k.whole z₁ in
        let here : home o.cross o.along ≡ p = t.found p _ _ f.listed (record { left = omega arith; right = omega arith; top = top; bottom = bottom }) in
        let there : home (o.cross - 1) o.along ≡ p = t.found p _ _ f.listed (record { left = omega arith; right = omega arith; top = top; bottom = bottom }) in
        record {
          cross = o.cross;
          along = o.along;
          is = o.is;
          right = omega arith;
          bottom = omega arith;
          sure = record {
            inner = omega arith;
            between = inr (z.0, there ∙ sym here, ap (λ (q : Leaf). q.side) here ∙ z₁, omega arith);
          };
        })
        o.which

    pub mem_edges : (c a : ℕ) → c < m → a < n → IsEdge halved home c a → Memᴰ (edge_at d c a) edges
    mem_edges c a gw gh s =
        let p = home c a in
        let v = t.covers c a gw gh in
        let k = v.1 in
        let b = t.known p v.0 in
        let pos = s.inner in
        ⊎_elim (λ ne. test (eqb c (X d p))
        (λ q. let e = eqb-true c (X d p) q in
        subst (λ (n : ℕ). Memᴰ (edge_at d n a) edges) (sym e) (mem_each (leaf_edges halved) v.0 (mem_leaf_own halved p a (omega arith) k.top k.bottom)))
        (λ q. let n = eqb-false c (X d p) q in absurd (ne (t.found p (c - 1) a v.0 (record { left = omega arith; right = omega arith; top = k.top; bottom = k.bottom })))))
        (λ z. let n = z.2 in let y = b.whole n in let z₃ = z.3 in
        let e : c ≡ X d p + 8 = omega arith in
        subst (λ (n : ℕ). Memᴰ (edge_at d n a) edges) (sym e) (mem_each (leaf_edges halved) v.0 (mem_leaf_half halved p a z.0 n k.top k.bottom)))
        s.between

    -- their order: those of one place along follow each other across
    module _ (R : Edge → Edge → Type 0) (r : (c a c' a' : ℕ) → (a ≡ a' → c < c') → R (edge_at d c a) (edge_at d c' a')) where
      by : (e f : Edge) (c a c' a' : ℕ) → e ≡ edge_at d c a → f ≡ edge_at d c' a' → (a ≡ a' → c < c') → R e f
      by e f c a c' a' p q h = rw (p, q) (r c a c' a' h)

      stretch_order : (c a n : ℕ) → Pairwise R (stretch d c a n)
      unfolding stretch
      stretch_order c a zero = tt
      stretch_order c a (suc n) = (
        λ f i. let o = stretch_mem c (suc a) n f i in let g = o.from in by _ f c a c o.place refl o.is (λ e. absurd (omega arith)),
        stretch_order c (suc a) n,
      )

      pick_order : (b : Bool) (k : List Edge) → Pairwise R k → Pairwise R (pick b k [])
      pick_order true k p = p
      pick_order false k p = tt

      leaf_order : (p : Leaf) → Pairwise R (leaf_edges halved p)
      unfolding leaf_edges
      leaf_order p =
          let b = ltb 0 (X d p) in
          let u = halved && eqb p.side 16 in
          let j = stretch d (X d p) (Y d p) p.side in
          let k = stretch d (X d p + 8) (Y d p) 16 in
          pairwise_append R (pick b j []) (pick u k []) (pick_order b j (stretch_order (X d p) (Y d p) p.side)) (pick_order u k (stretch_order (X d p + 8) (Y d p) 16))
          (λ e f x y.
          let o = stretch_mem (X d p) (Y d p) p.side e (pick_mem b j x).1 in
          let q = stretch_mem (X d p + 8) (Y d p) 16 f (pick_mem u k y).1 in
          by e f (X d p) o.place (X d p + 8) q.place o.is q.is (λ z. omega arith))

      pub edges_order : Pairwise R edges
      edges_order = pairwise_each (leaf_edges halved) R _ l t.order (λ p i. leaf_order p)
          (λ p q e f x y b i j.
          let o = leaf_mem halved p e i in
          let u = leaf_mem halved q f j in
          let k = t.known p x in
          let o₁ = o.bottom in
          let u₁ = u.top in
          let lo : o.cross < X d p + p.side = ⊎_elim (λ z. let z₀ = z.0 in omega arith) (λ z. let z₁ = z.1 in let z₂ = z.2 in omega arith) o.which in
          let hi : X d q ≤ u.cross = ⊎_elim (λ z. let z₀ = z.0 in omega arith) (λ z. let z₂ = z.2 in omega arith) u.which in
          by e f o.cross o.along u.cross u.along o.is u.is (λ z. ⊎_elim (λ g. omega arith) (λ g. absurd (omega arith)) b))
