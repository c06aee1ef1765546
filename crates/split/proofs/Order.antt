-- The edges of the walk stand in the paper's order, which is strict: there is one list of these edges that stands in it.
-- Assumes nothing.
use Rattle.std.specs.Prelude.{Ok}
use mathlib.Core.Bool.{Bool, true, false, ◌&&◌}
use mathlib.Core.Logic.{◌⊎◌, inl, inr, ⊎_elim}
use mathlib.Core.List.{List, [], Memᴰ}
use mathlib.Core.Path.{◌≡◌, refl, sym, ap, ◌∙◌}
use Prim.Native.Nat.{ℕ, zero, suc, ◌+◌, ◌/◌, ◌%◌, ◌≤◌, ◌<◌}
use native.Mathlib.Omega.{arith}
use borrow.Author.Tests.{eqb-true}
use lib.Dec.{ltb, eqb}
use Rattle.laws.specs.Index.{pick}
use Rattle.laws.specs.Orders.{Pairwise, each}
use Rattle.laws.proofs.Orders.{pairwise_append, pairwise_imp, pairwise_both, pairwise_each}
use Rattle.rank.specs.Ranks.{rank, spread}
use Rattle.split.specs.Edges.{Pass, vertical, horizontal, Edge, edge_at, stretch}
use Rattle.split.specs.Order.{Sooner, InOrder, first_unit}
use Rattle.split.specs.Picture.{roots, root_walk, all_leaves}
use Rattle.split.specs.Rows.{home_of, along_of}
use Rattle.split.specs.Walk.{Leaf}
use Rattle.split.proofs.Places.{Before, tiled_v, tiled_h, leaves_sooner}
use Rattle.split.proofs.Sides.{X, Y, Tiled, leaf_edges, leaf_mem, stretch_mem, pick_mem, and-true}

-- how far a half's first unit stands from its leaf's
abbrev Offset : Leaf → ℕ → Type 0
Offset p i = (i ≡ 0) ⊎ ((p.side ≡ 16) × (i ≡ 8))

-- S orders the first units of two leaves or halves, told across and along; R orders edges: by S, and those of one first unit along
module _ (d : Pass) (home : ℕ → ℕ → Leaf) (m n : ℕ) (l : List Leaf) (t : Tiled d home m n l) (halved : Bool)
    (S : ℕ → ℕ → ℕ → ℕ → Type 0)
    (own : (p : Leaf) → Memᴰ p l → p.side ≡ 16 → S (X d p) (Y d p) (X d p + 8) (Y d p))
    (far : Pairwise (λ p q. (i j : ℕ) → Offset p i → Offset q j → S (X d p + i) (Y d p) (X d q + j) (Y d q)) l)
    (R : Edge → Edge → Type 0)
    (later : (c a c' a' : ℕ) → S c (Y d (home c a)) c' (Y d (home c' a')) → R (edge_at d c a) (edge_at d c' a'))
    (along : (c a a' : ℕ) → Y d (home c a) ≡ Y d (home c a') → a < a' → R (edge_at d c a) (edge_at d c a')) where
  -- the leaf of a unit at one of its edges
  here : (p : Leaf) → Memᴰ p l → (i a : ℕ) → Offset p i → Y d p ≤ a → a < Y d p + p.side → home (X d p + i) a ≡ p
  here p x i a o top bottom =
      let k = t.known p x in
      t.found p (X d p + i) a x (⊎_elim (λ z. record { left = omega arith; right = omega arith; top = top; bottom = bottom })
      (λ z. let z₀ = z.0 in let z₁ = z.1 in record { left = omega arith; right = omega arith; top = top; bottom = bottom }) o)

  -- an edge of a leaf: where its first unit stands
  record First (p : Leaf) (e : Edge) : Type 0 where
    offset : ℕ
    place : ℕ
    small : Offset p offset
    is : e ≡ edge_at d (X d p + offset) place
    at_home : home (X d p + offset) place ≡ p

  first : (p : Leaf) → Memᴰ p l → (e : Edge) → Memᴰ e (leaf_edges d halved p) → First p e
  first p x e i =
      let o = leaf_mem d halved p e i in
      ⊎_elim (λ z. let z₀ = z.0 in let q : o.cross ≡ X d p + 0 = omega arith in
      record { offset = 0; place = o.along; small = inl refl; is = o.is ∙ ap (λ (c : ℕ). edge_at d c o.along) q; at_home = here p x 0 o.along (inl refl) o.top o.bottom })
      (λ z. let s : Offset p 8 = inr (z.1, refl) in
      record { offset = 8; place = o.along; small = s; is = o.is ∙ ap (λ (c : ℕ). edge_at d c o.along) z.2; at_home = here p x 8 o.along s o.top o.bottom })
      o.which

  by_first : (p q : Leaf) (e f : Edge) (i : First p e) (j : First q f) → S (X d p + i.offset) (Y d p) (X d q + j.offset) (Y d q) → R e f
  by_first p q e f i j s =
      let i₀ = i.at_home in
      let j₀ = j.at_home in
      rw (i.is, j.is) (later (X d p + i.offset) i.place (X d q + j.offset) j.place (rw (i₀, j₀) s))

  -- along a stretch of one leaf's units
  stretch_order : (p : Leaf) (c a n : ℕ) → ((k : ℕ) → a ≤ k → k < a + n → home c k ≡ p) → Pairwise R (stretch d c a n)
  unfolding stretch
  stretch_order p c a zero g = tt
  stretch_order p c a (suc n) g = (
    λ f i. let o = stretch_mem d c (suc a) n f i in
        let o₀ = o.from in
        let o₁ = o.to in
        let e : Y d (home c a) ≡ Y d (home c o.place) = ap (Y d) (g a (omega arith) (omega arith) ∙ sym (g o.place (omega arith) (omega arith))) in
        rw o.is (along c a o.place e (omega arith)),
    stretch_order p c (suc a) n (λ k y z. g k (omega arith) (omega arith)),
  )

  pick_order : (b : Bool) (k : List Edge) → (b ≡ true → Pairwise R k) → Pairwise R (pick b k [])
  pick_order true k p = p refl
  pick_order false k p = tt

  leaf_order : (p : Leaf) → Memᴰ p l → Pairwise R (leaf_edges d halved p)
  unfolding leaf_edges
  leaf_order p x =
      let b = ltb 0 (X d p) in
      let u = halved && eqb p.side 16 in
      let j = stretch d (X d p) (Y d p) p.side in
      let k = stretch d (X d p + 8) (Y d p) 16 in
      let whole : u ≡ true → p.side ≡ 16 = λ z. eqb-true p.side 16 (and-true halved (eqb p.side 16) z).1 in
      let at₀ : (a : ℕ) → Y d p ≤ a → a < Y d p + p.side → home (X d p) a ≡ p =
      λ a y z. let k = t.known p x in t.found p (X d p) a x (record { left = omega arith; right = omega arith; top = y; bottom = z }) in
      let at₈ : p.side ≡ 16 → (a : ℕ) → Y d p ≤ a → a < Y d p + 16 → home (X d p + 8) a ≡ p = λ v a y z. here p x 8 a (inr (v, refl)) y (omega arith) in
      pairwise_append R (pick b j []) (pick u k [])
      (pick_order b j (λ v. stretch_order p (X d p) (Y d p) p.side at₀))
      (pick_order u k (λ v. stretch_order p (X d p + 8) (Y d p) 16 (at₈ (whole v))))
      (λ e f y z.
      let o = stretch_mem d (X d p) (Y d p) p.side e (pick_mem d b j y).1 in
      let r = pick_mem d u k z in
      let q = stretch_mem d (X d p + 8) (Y d p) 16 f r.1 in
      let v = whole r.0 in
      let g₀ = at₀ o.place o.from o.to in
      let g₈ = at₈ v q.place q.from q.to in
      rw (o.is, q.is) (later (X d p) o.place (X d p + 8) q.place (rw (g₀, g₈) (own p x v))))

  in_order : Pairwise R (each (leaf_edges d halved) l)
  in_order = pairwise_each (leaf_edges d halved) R _ l far leaf_order
      (λ p q e f x y s i j. let a = first p x e i in let b = first q y f j in by_first p q e f a b (s a.offset b.offset a.small b.small))

-- ---- the parts of two leaves, the first sooner than the second

-- where a part of a leaf starts: with the leaf, or in a leaf of a whole root
record Part (p : Leaf) (i k : ℕ) : Type 0 where
  whole : p.side ≡ 16 → (p.x % 16 ≡ 0) × (p.y % 16 ≡ 0)
  which : ((i ≡ 0) × (k ≡ 0)) ⊎ ((p.side ≡ 16) × (i ≤ 8) × (k ≤ 8))

-- a part starts in its leaf's root
in_root_lem : (p : Leaf) (i k : ℕ) → Part p i k → ((p.x + i) / 16 ≡ p.x / 16) × ((p.y + k) / 16 ≡ p.y / 16)
in_root_lem p i k d = ⊎_elim (λ z. let z₀ = z.0 in let z₁ = z.1 in (omega arith, omega arith))
    (λ z. let z₁ = z.1 in let z₂ = z.2 in let o = d.whole z.0 in let o₀ = o.0 in let o₁ = o.1 in (omega arith, omega arith)) d.which

zero_rank : rank 0 0 ≡ 0
unfolding spread
zero_rank = refl

sooner_parts : (p q : Leaf) (i k j n : ℕ) → Part p i k → Part q j n → Before p q → Sooner p.x p.y q.x q.y → Sooner (p.x + i) (p.y + k) (q.x + j) (q.y + n)
sooner_parts p q i k j n d g b s =
    let e = in_root_lem p i k d in
    let f = in_root_lem q j n g in
    let e₀ = e.0 in
    let e₁ = e.1 in
    let f₀ = f.0 in
    let f₁ = f.1 in
    ⊎_elim (λ y. inl (omega arith)) (⊎_elim (λ y. let y₀ = y.0 in let y₁ = y.1 in inr (inl (omega arith, omega arith)))
    (λ y. let y₀ = y.0 in let y₁ = y.1 in
    ⊎_elim (λ z. ⊎_elim (λ x.
    let a : p.x + i ≡ p.x = omega (arith, z.0) in
    let a' : p.y + k ≡ p.y = omega (arith, z.1) in
    let c : q.x + j ≡ q.x = omega (arith, x.0) in
    let c' : q.y + n ≡ q.y = omega (arith, x.1) in
    inr (inr (omega arith, omega arith, rw (a, a', c, c') y.2)))
    (λ x. let o = g.whole x.0 in let r : rank (q.x % 16) (q.y % 16) ≡ 0 = rw (o.0, o.1) zero_rank in absurd (omega (arith, y.2))) g.which)
    (λ z. let z₀ = z.0 in let o = d.whole z₀ in let o₀ = o.0 in let o₁ = o.1 in absurd (⊎_elim (λ v. omega arith) (λ v. omega arith) b)) d.which)) s

halves_rise : (rank 0 0 < rank 8 0) × (rank 0 0 < rank 0 8)
unfolding spread
halves_rise = (omega arith, omega arith)

-- ---- the order is strict

strict : (x y u v : ℕ) → Sooner x y u v → Sooner u v x y → ⊥
strict x y u v = ⊎_elim (λ a. ⊎_elim (λ b. omega arith) (⊎_elim (λ b. omega (arith, b.0)) (λ b. omega (arith, b.0))))
    (⊎_elim (λ a. ⊎_elim (λ b. omega (arith, a.0)) (⊎_elim (λ b. omega (arith, a.1, b.1)) (λ b. omega (arith, a.1, b.1))))
    (λ a. ⊎_elim (λ b. omega (arith, a.0)) (⊎_elim (λ b. omega (arith, a.1, b.1)) (λ b. omega (arith, a.2, b.2)))))

strict_self : (x y u v : ℕ) → u ≡ x → v ≡ y → Sooner x y u v → ⊥
strict_self x y u v p q s = let z : Sooner x y x y = rw (p, q) at s in strict x y x y z z

-- sooner, or of one first unit and before along the edge: no two stand so both ways
strict_pair : (x y m u v n : ℕ) → Sooner x y u v ⊎ ((x ≡ u) × (y ≡ v) × (m < n)) → Sooner u v x y ⊎ ((u ≡ x) × (v ≡ y) × (n < m)) → ⊥
strict_pair x y m u v n =
    ⊎_elim (λ a. ⊎_elim (λ b. strict x y u v a b) (λ b. strict_self x y u v b.0 b.1 a))
    (λ a. ⊎_elim (λ b. strict_self u v x y a.0 a.1 b) (λ b. omega (arith, a.2, b.2)))

pub strict_order : (d : Pass) (s : List ℕ) (w : ℕ) (e f : Edge) → InOrder d s w e f → InOrder d s w f e → ⊥
strict_order d s w e f =
    let p = first_unit d s w e in
    let q = first_unit d s w f in
    strict_pair p.x p.y (along_of d e) q.x q.y (along_of d f)

-- ---- a picture's edges

module _ (halved : Bool) (s : List ℕ) (w h : ℕ) (pos : 1 ≤ w) (fine : (i : ℕ) → i < roots w h → (root_walk s w h i).answer ≡ Ok tt) where
  abbrev tv : Tiled vertical (home_of vertical s w) w h (all_leaves s w h)
  tv = tiled_v s w h pos fine

  abbrev th : Tiled horizontal (home_of horizontal s w) h w (all_leaves s w h)
  th = tiled_h s w h pos fine

  stands : (p : Leaf) → Memᴰ p (all_leaves s w h) → p.side ≡ 16 → (p.x % 16 ≡ 0) × (p.y % 16 ≡ 0)
  stands p m e = ((tv.known p m).whole e, (th.known p m).whole e)

  offsets : Pairwise (λ p q. (i k j n : ℕ) → Part p i k → Part q j n → Sooner (p.x + i) (p.y + k) (q.x + j) (q.y + n)) (all_leaves s w h)
  offsets = pairwise_imp (all_leaves s w h) (λ p q m n g i k j r a b. sooner_parts p q i k j r a b g.0 g.1)
      (pairwise_both Before (λ p q. Sooner p.x p.y q.x q.y) (all_leaves s w h) tv.order (leaves_sooner s w h pos fine))

  -- a half's first unit, in either direction, is a part of its leaf
  part_x_lem : (p : Leaf) → Memᴰ p (all_leaves s w h) → (i : ℕ) → Offset p i → Part p i 0
  part_x_lem p m i a = record { whole = stands p m; which = ⊎_elim (λ z. inl (z, refl)) (λ z. let z₁ = z.1 in inr (z.0, omega arith, omega arith)) a }

  part_y_lem : (p : Leaf) → Memᴰ p (all_leaves s w h) → (i : ℕ) → Offset p i → Part p 0 i
  part_y_lem p m i a = record { whole = stands p m; which = ⊎_elim (λ z. inl (refl, z)) (λ z. let z₁ = z.1 in inr (z.0, omega arith, omega arith)) a }

  pub leaves_in_order : (d : Pass) → Pairwise (InOrder d s w) (each (leaf_edges d halved) (all_leaves s w h))
  leaves_in_order vertical = in_order vertical (home_of vertical s w) w h (all_leaves s w h) tv halved Sooner
      (λ p m e. let o = stands p m e in let o₀ = o.0 in let o₁ = o.1 in
      let x : (p.x + 8) % 16 ≡ 8 = omega arith in
      inr (inr (refl, omega arith, rw (x, o₀, o₁) halves_rise.0)))
      (pairwise_imp (all_leaves s w h) (λ p q m n g i j a b.
      let y₀ : p.y + 0 ≡ p.y = omega arith in
      let y₁ : q.y + 0 ≡ q.y = omega arith in
      rw (y₀, y₁) at (g i 0 j 0 (part_x_lem p m i a) (part_x_lem q n j b))) offsets)
      (InOrder vertical s w) (λ c a c' a' g. inl g) (λ c a a' e g. inr (refl, e, g))
  leaves_in_order horizontal = in_order horizontal (home_of horizontal s w) h w (all_leaves s w h) th halved (λ c a c' a'. Sooner a c a' c')
      (λ p m e. let o = stands p m e in let o₀ = o.0 in let o₁ = o.1 in
      let x : (p.y + 8) % 16 ≡ 8 = omega arith in
      inr (inr (omega arith, refl, rw (x, o₀, o₁) halves_rise.1)))
      (pairwise_imp (all_leaves s w h) (λ p q m n g i j a b.
      let y₀ : p.x + 0 ≡ p.x = omega arith in
      let y₁ : q.x + 0 ≡ q.x = omega arith in
      rw (y₀, y₁) at (g 0 i 0 j (part_y_lem p m i a) (part_y_lem q n j b))) offsets)
      (InOrder horizontal s w) (λ c a c' a' g. inl g) (λ c a a' e g. inr (e, refl, g))
