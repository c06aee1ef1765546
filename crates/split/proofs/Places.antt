-- The leaves of a whole picture tile it, and follow each other: of two, the later one stands right of the earlier, or below it.
-- Assumes nothing.
use Rattle.std.specs.Prelude.{Ok}
use mathlib.Core.Logic.{◌⊎◌, inl, inr, ⊎_elim}
use mathlib.Core.List.Memᴰ
use mathlib.Core.List.{List, [], ◌∷◌, ◌++◌, Memᴰ}
use mathlib.Core.Path.{◌≡◌, refl, sym, ap, subst}
use Prim.Native.Nat.{ℕ, zero, suc, ◌+◌, ◌*◌, ◌/◌, ◌%◌, ◌^◌, ◌≤◌, ◌<◌}
use native.Mathlib.Nat.{two-pow-succ, le_refl, div-add-mod'}
use native.Mathlib.Omega.{arith}
use borrow.Author.Tests.{eqb-true, eqb-false}
use lib.Dec.{eqb}
use lib.Pow.{pow_pos}
use Rattle.laws.specs.Orders.{Pairwise}
use Rattle.laws.proofs.Orders.{pairwise_append, pairwise_imp}
use Rattle.split.specs.Edges.{vertical, horizontal}
use Rattle.split.specs.Order.{Sooner}
use Rattle.split.specs.Picture.{across, roots, root_bytes, root_x, root_y, root_walk, root_leaves, leaves_of, all_leaves}
use Rattle.split.specs.Rows.{home_of}
use Rattle.split.specs.Tiling.{Holds, leaf_at, leaf_of}
use Rattle.split.specs.Walk.{Leaf, leaf, walk}
use Rattle.split.proofs.Induct.{Cases, walk_ind, test}
use Rattle.split.proofs.Ranks.{Stands, standing, rising}
use Rattle.split.proofs.Roots.{later_root, root_at}
use Rattle.split.proofs.Sides.{Within, Tiled}
use Rattle.split.proofs.Tiling.{covers, sound, Sound}

abbrev pub Before : Leaf → Leaf → Type 0
Before p q = (p.x + p.side ≤ q.x) ⊎ (p.y + p.side ≤ q.y)

-- ---- the leaves of a block

record Inside (k x y : ℕ) (p : Leaf) : Type 0 where
  left : x ≤ p.x
  right : p.x + p.side ≤ x + 2 ^ k
  top : y ≤ p.y
  bottom : p.y + p.side ≤ y + 2 ^ k

abbrev Follows : ℕ → ℕ → ℕ → List Leaf → Type 0
Follows k x y l = ((p : Leaf) → Memᴰ p l → Inside k x y p) × Pairwise Before l

-- a leaf of a part is one of the block
up : (k x y u v : ℕ) → x ≤ u → u ≤ x + 2 ^ k → y ≤ v → v ≤ y + 2 ^ k → (p : Leaf) → Inside k u v p → Inside (suc k) x y p
up k x y u v a b c d p i = let w = two-pow-succ k in record { left = omega (arith, i.left); right = omega (arith, i.right); top = omega (arith, i.top); bottom = omega (arith, i.bottom) }

follows_cases : (s : List ℕ) (w h : ℕ) → Cases s w h Follows
follows_cases s w h = record {
  skip = λ k x y o. (λ p m. absurd (Memᴰ.not-nil m), tt);
  unit = λ x y f g. (one 0 x y 1 refl, alone (leaf x y 1));
  whole = λ k x y z f g. (one (suc k) x y (2 ^ suc k) refl, alone (leaf x y (2 ^ suc k)));
  cut = λ k x y l₀ l₁ l₂ l₃ z c₀ c₁ c₂ c₃.
      let n = 2 ^ k in (
        λ p m. ⊎_elim (λ i. up k x y x y (omega arith) (omega arith) (omega arith) (omega arith) p (c₀.0 p i))
            (λ m. ⊎_elim (λ i. up k x y (x + n) y (omega arith) (omega arith) (omega arith) (omega arith) p (c₁.0 p i))
            (λ m. ⊎_elim (λ i. up k x y x (y + n) (omega arith) (omega arith) (omega arith) (omega arith) p (c₂.0 p i))
            (λ i. up k x y (x + n) (y + n) (omega arith) (omega arith) (omega arith) (omega arith) p (c₃.0 p i))
            (Memᴰ.append_cases l₂ m)) (Memᴰ.append_cases l₁ m)) (Memᴰ.append_cases l₀ m),
        pairwise_append Before l₀ (l₁ ++ (l₂ ++ l₃)) c₀.1
            (pairwise_append Before l₁ (l₂ ++ l₃) c₁.1
            (pairwise_append Before l₂ l₃ c₂.1 c₃.1 (λ p q i j. inl (omega (arith, (c₂.0 p i).right, (c₃.0 q j).left))))
            (λ p q i j. inr (⊎_elim (λ o. omega (arith, (c₁.0 p i).bottom, (c₂.0 q o).top)) (λ o. omega (arith, (c₁.0 p i).bottom, (c₃.0 q o).top)) (Memᴰ.append_cases l₂ j))))
            (λ p q i j. ⊎_elim (λ o. inl (omega (arith, (c₀.0 p i).right, (c₁.0 q o).left)))
            (λ m. inr (⊎_elim (λ o. omega (arith, (c₀.0 p i).bottom, (c₂.0 q o).top)) (λ o. omega (arith, (c₀.0 p i).bottom, (c₃.0 q o).top)) (Memᴰ.append_cases l₂ m)))
            (Memᴰ.append_cases l₁ j)),
      );
}
  where
    one : (k x y n : ℕ) → n ≡ 2 ^ k → (p : Leaf) → Memᴰ p (leaf x y n ∷ []) → Inside k x y p
    one k x y n e p m = subst (Inside k x y) (sym (Memᴰ.eq_of_singleton m)) (record { left = le_refl x; right = omega arith; top = le_refl y; bottom = omega arith })

    alone : (p : Leaf) → Pairwise Before (p ∷ [])
    alone p = (λ q m. absurd (Memᴰ.not-nil m), tt)

follows : (s : List ℕ) (w h x y : ℕ) → (walk s w h 4 x y).answer ≡ Ok tt → Pairwise Before (walk s w h 4 x y).list
follows s w h x y z = (walk_ind s w h Follows (follows_cases s w h) 4 x y z).1

-- ---- the roots

module _ (s : List ℕ) (w h : ℕ) (pos : 1 ≤ w) where
  pub record Rooted (n : ℕ) (p : Leaf) : Type 0 where
    pub root : ℕ
    pub early : root < n
    pub listed : Memᴰ p (root_leaves s w h root)

  pub leaves_mem : (n : ℕ) (p : Leaf) → Memᴰ p (leaves_of s w h n) → Rooted n p
  unfolding leaves_of
  leaves_mem zero p m = absurd (Memᴰ.not-nil m)
  leaves_mem (suc n) p m =
      ⊎_elim (λ i. let r = leaves_mem n p i in let e = r.early in record { root = r.root; early = omega arith; listed = r.listed })
      (λ i. record { root = n; early = omega arith; listed = i })
      (Memᴰ.append_cases (leaves_of s w h n) m)

  mem_leaves : (n i : ℕ) (p : Leaf) → i < n → Memᴰ p (root_leaves s w h i) → Memᴰ p (leaves_of s w h n)
  unfolding leaves_of
  mem_leaves zero i p l m = absurd (omega arith)
  mem_leaves (suc n) i p l m =
      test (eqb i n)
      (λ t. let e = eqb-true i n t in Memᴰ.append_right (leaves_of s w h n) (subst (λ (j : ℕ). Memᴰ p (root_leaves s w h j)) e m))
      (λ t. let ne = eqb-false i n t in Memᴰ.append_left _ (mem_leaves n i p (omega arith) m))

  module _ (fine : (i : ℕ) → i < roots w h → (root_walk s w h i).answer ≡ Ok tt) where
    pub sound_at : (i : ℕ) → i < roots w h → (p : Leaf) → Memᴰ p (root_leaves s w h i) → Sound (root_bytes s i) w h 4 (root_x w i) (root_y w i) p
    sound_at i l p m = sound (root_bytes s i) w h 4 (root_x w i) (root_y w i) (fine i l) p m

    pub stands_at : (i : ℕ) → i < roots w h → (p : Leaf) → Memᴰ p (root_leaves s w h i) → Stands p
    stands_at i l p m = standing (root_bytes s i) w h (root_x w i) (root_y w i) (omega arith) (omega arith) (fine i l) p m

    -- what holds of two leaves of a root, the first first, and of leaves of two roots, holds of the picture's leaves
    module _ (R : Leaf → Leaf → Type 0) (own : (i : ℕ) → i < roots w h → Pairwise R (root_leaves s w h i))
        (far : (i n : ℕ) → i < n → n < roots w h → (p q : Leaf) → Memᴰ p (root_leaves s w h i) → Memᴰ q (root_leaves s w h n) → R p q) where
      leaves_pairs : (n : ℕ) → n ≤ roots w h → Pairwise R (leaves_of s w h n)
      unfolding leaves_of
      leaves_pairs zero l = tt
      leaves_pairs (suc n) l =
          pairwise_append R (leaves_of s w h n) (root_leaves s w h n) (leaves_pairs n (omega arith)) (own n l)
          (λ p q i j. let r = leaves_mem n p i in far r.root n r.early l p q r.listed j)

    pub leaves_order : Pairwise Before (all_leaves s w h)
    leaves_order = leaves_pairs Before
        (λ i l. follows _ _ _ _ _ (fine i l))
        (λ i n e l p q m k.
        let d = sound_at i (omega arith) p m in
        let f = sound_at n l q k in
        let right = d.right in
        let bottom = d.bottom in
        let left = f.left in
        let top = f.top in
        ⊎_elim (λ g. inr (omega arith)) (λ g. let g₀ = g.0 in let g₁ = g.1 in inl (omega arith)) (later_root i n (across w) (omega arith) e))
        (roots w h) (le_refl _)

    -- a leaf's first unit lies in its root
    home_root : (i : ℕ) → i < roots w h → (p : Leaf) → Memᴰ p (root_leaves s w h i) → (p.x / 16 ≡ i % across w) × (p.y / 16 ≡ i / across w)
    home_root i l p m =
        let d = sound_at i l p m in
        let one : 1 ≤ p.side = rw d.power (pow_pos d.log) in
        let left = d.left in
        let right = d.right in
        let top = d.top in
        let bottom = d.bottom in
        (omega arith, omega arith)

    -- by root, and in a root by the visiting rank
    pub leaves_sooner : Pairwise (λ p q. Sooner p.x p.y q.x q.y) (all_leaves s w h)
    leaves_sooner = leaves_pairs (λ p q. Sooner p.x p.y q.x q.y)
        (λ i l. pairwise_imp (root_leaves s w h i) (λ p q m n g.
        let a = home_root i l p m in
        let b = home_root i l q n in
        let a₀ = a.0 in
        let a₁ = a.1 in
        let b₀ = b.0 in
        let b₁ = b.1 in
        inr (inr (omega arith, omega arith, g))) (rising (root_bytes s i) w h (root_x w i) (root_y w i) (omega arith) (omega arith) (fine i l)))
        (λ i n e l p q m k.
        let a = home_root i (omega arith) p m in
        let b = home_root n l q k in
        let a₀ = a.0 in
        let a₁ = a.1 in
        let b₀ = b.0 in
        let b₁ = b.1 in
        ⊎_elim (λ g. inl (omega arith)) (λ g. let g₀ = g.0 in let g₁ = g.1 in inr (inl (omega arith, omega arith))) (later_root i n (across w) (omega arith) e))
        (roots w h) (le_refl _)

    -- where a leaf of the picture stands
    pub known : (p : Leaf) → Memᴰ p (all_leaves s w h) → Within vertical w h p × Within horizontal h w p
    known p m =
        let r = leaves_mem (roots w h) p m in
        let k = sound_at r.root r.early p r.listed in
        let one : 1 ≤ p.side = rw k.power (pow_pos k.log) in
        let columns = k.columns in
        let rows = k.rows in
        let left = k.left in
        let right = k.right in
        let top = k.top in
        let bottom = k.bottom in (
          record { some = one; right = columns; bottom = rows; whole = λ e. omega arith },
          record { some = one; right = rows; bottom = columns; whole = λ e. omega arith },
        )

    pub found : (p : Leaf) (u v : ℕ) → Memᴰ p (all_leaves s w h) → Holds p u v → leaf_of s w u v ≡ p
    unfolding leaf_of
    found p u v m g =
        let r = leaves_mem (roots w h) p m in
        let i = r.root in
        let k = sound_at i r.early p r.listed in
        let k₀ = k.left in
        let k₁ = k.right in
        let k₂ = k.top in
        let k₃ = k.bottom in
        let g₀ = g.left in
        let g₁ = g.right in
        let g₂ = g.top in
        let g₃ = g.bottom in
        let a : u / 16 ≡ i % across w = omega arith in
        let b : v / 16 ≡ i / across w = omega arith in
        let d : v / 16 * across w + u / 16 ≡ i = rw (a, b) (div-add-mod' i (across w)) in
        rw d (rw (a, b) (k.found u v g))

    pub covered : (u v : ℕ) → u < w → v < h → Memᴰ (leaf_of s w u v) (all_leaves s w h) × Holds (leaf_of s w u v) u v
    unfolding leaf_of
    covered u v gu gv =
        let i = v / 16 * across w + u / 16 in
        let r = root_at w h (u / 16) (v / 16) (omega arith) (omega arith) in
        let a : root_x w i ≡ 16 * (u / 16) = ap (λ (n : ℕ). 16 * n) r.column in
        let b : root_y w i ≡ 16 * (v / 16) = ap (λ (n : ℕ). 16 * n) r.row in
        let c = covers (root_bytes s i) w h 4 (root_x w i) (root_y w i) (fine i r.inside) u v (omega arith) (omega arith) (omega arith) (omega arith) gu gv in
        let same : leaf_at (root_bytes s i) 4 (root_x w i) (root_y w i) u v ≡ leaf_at (root_bytes s i) 4 (16 * (u / 16)) (16 * (v / 16)) u v = rw (a, b) in (
          mem_leaves (roots w h) i _ r.inside (subst (λ (p : Leaf). Memᴰ p (root_leaves s w h i)) same c.0),
          subst (λ (p : Leaf). Holds p u v) same c.1,
        )

    -- in either pass
    pub tiled_v : Tiled vertical (home_of vertical s w) w h (all_leaves s w h)
    tiled_v = record {
      order = leaves_order;
      covers = λ c a f g. let k = covered c a f g in let m = k.1 in (k.0, record { left = m.left; right = m.right; top = m.top; bottom = m.bottom });
      found = λ p c a m g. found p c a m (record { left = g.left; right = g.right; top = g.top; bottom = g.bottom });
      known = λ p m. (known p m).0;
    }

    pub tiled_h : Tiled horizontal (home_of horizontal s w) h w (all_leaves s w h)
    tiled_h = record {
      order = pairwise_imp (all_leaves s w h) (λ p q i j. ⊎_elim inr inl) leaves_order;
      covers = λ c a f g. let k = covered a c g f in let m = k.1 in (k.0, record { left = m.top; right = m.bottom; top = m.left; bottom = m.right });
      found = λ p c a m g. found p a c m (record { left = g.top; right = g.bottom; top = g.left; bottom = g.right });
      known = λ p m. (known p m).1;
    }
