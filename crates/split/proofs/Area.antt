-- How many units the leaves have: of a block that is walked and not refused, as many as the block has in the picture; of all roots, all.
-- So a pass's edges, at most one for each unit, fit a buffer of two numbers a unit.
-- Assumes nothing.
use Rattle.std.specs.Prelude.{Ok}
use mathlib.Core.Bool.{Bool, true, false, ◌&&◌}
use mathlib.Core.Logic.{⊎_elim}
use mathlib.Core.List.{List, [], ◌∷◌, ◌++◌, Memᴰ}
use mathlib.Core.Path.{◌≡◌, refl, sym, ap, ap₂, ◌∙◌}
use Prim.Native.Nat.{ℕ, zero, suc, ◌+◌, ◌-◌, ◌*◌, ◌/◌, ◌%◌, ◌^◌, min, ◌≤◌, ◌<◌, zero-le}
use native.Mathlib.Nat.{two-pow-succ, mul-add, add-mul, mul-zero, zero-mul, div-add-mod', mod-lt, one-mul, zero-div, zero-mod, mul_comm, add-zero, mul-one, mul-le-mul_left}
use native.Mathlib.Omega.{arith}
use borrow.Author.Tests.{ltb-true, ltb-false, eqb-true}
use lib.Arith.{digits_div, digits_mod}
use lib.Dec.{ltb, eqb}
use lib.ListN.{length, length-append}
use Rattle.laws.specs.Index.{pick}
use Rattle.laws.specs.Orders.{each}
use Rattle.split.specs.Edges.{Pass, Edge, stretch, edge_list}
use Rattle.split.specs.Picture.{across, roots, root_bytes, root_x, root_y, root_walk, root_leaves, leaves_of, all_leaves}
use Rattle.split.specs.Stored.{area}
use Rattle.split.specs.Walk.{Leaf, walk}
use Rattle.split.proofs.Induct.{Cases, walk_ind, test}
use Rattle.split.proofs.Passes.{by_leaves}
use Rattle.split.proofs.Places.{known}
use Rattle.split.proofs.Sides.{X, Y, leaf_edges, and-true}

pub area_append : (l m : List Leaf) → area (l ++ m) ≡ area l + area m
area_append [] m = omega arith
area_append (p ∷ l) m = let i = area_append l m in omega arith

-- ---- of a block

module _ (s : List ℕ) (w h : ℕ) where
  abbrev Areas : ℕ → ℕ → ℕ → List Leaf → Type 0
  Areas k x y l = area l ≡ min (2 ^ k) (w - x) * min (2 ^ k) (h - y)

  of_leaf : (n x y : ℕ) → x + n ≤ w → y + n ≤ h → n * n + 0 ≡ min n (w - x) * min n (h - y)
  of_leaf n x y f g =
      let e : min n (w - x) ≡ n = omega arith in
      let d : min n (h - y) ≡ n = omega arith in
      rw (e, d) (omega arith)

  joined : (m n₀ n₁ n₂ n₃ a b d e : ℕ) → m ≡ n₀ + (n₁ + (n₂ + n₃)) → n₀ ≡ a * d → n₁ ≡ b * d → n₂ ≡ a * e → n₃ ≡ b * e → m ≡ (a + b) * (d + e)
  joined m n₀ n₁ n₂ n₃ a b d e t p q u v = omega arith

  halved : (n k d x : ℕ) → n ≡ k + k → min n (d - x) ≡ min k (d - x) + min k (d - (x + k))
  halved n k d x e = omega arith

  all_four : (l₀ l₁ l₂ l₃ : List Leaf) → area (l₀ ++ (l₁ ++ (l₂ ++ l₃))) ≡ area l₀ + (area l₁ + (area l₂ + area l₃))
  all_four l₀ l₁ l₂ l₃ = omega (arith, area_append l₀ (l₁ ++ (l₂ ++ l₃)), area_append l₁ (l₂ ++ l₃), area_append l₂ l₃)

  area_cases : Cases s w h Areas
  area_cases = record {
    skip = λ k x y o. ⊎_elim
        (λ g. let e : min (2 ^ k) (w - x) ≡ 0 = omega arith in rw e (sym (zero-mul _)))
        (λ g. let e : min (2 ^ k) (h - y) ≡ 0 = omega arith in rw e (sym (mul-zero _))) o;
    unit = λ x y f g. of_leaf 1 x y f g;
    whole = λ k x y z f g. of_leaf (2 ^ suc k) x y f g;
    cut = λ k x y l₀ l₁ l₂ l₃ z c₀ c₁ c₂ c₃.
        let n = 2 ^ k in
        let e = two-pow-succ k in
        rw (halved (2 ^ suc k) n w x e, halved (2 ^ suc k) n h y e)
        (joined _ (area l₀) (area l₁) (area l₂) (area l₃) (min n (w - x)) (min n (w - (x + n))) (min n (h - y)) (min n (h - (y + n)))
        (all_four l₀ l₁ l₂ l₃) c₀ c₁ c₂ c₃);
  }

  block_area : (k x y : ℕ) → (walk s w h k x y).answer ≡ Ok tt → area (walk s w h k x y).list ≡ min (2 ^ k) (w - x) * min (2 ^ k) (h - y)
  block_area = walk_ind s w h Areas area_cases

-- ---- the roots, in raster order

next_column : (n m : ℕ) → n % m + 1 < m → (suc n / m ≡ n / m) × (suc n % m ≡ n % m + 1)
next_column n m h =
    let e = div-add-mod' n m in
    let d : suc n ≡ n / m * m + (n % m + 1) = omega arith in
    (ap (λ (k : ℕ). k / m) d ∙ digits_div (n / m) h, ap (λ (k : ℕ). k % m) d ∙ digits_mod (n / m) h)

next_row : (n m : ℕ) → 0 < m → n % m + 1 ≡ m → (suc n / m ≡ n / m + 1) × (suc n % m ≡ 0)
next_row n m pos h =
    let e = div-add-mod' n m in
    let a : (n / m + 1) * m ≡ n / m * m + m = rw add-mul (ap (λ (k : ℕ). n / m * m + k) (one-mul m)) in
    let d : suc n ≡ (n / m + 1) * m + 0 = omega arith in
    (ap (λ (k : ℕ). k / m) d ∙ digits_div (n / m + 1) pos, ap (λ (k : ℕ). k % m) d ∙ digits_mod (n / m + 1) pos)

module _ (s : List ℕ) (w h : ℕ) (pos : 1 ≤ w) where
  -- the units of q rows of roots and of t roots more
  abbrev sofar : ℕ → ℕ → ℕ
  sofar q t = w * min (16 * q) h + min (16 * t) w * min 16 (h - 16 * q)

  wider : (m t : ℕ) → min (16 * (t + 1)) m ≡ min (16 * t) m + min 16 (m - 16 * t)
  wider m t = omega arith

  in_row : (q t : ℕ) → sofar q t + min 16 (w - 16 * t) * min 16 (h - 16 * q) ≡ sofar q (t + 1)
  in_row q t = rw (wider w t, add-mul) (regroup (w * min (16 * q) h) _ _)
    where
      regroup : (a b d : ℕ) → a + b + d ≡ a + (b + d)
      regroup a b d = omega arith

  full : (a b x y z v : ℕ) → w ≡ a + b → v ≡ 0 → w * x + a * y + b * y ≡ w * (x + y) + v * z
  full a b x y z v e k = rw (k, zero-mul, mul-add) (joins (w * x) (a * y) (b * y) (w * y) (ap (λ (m : ℕ). m * y) e ∙ add-mul a b y))
    where
      joins : (m n o p : ℕ) → p ≡ n + o → m + n + o ≡ m + p + 0
      joins m n o p q = omega arith

  to_next : (q t : ℕ) → t + 1 ≡ across w → sofar q t + min 16 (w - 16 * t) * min 16 (h - 16 * q) ≡ sofar (q + 1) 0
  to_next q t e =
      rw (wider h q) (full (min (16 * t) w) (min 16 (w - 16 * t)) (min (16 * q) h) (min 16 (h - 16 * q)) (min 16 (h - 16 * (q + 1))) (min (16 * 0) w) (ends t e) (omega arith))
    where
      ends : (t : ℕ) → t + 1 ≡ across w → w ≡ min (16 * t) w + min 16 (w - 16 * t)
      ends t e = omega arith

  area_of : (n : ℕ) → ((i : ℕ) → i < n → (root_walk s w h i).answer ≡ Ok tt) → area (leaves_of s w h n) ≡ sofar (n / across w) (n % across w)
  unfolding leaves_of
  area_of zero f =
      let m : 0 < across w = omega arith in
      let q : 0 / across w ≡ 0 = zero-div (across w) in
      let t : 0 % across w ≡ 0 = zero-mod (across w) in
      let a : min (16 * 0) h ≡ 0 = omega arith in
      let b : min (16 * 0) w ≡ 0 = omega arith in
      rw (q, t, a, b) (sym (ap₂ ◌+◌ (mul-zero w) (zero-mul (min 16 (h - 0)))))
  area_of (suc n) f =
      let i = area_of n (λ j g. f j (omega arith)) in
      let q = n / across w in
      let t = n % across w in
      let d : area (root_leaves s w h n) ≡ min 16 (w - 16 * t) * min 16 (h - 16 * q) = block_area (root_bytes s n) w h 4 (root_x w n) (root_y w n) (f n (omega arith)) in
      let j = area_append (leaves_of s w h n) (root_leaves s w h n) in
      let l : t < across w = mod-lt n (omega arith) in
      test (ltb (t + 1) (across w))
      (λ g. let e = next_column n (across w) (ltb-true (t + 1) (across w) g) in rw (e.0, e.1) (j ∙ ap₂ ◌+◌ i d ∙ in_row q t))
      (λ g. let g' = ltb-false (t + 1) (across w) g in
      let e = next_row n (across w) (omega arith) (omega arith) in rw (e.0, e.1) (j ∙ ap₂ ◌+◌ i d ∙ to_next q t (omega arith)))

  module _ (fine : (i : ℕ) → i < roots w h → (root_walk s w h i).answer ≡ Ok tt) where
    -- all units of the picture, once
    pub whole_area : area (all_leaves s w h) ≡ w * h
    whole_area =
        let m : 0 < across w = omega arith in
        let d : roots w h ≡ across h * across w + 0 = mul_comm (across w) (across h) ∙ sym (add-zero _) in
        let e : roots w h / across w ≡ across h = ap (λ (k : ℕ). k / across w) d ∙ digits_div (across h) m in
        let g : roots w h % across w ≡ 0 = ap (λ (k : ℕ). k % across w) d ∙ digits_mod (across h) m in
        let z : min (16 * across h) h ≡ h = omega arith in
        let b : min (16 * 0) w ≡ 0 = omega arith in
        area_of (roots w h) fine ∙ rw (e, g, z, b) (ap (λ (k : ℕ). w * h + k) (zero-mul _) ∙ add-zero (w * h))

-- ---- as many edges as units, at most

pub stretch_length : (d : Pass) (c a n : ℕ) → length (stretch d c a n) ≡ n
unfolding stretch
stretch_length d c a zero = refl
stretch_length d c a (suc n) = ap suc (stretch_length d c (suc a) n)

pick_length : (b : Bool) (l : List Edge) → length (pick b l []) ≤ length l
pick_length true l = omega arith
pick_length false l = zero-le

leaf_length : (d : Pass) (halved : Bool) (p : Leaf) → 1 ≤ p.side → length (leaf_edges d halved p) ≤ p.side * p.side
unfolding leaf_edges
leaf_length d halved p one =
    let n = p.side in
    let q : n * 1 ≤ n * n = mul-le-mul_left n one in
    let i = mul-one n in
    let own = stretch d (X d p) (Y d p) n in
    let more = stretch d (X d p + 8) (Y d p) 16 in
    let a = length-append (pick (ltb 0 (X d p)) own []) (pick (halved && eqb n 16) more []) in
    let b = pick_length (ltb 0 (X d p)) own in
    let c = stretch_length d (X d p) (Y d p) n in
    test (halved && eqb n 16)
    (λ t. let e = eqb-true n 16 (and-true halved _ t).1 in
    let s : n * n ≡ 256 = ap (λ (m : ℕ). m * m) e in
    omega (arith, pick_length (halved && eqb n 16) more, stretch_length d (X d p + 8) (Y d p) 16))
    (λ t. let z : length (pick (halved && eqb n 16) more []) ≡ 0 = rw t in omega arith)

pub edges_length : (d : Pass) (halved : Bool) (l : List Leaf) → ((p : Leaf) → Memᴰ p l → 1 ≤ p.side) → length (each (leaf_edges d halved) l) ≤ area l
unfolding each
edges_length d halved [] f = zero-le
edges_length d halved (p ∷ l) f =
    omega (
      arith,
      length-append (leaf_edges d halved p) (each (leaf_edges d halved) l),
      leaf_length d halved p (f p (Memᴰ.head refl)),
      edges_length d halved l (λ q m. f q (Memᴰ.tail m)),
    )

module _ (d : Pass) (halved : Bool) (s : List ℕ) (w h : ℕ) (pos : 1 ≤ w) (fine : (i : ℕ) → i < roots w h → (root_walk s w h i).answer ≡ Ok tt) where
  pub few_edges : length (edge_list d halved s w h) ≤ w * h
  few_edges =
      omega (
        arith,
        ap length (by_leaves d halved s w h),
        whole_area s w h pos fine,
        edges_length d halved (all_leaves s w h) (λ p m. (known s w h pos fine p m).0.some),
      )
