-- A root's leaves, a number each, stand for its list.
--     from_0, from_1, from_2    the list's numbers
--     packed_more    a leaf more
--     listed_packed    of an accepted picture
-- Assumes nothing.
use Prim.Native.Nat.{ℕ, zero, suc, ◌+◌, ◌*◌, ◌/◌, ◌%◌, ◌≤◌, ◌<◌}
use mathlib.Core.Path.{◌≡◌, refl, ap, ◌∙◌, subst}
use mathlib.Core.List.{List, ◌∷◌, [], ◌++◌, Memᴰ}
use native.Mathlib.Omega.{arith}
use lib.ListN.{length, get_or, set, length-set}
use lib.Seq.{get_or-set_same, get_or-set_other}
use native.Mathlib.Decide.{dec_lt}
use Rattle.laws.proofs.Tabulate.{length_tabulate, get_d_tabulate}
use Rattle.def.specs.Picture.{roots_along, root_count}
use Rattle.def.proofs.Blocks.{blocked}
use Rattle.def.proofs.Sizes.{Sized, sized}
use Rattle.nbr.proofs.Sides.{four}
use Rattle.split.specs.Picture.{roots, root_walk}
use Rattle.split.specs.Stored.{leaf_from, leaves_from}
use Rattle.split.proofs.Callers.{from_in}
use Rattle.split.proofs.Places.{sound_at}
use Rattle.split.proofs.Roots.{across_units, roots_units, some_wide}
use Rattle.split.proofs.Walks.{each_done}
use Rattle.driver_rules.specs.Asked.{Accepted, Listed}
use Rattle.driver.specs.Packed.{packed_leaf, place_from, unpacked, Packed}

-- ---- the numbers

module _ (x y : ℕ) (p : List ℕ) (j : ℕ) (h : j < 256) where
  place : (k : ℕ) → k < 3 → get_or (unpacked x y p) (3 * j + k) 0 ≡ place_from x y (get_or p j 0) k
  place k q =
      let a : (3 * j + k) / 3 ≡ j = omega arith in
      let b : (3 * j + k) % 3 ≡ k = omega arith in
      get_d_tabulate (λ (k : ℕ). place_from x y (get_or p (k / 3) 0) (k % 3)) 768 (3 * j + k) 0 (omega arith) ∙ rw (a, b)

  pub from_0 : get_or (unpacked x y p) (3 * j) 0 ≡ x + 4 * (get_or p j 0 % 16)
  from_0 = let e : 3 * j ≡ 3 * j + 0 = omega arith in ap (λ (k : ℕ). get_or (unpacked x y p) k 0) e ∙ place 0 (omega arith)

  pub from_1 : get_or (unpacked x y p) (3 * j + 1) 0 ≡ y + 4 * (get_or p j 0 / 16 % 16)
  from_1 = place 1 (omega arith)

  pub from_2 : get_or (unpacked x y p) (3 * j + 2) 0 ≡ 4 * (get_or p j 0 / 256)
  from_2 = place 2 (omega arith)

-- back again: a leaf that stands in the root at (X, Y)
column_back : (X x y side : ℕ) → X % 64 ≡ 0 → X ≤ x → x < X + 64 → x % 4 ≡ 0 → X + 4 * (packed_leaf x y side % 16) ≡ x
column_back X x y side a b c d = omega arith

row_back : (Y x y side : ℕ) → Y % 64 ≡ 0 → Y ≤ y → y < Y + 64 → y % 4 ≡ 0 → Y + 4 * (packed_leaf x y side / 16 % 16) ≡ y
row_back Y x y side a b c d = omega arith

side_back : (x y side : ℕ) → side % 4 ≡ 0 → 4 * (packed_leaf x y side / 256) ≡ side
side_back x y side a = omega arith

-- ---- one leaf more

pub packed_none : (list p : List ℕ) → length p ≡ 256 → Packed list 0 p
packed_none list p e = record { long = e; each = λ j h. absurd (omega (arith, h)) }

pub packed_more : (list p : List ℕ) (n m : ℕ) → n < 256 → m ≡ packed_leaf (get_or list (3 * n) 0) (get_or list (3 * n + 1) 0) (get_or list (3 * n + 2) 0) → Packed list n p → Packed list (n + 1) (set p n m)
packed_more list p n m h e k = record { long = length-set p n m ∙ k.long; each = λ j q. go j q (dec_lt j n) } where
  go : (j : ℕ) → j < n + 1 → Dec (j < n) → get_or (set p n m) j 0 ≡ packed_leaf (get_or list (3 * j) 0) (get_or list (3 * j + 1) 0) (get_or list (3 * j + 2) 0)
  go j q (yes r) = get_or-set_other p n j m 0 (λ s. omega (arith, s)) ∙ k.each j r
  go j q (no r) = let s : j ≡ n = omega arith in rw s (get_or-set_same p n m 0 (omega (arith, h, k.long)) ∙ e)

-- ---- the leaves of a root

leaves_as : (l m : List ℕ) (n : ℕ) → ((j : ℕ) → j < n → leaf_from l j ≡ leaf_from m j) → leaves_from l n ≡ leaves_from m n
unfolding leaves_from
leaves_as l m zero e = refl
leaves_as l m (suc n) e =
    let rest = leaves_as l m n (λ j h. e j (omega (arith, h))) in
    let one = e n (omega arith) in
    (λ k. rest k ++ (one k ∷ []))

module _ {w h : ℕ} {s : List ℕ} {i : ℕ} {list p : List ℕ} {n : ℕ} (a : Accepted w h s) (early : i < root_count w h) (t : Listed w h s i list n) (k : Packed list n p) where
  abbrev X : ℕ
  X = 64 * (i % roots_along w)

  abbrev Y : ℕ
  Y = 64 * (i / roots_along w)

  size : Sized w h
  size = sized w h a.size

  -- leaf j stands in the root
  pub record Stood (j : ℕ) : Type 0 where
    pub x : get_or (unpacked X Y p) (3 * j) 0 ≡ get_or list (3 * j) 0
    pub y : get_or (unpacked X Y p) (3 * j + 1) 0 ≡ get_or list (3 * j + 1) 0
    pub side : get_or (unpacked X Y p) (3 * j + 2) 0 ≡ get_or list (3 * j + 2) 0

  stood : (j : ℕ) → j < n → Stood j
  stood j q =
      let fine = each_done (root_walk s (w / 4) (h / 4)) (roots (w / 4) (h / 4)) a.walked in
      let mem = subst (Memᴰ (leaf_from list j)) t.same (from_in list n j q) in
      let f = sound_at s (w / 4) (h / 4) (some_wide size) fine i (omega (arith, early, roots_units size)) (leaf_from list j) mem in
      let b = blocked w h _ _ _ (t.blocks.blocks j q) in
      let across = across_units size in
      let left : 16 * (i % roots_along w) ≤ get_or list (3 * j) 0 / 4 = rw (← across) f.left in
      let right : get_or list (3 * j) 0 / 4 + get_or list (3 * j + 2) 0 / 4 ≤ 16 * (i % roots_along w) + 16 = rw (← across) f.right in
      let top : 16 * (i / roots_along w) ≤ get_or list (3 * j + 1) 0 / 4 = rw (← across) f.top in
      let bottom : get_or list (3 * j + 1) 0 / 4 + get_or list (3 * j + 2) 0 / 4 ≤ 16 * (i / roots_along w) + 16 = rw (← across) f.bottom in
      let m = k.each j q in
      let few : j < 256 = omega (arith, q, t.blocks.few) in
      let x₀ = get_or list (3 * j) 0 in
      let y₀ = get_or list (3 * j + 1) 0 in
      let s₀ = get_or list (3 * j + 2) 0 in
      record {
        x = from_0 X Y p j few ∙ ap (λ (number : ℕ). X + 4 * (number % 16)) m
            ∙ column_back X x₀ y₀ s₀ (omega arith) (omega (arith, left)) (omega (arith, right, b.least, b.by_four)) (four _ _ b.side_ok b.column);
        y = from_1 X Y p j few ∙ ap (λ (number : ℕ). Y + 4 * (number / 16 % 16)) m
            ∙ row_back Y x₀ y₀ s₀ (omega arith) (omega (arith, top)) (omega (arith, bottom, b.least, b.by_four)) (four _ _ b.side_ok b.row);
        side = from_2 X Y p j few ∙ ap (λ (number : ℕ). 4 * (number / 256)) m ∙ side_back x₀ y₀ s₀ b.by_four;
      }

  pub listed_packed : Listed w h s i (unpacked X Y p) n
  listed_packed =
      record {
        same = leaves_as (unpacked X Y p) list n (λ j q. let e = stood j q in rw (e.x, e.y, e.side)) ∙ t.same;
        blocks =
            record {
              long = length_tabulate (λ (k : ℕ). place_from X Y (get_or p (k / 3) 0) (k % 3)) 768;
              few = t.blocks.few;
              blocks = λ j q. let e = stood j q in rw (e.x, e.y, e.side) (t.blocks.blocks j q);
            };
      }
