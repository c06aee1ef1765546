-- What a root's list reads back as: read-back, ready.
-- Assumes nothing.
use Rattle.std.specs.Prelude.{Ok, Result}
use mathlib.Core.List.{List, [], ◌∷◌, ◌++◌, Memᴰ}
use mathlib.Core.Path.{◌≡◌, refl, sym, ap, ap₂, ◌∙◌}
use Prim.Native.Nat.{ℕ, zero, suc, ◌+◌, ◌*◌, ◌/◌, ◌≤◌, ◌<◌}
use native.Mathlib.Nat.{zero-add, le_of_suc-le-suc, not-suc-le-zero}
use native.Mathlib.Omega.{arith}
use lib.ListN.{length, get_or, take, get_or-append}
use lib.Pow.{pow_pos}
use lib.Seq.{sets-eq, length-sets, take-suc, take_all}
use Rattle.def.specs.declared.Refusal.{Refusal}
use Rattle.laws.specs.Orders.{each}
use Rattle.split.specs.Picture.{root_bytes, root_x, root_y, root_walk, root_leaves}
use Rattle.split.specs.Stored.{leaf_numbers, Stored, leaves_from, Ready}
use Rattle.split.specs.Walk.{Leaf, leaf as leaf'}
use Rattle.split.proofs.Stores.{stored_done, thrice}
use Rattle.split.proofs.Tiling.{sound}
use Rattle.split.proofs.Walks.{few_leaves}

none : Leaf
none = leaf' 0 0 0

mem_at : (l : List Leaf) (j : ℕ) → j < length l → Memᴰ (get_or l j none) l
mem_at [] j h = absurd (not-suc-le-zero h)
mem_at (p ∷ l) zero h = Memᴰ.head refl
mem_at (p ∷ l) (suc j) h = Memᴰ.tail (mem_at l j (le_of_suc-le-suc h))

record Reads (p : Leaf) (x y side : ℕ) : Type 0 where
  column : x ≡ 4 * p.x
  row : y ≡ 4 * p.y
  units : side ≡ 4 * p.side

-- the three numbers of leaf j
numbers_at : (l : List Leaf) (j : ℕ) → j < length l → let vs = each leaf_numbers l in Reads (get_or l j none) (get_or vs (3 * j) 0) (get_or vs (3 * j + 1) 0) (get_or vs (3 * j + 2) 0)
unfolding each
numbers_at [] j h = absurd (not-suc-le-zero h)
numbers_at (p ∷ l) zero h = record { column = refl; row = refl; units = refl }
numbers_at (p ∷ l) (suc j) h =
    let i = numbers_at l j (le_of_suc-le-suc h) in
    let a : 3 * suc j ≡ suc (suc (suc (3 * j))) = omega arith in
    let b : suc (suc (suc (3 * j))) + 1 ≡ suc (suc (suc (3 * j + 1))) = omega arith in
    let c : suc (suc (suc (3 * j))) + 2 ≡ suc (suc (suc (3 * j + 2))) = omega arith in
    rw (a, b, c) i

module _ (s : List ℕ) (w h i : ℕ) (done : (root_walk s w h i).answer ≡ Ok tt) {out list : List ℕ} {r : Result ℕ Refusal} (z : Stored (root_walk s w h i) out 0 list r) (long : length out ≡ 768)
    (n : ℕ) (e : r ≡ Ok n) where
  abbrev l : List Leaf
  l = root_leaves s w h i

  count : n ≡ length l
  count = (stored_done z n e).1 ∙ zero-add (length l)

  few : length l ≤ 256
  few = (few_leaves (root_bytes s i) w h 4 _ _).few

  number : (k : ℕ) → k < 3 * length l → get_or list k 0 ≡ get_or (each leaf_numbers l) k 0
  number k g =
      let t = thrice l in
      ap (λ (v : List ℕ). get_or v k 0) (z.stored ∙ sets-eq (each leaf_numbers l) out 0 (omega (arith, few))) ∙ get_or-append (each leaf_numbers l) _ 0 k (omega arith)

  reads : (j : ℕ) → j < length l → Reads (get_or l j none) (get_or list (3 * j) 0) (get_or list (3 * j + 1) 0) (get_or list (3 * j + 2) 0)
  reads j g = rw (number (3 * j) (omega arith), number (3 * j + 1) (omega arith), number (3 * j + 2) (omega arith)) (numbers_at l j g)

  up_to : (m : ℕ) → m ≤ length l → leaves_from list m ≡ take m l
  unfolding leaves_from
  up_to zero g = refl
  up_to (suc m) g =
      let q = reads m g in
      let a : get_or list (3 * m) 0 / 4 ≡ (get_or l m none).x = omega (arith, q.column) in
      let b : get_or list (3 * m + 1) 0 / 4 ≡ (get_or l m none).y = omega (arith, q.row) in
      let c : get_or list (3 * m + 2) 0 / 4 ≡ (get_or l m none).side = omega (arith, q.units) in
      sym (take-suc l m none g ∙ ap₂ (λ (k : List Leaf) (p : Leaf). k ++ (p ∷ [])) (sym (up_to m (omega arith))) (sym (λ t. leaf' (a t) (b t) (c t))))

  pub read_back : leaves_from list n ≡ l
  read_back = up_to n (omega (arith, count)) ∙ take_all n l (omega (arith, count))

  pub ready : w ≤ 1024 → h ≤ 1024 → Ready list n
  ready wide high = record {
    long = omega (arith, count, few, ap length z.stored ∙ length-sets out 0 (each leaf_numbers l));
    leaves = λ j g.
        let g' : j < length l = omega (arith, count) in
        let q = reads j g' in
        let p = get_or l j none in
        let d = sound (root_bytes s i) w h 4 (root_x w i) (root_y w i) done p (mem_at l j g') in
        let one : 1 ≤ p.side = rw d.power (pow_pos d.log) in
        rw (q.column, q.row, q.units)
        (record {
          column = omega arith;
          row = omega arith;
          units = omega arith;
          some = omega arith;
          right = omega (arith, d.columns);
          bottom = omega (arith, d.rows);
        });
  }
