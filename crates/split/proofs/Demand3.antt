-- What is proved of every accepted picture, together; and what the row order of the finished planes needs of the lists.
--     demand_3    the record of specs/Demand3
--     members, same_members    a list's edges, told without the walk; they are those of the list row by row
--     across_order    the edges of one place along follow each other across; rows-across the same of the list row by row
--     only_rows    row by row and left to right is one order
-- Assumes nothing.
use Rattle.std.specs.Prelude.{Ok}
use mathlib.Core.Bool.{Bool}
use mathlib.Core.Logic.{⊎_elim, ◌↔◌}
use mathlib.Core.List.{List, [], ◌∷◌, Memᴰ}
use mathlib.Core.Path.{◌≡◌, refl, sym, ap, subst}
use Prim.Native.Nat.{ℕ, ◌*◌, ◌≤◌, ◌<◌}
use native.Mathlib.Omega.{arith}
use lib.ListN.{length}
use Rattle.laws.specs.Orders.{Pairwise, each}
use Rattle.laws.proofs.Orders.{pairwise_imp, same_list}
use Rattle.split.specs.Demand3.{OneLeaf, Aligned, Demand3}
use Rattle.split.specs.Edges.{Pass, vertical, horizontal, Edge, edge_list, edge_numbers}
use Rattle.split.specs.Order.{InOrder}
use Rattle.split.specs.Picture.{roots, root_walk, all_leaves, picture_walk}
use Rattle.split.specs.Rows.{home_of, cross_of, along_of, EdgeOf, row_list}
use Rattle.split.specs.Tiling.{leaf_of}
use Rattle.split.specs.Walk.{Leaf}
use Rattle.split.proofs.Area.{few_edges}
use Rattle.split.proofs.Order.{strict_order, leaves_in_order}
use Rattle.split.proofs.Passes.{by_leaves, vertical_pass_lem, horizontal_pass_lem, left_done_lem, right_not}
use Rattle.split.proofs.Places.{leaves_mem, stands_at, leaves_order, known, found, covered, tiled_v, tiled_h}
use Rattle.split.proofs.Ranks.{in_picture}
use Rattle.split.proofs.Rows.{Earlier, rows_mem, mem_rows, rows_order, is_edge_lem, edge_is}
use Rattle.split.proofs.Sides.{edges_mem, mem_edges, edges_order}
use Rattle.split.proofs.Walks.{each_done}

pub edges_twice : (l : List Edge) → length (each edge_numbers l) ≡ 2 * length l
unfolding each
edges_twice [] = refl
edges_twice (e ∷ l) = let i = edges_twice l in omega arith

-- e and f of one place along: e comes before f across
abbrev pub Across : Pass → Edge → Edge → Type 0
Across d e f = along_of d e ≡ along_of d f → cross_of d e < cross_of d f

module _ (halved : Bool) (s : List ℕ) (w h : ℕ) (pos : 1 ≤ w) (accepted : (picture_walk s w h).answer ≡ Ok tt) where
  abbrev fine : (i : ℕ) → i < roots w h → (root_walk s w h i).answer ≡ Ok tt
  fine = each_done (root_walk s w h) (roots w h) accepted

  -- ---- which they are

  by_leaf : (d : Pass) (e : Edge) → Memᴰ e (edge_list d halved s w h) → EdgeOf d halved s w h e
  by_leaf vertical e m =
      let f = edges_mem vertical (home_of vertical s w) w h (all_leaves s w h) (tiled_v s w h pos fine) halved e (subst (Memᴰ e) (by_leaves vertical halved s w h) m) in
      subst (EdgeOf vertical halved s w h) (sym f.is) (record { column = f.right; row = f.bottom; sure = f.sure })
  by_leaf horizontal e m =
      let f = edges_mem horizontal (home_of horizontal s w) h w (all_leaves s w h) (tiled_h s w h pos fine) halved e (subst (Memᴰ e) (by_leaves horizontal halved s w h) m) in
      subst (EdgeOf horizontal halved s w h) (sym f.is) (record { column = f.bottom; row = f.right; sure = f.sure })

  leaf_by : (d : Pass) (e : Edge) → EdgeOf d halved s w h e → Memᴰ e (edge_list d halved s w h)
  leaf_by vertical e a =
      subst (Memᴰ e) (sym (by_leaves vertical halved s w h))
      (mem_edges vertical (home_of vertical s w) w h (all_leaves s w h) (tiled_v s w h pos fine) halved e.x e.y a.column a.row a.sure)
  leaf_by horizontal e a =
      subst (Memᴰ e) (sym (by_leaves horizontal halved s w h))
      (mem_edges horizontal (home_of horizontal s w) h w (all_leaves s w h) (tiled_h s w h pos fine) halved e.y e.x a.row a.column a.sure)

  pub members : (d : Pass) (e : Edge) → Memᴰ e (edge_list d halved s w h) ↔ EdgeOf d halved s w h e
  members d e = (by_leaf d e, leaf_by d e)

  pub same_members : (d : Pass) (e : Edge) → Memᴰ e (edge_list d halved s w h) ↔ Memᴰ e (row_list d halved s w h)
  same_members d e = (
    λ m. let a = by_leaf d e m in mem_rows _ w h e.x e.y a.column a.row (edge_is halved (home_of d s w) (cross_of d e) (along_of d e) a.sure),
    λ m. let a = rows_mem _ w h e m in leaf_by d e (record { column = a.column; row = a.row; sure = is_edge_lem halved (home_of d s w) (cross_of d e) (along_of d e) a.sure }),
  )

  -- ---- their order across, and that each is listed once

  pub across_order : (d : Pass) → Pairwise (Across d) (edge_list d halved s w h)
  across_order vertical = subst (Pairwise (Across vertical)) (sym (by_leaves vertical halved s w h))
      (edges_order vertical (home_of vertical s w) w h (all_leaves s w h) (tiled_v s w h pos fine) halved (Across vertical) (λ c a c' a' g. g))
  across_order horizontal = subst (Pairwise (Across horizontal)) (sym (by_leaves horizontal halved s w h))
      (edges_order horizontal (home_of horizontal s w) h w (all_leaves s w h) (tiled_h s w h pos fine) halved (Across horizontal) (λ c a c' a' g. g))

  pub rows_across : (d : Pass) → Pairwise (Across d) (row_list d halved s w h)
  rows_across vertical = pairwise_imp (row_list vertical halved s w h) (λ e f i j o q. ⊎_elim (λ z. absurd (omega arith)) (λ z. z.1) o) (rows_order _ w h)
  rows_across horizontal = pairwise_imp (row_list horizontal halved s w h) (λ e f i j o q. ⊎_elim (λ z. z) (λ z. absurd (let y = z.1 in omega arith)) o) (rows_order _ w h)

  pub only_rows : (d : Pass) (l : List Edge) → Pairwise Earlier l → ((e : Edge) → Memᴰ e l ↔ Memᴰ e (row_list d halved s w h)) → l ≡ row_list d halved s w h
  only_rows d l o g = same_list Earlier (λ e. ⊎_elim (λ z. omega arith) (λ z. let z₁ = z.1 in omega arith))
      (λ e f. ⊎_elim (λ y. ⊎_elim (λ z. omega arith) (λ z. let z₀ = z.0 in omega arith))
      (λ y. let y₀ = y.0 in let y₁ = y.1 in ⊎_elim (λ z. omega arith) (λ z. let z₁ = z.1 in omega arith)))
      l (row_list d halved s w h) o (rows_order _ w h) (λ e. (g e).0) (λ e. (g e).1)

  once : (d : Pass) → Pairwise (λ e f. e ≡ f → ⊥) (edge_list d halved s w h)
  once d = pairwise_imp (edge_list d halved s w h) (λ e f i j g q. let z = g (ap (along_of d) q) in let x = ap (cross_of d) q in omega arith) (across_order d)

  -- ---- in the paper's order

  order : (d : Pass) → Pairwise (InOrder d s w) (edge_list d halved s w h)
  order d = subst (Pairwise (InOrder d s w)) (sym (by_leaves d halved s w h)) (leaves_in_order halved s w h pos fine d)

  only : (d : Pass) (l : List Edge) → Pairwise (InOrder d s w) l → ((e : Edge) → Memᴰ e l ↔ EdgeOf d halved s w h e) → l ≡ edge_list d halved s w h
  only d l o g = same_list (InOrder d s w) (λ e z. strict_order d s w e e z z) (strict_order d s w) l (edge_list d halved s w h) o (order d)
      (λ e m. leaf_by d e ((g e).0 m)) (λ e m. (g e).1 (by_leaf d e m))

  -- ---- the leaves

  tiles : (u v : ℕ) → u < w → v < h → OneLeaf (all_leaves s w h) u v
  tiles u v a b =
      let c = covered s w h pos fine u v a b in
      record { one = leaf_of s w u v; listed = c.0; holds = c.1; only = λ q m i. sym (found s w h pos fine q u v m i) }

  distinct : Pairwise (λ p q. p ≡ q → ⊥) (all_leaves s w h)
  distinct = pairwise_imp (all_leaves s w h) (λ p q m n b e.
      let one = (known s w h pos fine p m).0.some in
      let x = ap (λ (r : Leaf). r.x) e in
      let y = ap (λ (r : Leaf). r.y) e in
      ⊎_elim (λ g. omega arith) (λ g. omega arith) b) (leaves_order s w h pos fine)

  aligned : (p : Leaf) → Memᴰ p (all_leaves s w h) → Aligned w h p
  aligned p m =
      let r = leaves_mem s w h pos (roots w h) p m in
      let a = stands_at s w h pos fine r.root r.early p r.listed in
      let k = (known s w h pos fine p m).0 in
      record {
        log = a.log;
        small = a.spot.level;
        power = a.power;
        column = rw a.power (in_picture a.log p.x a.spot.level a.spot.column);
        row = rw a.power (in_picture a.log p.y a.spot.level a.spot.row);
        right = k.right;
        bottom = k.bottom;
      }

  pub demand_3 : Demand3 halved s w h
  demand_3 = record {
    tiles = tiles;
    distinct = distinct;
    aligned = aligned;
    descent = λ u v a b. (covered s w h pos fine u v a b).0;
    found = found s w h pos fine;
    members = members;
    once = once;
    order = order;
    only = only;
    vertical_pass_lem = vertical_pass_lem halved s w h pos fine;
    horizontal_pass_lem = horizontal_pass_lem halved s w h;
    left_done_lem = left_done_lem halved s w h pos fine;
    right_not = right_not halved s w h pos fine;
    fits = λ d. omega (arith, edges_twice (edge_list d halved s w h), few_edges d halved s w h pos fine);
  }
