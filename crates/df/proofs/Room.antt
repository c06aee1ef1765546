-- The edges of one root, `top` rows of units further down: no more than it has units, and each between two units of what is lent.
-- Assumes nothing.
use Prim.Native.Nat.{ℕ, zero, suc, ◌+◌, ◌/◌, ◌≤◌, ◌<◌}
use mathlib.Core.Bool.{Bool}
use mathlib.Core.List.{List, [], ◌∷◌, ◌++◌, map, Memᴰ}
use mathlib.Core.Logic.{⊎_elim}
use mathlib.Core.Path.{sym, ap, subst}
use native.Mathlib.Omega.{arith}
use borrow.Author.Tests.{eqb-true, eqb-false}
use lib.Dec.{eqb}
use lib.ListN.{length}
use lib.Pow.{pow_pos}
use Rattle.def.proofs.Sizes.{Sized, sized}
use Rattle.def.specs.Picture.{root_count}
use Rattle.laws.specs.Orders.{each}
use Rattle.laws.proofs.Orders.{each_mem, mem_each}
use Rattle.split.specs.Demand3.{Demand3}
use Rattle.split.specs.Edges.{Pass, Edge, visit_of, near_edge, edges_of}
use Rattle.split.specs.Picture.{roots, root_bytes, root_x, root_y, root_walk, root_leaves, leaves_of, all_leaves}
use Rattle.split.specs.Stored.{area}
use Rattle.split.specs.Walk.{Leaf}
use Rattle.split.proofs.Demand3.{demand_3, edges_twice}
use Rattle.split.proofs.Induct.{test}
use Rattle.split.proofs.Roots.{roots_units, some_wide}
use Rattle.split.proofs.Walks.{each_done}
use Rattle.split.specs.Accepted.{Accepted}
use Rattle.split.specs.RootCall.{leaf_down}
use Rattle.bands_rules.proofs.Lists.{Lies, list_in, map_mem}
use Rattle.edges.proofs.RootLists.{block_few}
use Rattle.edges.proofs.Written.{numbers_long, area_down}

-- ---- a root's leaves are the picture's

mem_leaves : (s : List ℕ) (w h n i : ℕ) (p : Leaf) → i < n → Memᴰ p (root_leaves s w h i) → Memᴰ p (leaves_of s w h n)
unfolding leaves_of
mem_leaves s w h zero i p l m = absurd (omega arith)
mem_leaves s w h (suc n) i p l m =
    test (eqb i n)
    (λ t. let e = eqb-true i n t in mathlib.Core.List.Memᴰ.append_right (leaves_of s w h n) (subst (λ (j : ℕ). Memᴰ p (root_leaves s w h j)) e m))
    (λ t. let ne = eqb-false i n t in mathlib.Core.List.Memᴰ.append_left _ (mem_leaves s w h n i p (omega arith) m))

map_in : (f : Leaf → Leaf) (l : List Leaf) (p : Leaf) → Memᴰ p l → Memᴰ (f p) (map f l)
map_in f [] p m = absurd (mathlib.Core.List.Memᴰ.not-nil m)
map_in f (q ∷ l) p m = ⊎_elim (λ e. mathlib.Core.List.Memᴰ.head (ap f e)) (λ i. mathlib.Core.List.Memᴰ.tail (map_in f l p i)) (mathlib.Core.List.Memᴰ.cases_cons m)

module _ (w h : ℕ) (s : List ℕ) (a : Accepted w h s) (i : ℕ) (early : i < root_count w h) where
  abbrev size : Sized w h
  size = sized w h a.size

  in_time : i < roots (w / 4) (h / 4)
  in_time = rw (roots_units size) early

  abbrev leaves : List Leaf
  leaves = root_leaves s (w / 4) (h / 4) i

  abbrev tree : (halved : Bool) → Demand3 halved s (w / 4) (h / 4)
  tree halved = demand_3 halved s (w / 4) (h / 4) (some_wide size) a.walked

  leaf_in_lem : (p : Leaf) → Memᴰ p leaves → Memᴰ p (all_leaves s (w / 4) (h / 4))
  leaf_in_lem p m = mem_leaves s (w / 4) (h / 4) (roots (w / 4) (h / 4)) i p in_time m

  pub root_area : area leaves ≤ 256
  root_area = block_few (root_bytes s i) (w / 4) (h / 4) 4 (root_x (w / 4) i) (root_y (w / 4) i) (each_done (root_walk s (w / 4) (h / 4)) (roots (w / 4) (h / 4)) a.walked i in_time)

  module _ (d : Pass) (halved : Bool) (top : ℕ) where
    abbrev down : List Leaf
    down = map (leaf_down top) leaves

    sides : (p : Leaf) → Memᴰ p down → 1 ≤ p.side
    sides p m =
        let r = map_mem (leaf_down top) leaves p m in
        let k = (tree halved).aligned r.of (leaf_in_lem r.of r.listed) in
        subst (λ (q : Leaf). 1 ≤ q.side) (sym r.is) (rw k.power (pow_pos k.log))

    pub few_edges : length (edges_of d halved down) ≤ 256
    few_edges = omega (arith, edges_twice (edges_of d halved down), numbers_long d halved down sides, area_down top leaves, root_area)

    pub edge_in : (e : Edge) → Memᴰ e (edges_of d halved down) → Lies d (w / 4) top (top + h / 4) e
    edge_in e m =
        let v = each_mem (near_edge d) (each (visit_of d halved) down) e m in
        let p = each_mem (visit_of d halved) down v.one v.listed in
        let r = map_mem (leaf_down top) leaves p.one p.listed in
        let all = map (leaf_down top) (all_leaves s (w / 4) (h / 4)) in
        let i : Memᴰ p.one all = subst (λ (q : Leaf). Memᴰ q all) (sym r.is) (map_in (leaf_down top) (all_leaves s (w / 4) (h / 4)) r.of (leaf_in_lem r.of r.listed)) in
        let l = list_in d halved top s (w / 4) (h / 4) (some_wide size) a.walked e (mem_each (near_edge d) (mem_each (visit_of d halved) i p.mine) v.mine) in
        record { inner = l.inner; column = l.column; above = l.above; below = omega (arith, l.below) }
