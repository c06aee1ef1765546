-- What is proved of every accepted picture: its leaves, both passes' lists and the passes themselves. Its proof is `demand_3`, in proofs/.
-- s: the split bytes of all roots; w and h: the picture's sides in units; halved: the transform limit is 5.
-- Assumes nothing: these are definitions.
use Rattle.std.specs.Prelude.{Bool, true, false, ◌↔◌, ◌≡◌, ℕ, ◌+◌, ◌-◌, ◌*◌, ◌%◌, ◌^◌, ◌≤◌, ◌<◌, length}
use mathlib.Core.List.{List, [], ◌∷◌, ◌++◌, Memᴰ}
use Rattle.laws.specs.Orders.{Pairwise, each}
use Rattle.split.specs.Edges.{Pass, vertical, horizontal, Edge, Visit, visits, edge_list, edge_numbers}
use Rattle.split.specs.Order.{InOrder}
use Rattle.split.specs.Passes.{done, vertical_pass, horizontal_pass}
use Rattle.split.specs.Picture.{all_leaves}
use Rattle.split.specs.Rows.{EdgeOf}
use Rattle.split.specs.Tiling.{Holds, leaf_of}
use Rattle.split.specs.Walk.{Leaf}

-- a unit is in exactly one leaf of the list
pub record OneLeaf (l : List Leaf) (u v : ℕ) : Type 0 where
  pub one : Leaf
  pub listed : Memᴰ one l
  pub holds : Holds one u v
  pub only : (q : Leaf) → Memᴰ q l → Holds q u v → q ≡ one

-- a leaf's side is 4, 8, 16, 32 or 64 samples, it stands on a multiple of its side, and lies inside
pub record Aligned (w h : ℕ) (p : Leaf) : Type 0 where
  pub log : ℕ
  pub small : log ≤ 4
  pub power : p.side ≡ 2 ^ log
  pub column : p.x % p.side ≡ 0
  pub row : p.y % p.side ≡ 0
  pub right : p.x + p.side ≤ w
  pub bottom : p.y + p.side ≤ h

pub record Demand3 (halved : Bool) (s : List ℕ) (w h : ℕ) : Type 0 where
  -- the tree blocks are the leaves: each unit of the picture is in exactly one, and each stands on a multiple of its side, inside
  pub tiles : (u v : ℕ) → u < w → v < h → OneLeaf (all_leaves s w h) u v
  pub distinct : Pairwise (λ p q. p ≡ q → ⊥) (all_leaves s w h)
  pub aligned : (p : Leaf) → Memᴰ p (all_leaves s w h) → Aligned w h p
  -- the leaf that the descent finds for a unit is the one that the walk lists
  pub descent : (u v : ℕ) → u < w → v < h → Memᴰ (leaf_of s w u v) (all_leaves s w h)
  pub found : (p : Leaf) (u v : ℕ) → Memᴰ p (all_leaves s w h) → Holds p u v → leaf_of s w u v ≡ p
  -- a unit's edge is in a pass's list exactly when its two units lie in different leaves or on two sides of that pass's cut
  pub members : (d : Pass) (e : Edge) → Memᴰ e (edge_list d halved s w h) ↔ EdgeOf d halved s w h e
  -- each is listed once
  pub once : (d : Pass) → Pairwise (λ e f. e ≡ f → ⊥) (edge_list d halved s w h)
  -- by root, then by the visiting rank of the first unit of the leaf (or half), then along the edge; and no other list of these edges is in that order
  pub order : (d : Pass) → Pairwise (InOrder d s w) (edge_list d halved s w h)
  pub only : (d : Pass) (l : List Edge) → Pairwise (InOrder d s w) l → ((e : Edge) → Memᴰ e l ↔ EdgeOf d halved s w h e) → l ≡ edge_list d halved s w h
  -- the passes visit those lists. Where the vertical pass comes to a visit, the unit left of its top row is done and the one right of it is not
  pub vertical_pass_lem : vertical_pass w [] (visits vertical halved s w h) ≡ edge_list vertical halved s w h
  pub horizontal_pass_lem : horizontal_pass (visits horizontal halved s w h) ≡ edge_list horizontal halved s w h
  pub left_done_lem : (pre post : List Visit) (p : Visit) → visits vertical halved s w h ≡ pre ++ (p ∷ post) → 0 < p.x → done pre (p.x - 1) p.y ≡ true
  pub right_not : (pre post : List Visit) (p : Visit) → visits vertical halved s w h ≡ pre ++ (p ∷ post) → done pre (p.x + p.wide) p.y ≡ false
  -- a list fits a buffer of 2 * (w/4) * (h/4) numbers
  pub fits : (d : Pass) → length (each edge_numbers (edge_list d halved s w h)) ≤ 2 * (w * h)
