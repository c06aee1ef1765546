-- A listing fits its buffer: no edge lies on the picture's first column, or row, so a pass has at most 63 times 64, and a line has at most 10 bytes.
--     few_edges, near_edges    how many edges a pass has, and how far they lie
--     leaves_met               the leaves of a map that is walked to its end
-- Assumes nothing.
use Rattle.std.specs.Prelude.{Ok}
use mathlib.Core.Bool.{Bool}
use mathlib.Core.List.{List, ◌++◌, Memᴰ}
use mathlib.Core.Path.{◌≡◌, refl, sym, ap, ◌∙◌}
use Prim.Native.Nat.{ℕ, zero, suc, ◌+◌, ◌-◌, ◌*◌, ◌/◌, ◌%◌, ◌≤◌, ◌<◌}
use native.Mathlib.Nat.{mul-le-mul_right}
use native.Mathlib.Omega.{arith}
use lib.Arith.{digits_div, digits_mod}
use lib.ListN.{length}
use Rattle.laws.proofs.Counting.{few_below}
use Rattle.laws.proofs.Orders.{pairwise_imp}
use Rattle.split.specs.Demand3.{Demand3}
use Rattle.split.specs.Edges.{Pass, vertical, horizontal, Edge, edge_list}
use Rattle.split.specs.Picture.{root_walk, picture_walk, leaves_of}
use Rattle.split.specs.Rows.{cross_of, along_of}
use Rattle.split.specs.Walk.{in_turn}
use Rattle.split.proofs.Demand3.{demand_3}
use Rattle.split.proofs.Walks.{both}

-- ---- how many edges

-- how many places there are across a pass's edges, and along them
abbrev across_by : Pass → (w h : ℕ) → ℕ
across_by vertical w h = w
across_by horizontal w h = h

abbrev along_by : Pass → (w h : ℕ) → ℕ
along_by vertical w h = h
along_by horizontal w h = w

-- the edges of a pass, in rows of as many as there are along
rowed : (c a n m : ℕ) → 0 < c → c < m → a < n → (c - 1) * n + a < (m - 1) * n
rowed c a n m p q r =
    let l : (c - 1) * n + n ≤ (m - 1) * n = (let e : c - 1 + 1 ≤ m - 1 = omega arith in omega (arith, mul-le-mul_right n e)) in
    omega arith

same_place : (c a e b n : ℕ) → a < n → b < n → 0 < c → 0 < e → (c - 1) * n + a ≡ (e - 1) * n + b → (c ≡ e) × (a ≡ b)
same_place c a e b n p q f g z =
    let u : c - 1 ≡ e - 1 = sym (digits_div (c - 1) p) ∙ ap (λ (k : ℕ). k / n) z ∙ digits_div (e - 1) q in
    (omega arith, sym (digits_mod (c - 1) p) ∙ ap (λ (k : ℕ). k % n) z ∙ digits_mod (e - 1) q)

same_edge_lem : (d : Pass) (e f : Edge) → cross_of d e ≡ cross_of d f → along_of d e ≡ along_of d f → e ≡ f
same_edge_lem vertical e f p q = λ i. record { x = p i; y = q i }
same_edge_lem horizontal e f p q = λ i. record { x = q i; y = p i }

module _ (halved : Bool) (s : List ℕ) (w h : ℕ) (pos : 1 ≤ w) (accepted : (picture_walk s w h).answer ≡ Ok tt) where
  told : Demand3 halved s w h
  told = demand_3 halved s w h pos accepted

  record Lies (d : Pass) (e : Edge) : Type 0 where
    inner : 0 < cross_of d e
    cross : cross_of d e < across_by d w h
    along : along_of d e < along_by d w h

  lies : (d : Pass) (e : Edge) → Memᴰ e (edge_list d halved s w h) → Lies d e
  lies vertical e m = let o = (told.members vertical e).0 m in record { inner = o.sure.inner; cross = o.column; along = o.row }
  lies horizontal e m = let o = (told.members horizontal e).0 m in record { inner = o.sure.inner; cross = o.row; along = o.column }

  row_place : Pass → Edge → ℕ
  row_place d e = (cross_of d e - 1) * along_by d w h + along_of d e

  pub few_edges : (d : Pass) → length (edge_list d halved s w h) ≤ (across_by d w h - 1) * along_by d w h
  unfolding row_place
  few_edges d =
      few_below (row_place d) ((across_by d w h - 1) * along_by d w h) (edge_list d halved s w h)
      (pairwise_imp (edge_list d halved s w h) (λ e f m n o q. let a = lies d e m in let b = lies d f n in
      let z = same_place (cross_of d e) (along_of d e) (cross_of d f) (along_of d f) (along_by d w h) a.along b.along a.inner b.inner q in
      o (same_edge_lem d e f z.0 z.1)) (told.once d))
      (λ e m. let a = lies d e m in rowed (cross_of d e) (along_of d e) (along_by d w h) (across_by d w h) a.inner a.cross a.along)

  pub near_edges : (d : Pass) (e : Edge) → Memᴰ e (edge_list d halved s w h) → (e.x < w) × (e.y < h)
  near_edges d e m = let o = (told.members d e).0 m in (o.column, o.row)

-- ---- the leaves of a map that is walked to its end

pub leaves_met : (s : List ℕ) (w h n : ℕ) → (in_turn (root_walk s w h) n).answer ≡ Ok tt → (in_turn (root_walk s w h) n).list ≡ leaves_of s w h n
unfolding leaves_of in_turn
leaves_met s w h zero e = refl
leaves_met s w h (suc n) e =
    let b = both (in_turn (root_walk s w h) n).answer (in_turn (root_walk s w h) n).list (root_walk s w h n) e in
    b.joined ∙ ap (λ (l : List _). l ++ (root_walk s w h n).list) (leaves_met s w h n b.first)
