-- Demand 3, whole: which edges each pass visits and in which order, and that the finished planes are those of filtering row by row, left to right,
-- all vertical edges first. For a picture of w by h units whose walk is accepted; halved: the transform limit is 5. Its proof is `demand_3`, in proofs/.
-- Assumes nothing: these are definitions.
use Rattle.std.specs.Prelude.{ℕ, ◌<◌, ◌≡◌, Bool, ◌↔◌}
use mathlib.Core.List.{List, Memᴰ}
use Rattle.def.specs.declared.Component.{Component}
use Rattle.laws.specs.Orders.{Pairwise}
use Rattle.split.specs.Demand3.{Demand3 as Lists}
use Rattle.split.specs.Edges.{Pass, vertical, horizontal, Edge, edge_list}
use Rattle.split.specs.Rows.{EdgeOf, row_list}
use Rattle.df_rules.specs.Filter.{finished}
use Rattle.df_rules.specs.Places.{unit_q}
use Rattle.df_rules.specs.Strength.{Maps}

-- a pass's edges and no other, told without the walk, row by row and left to right: in the raster order of Q. So each is there once
pub record RowByRow (d : Pass) (halved : Bool) (s : List ℕ) (w h : ℕ) (l : List Edge) : Type 0 where
  pub members : (e : Edge) → Memᴰ e l ↔ EdgeOf d halved s w h e
  pub order : Pairwise (λ e f. unit_q w e < unit_q w f) l

pub record Demand3 (halved : Bool) (s : List ℕ) (w h : ℕ) : Type 0 where
  -- a pass visits exactly the unit edges between different leaves or across that pass's cut, each once, in the paper's order: `members`, `once` and `order` there
  pub lists : Lists halved s w h
  -- row by row and left to right these edges are one list
  pub rows : (d : Pass) → RowByRow d halved s w h (row_list d halved s w h)
  pub only_rows : (d : Pass) (l : List Edge) → RowByRow d halved s w h l → l ≡ row_list d halved s w h
  -- every plane, luma or chroma, of any maps and strengths, whatever Q's QP is mapped to, ends as it does when the edges are filtered in that order
  pub planes : (m : Maps) (t : List ℕ) (at : ℕ → ℕ) (c : Component) (p : List ℕ)
      → finished m t at c w (edge_list vertical halved s w h) (edge_list horizontal halved s w h) p
      ≡ finished m t at c w (row_list vertical halved s w h) (row_list horizontal halved s w h) p
