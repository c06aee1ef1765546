-- Demand 3, whole: the record of specs/Demand3, of every accepted picture.
--     demand_3    for sides in units
--     accepted_demand_3    for sides in luma samples, of a picture that deblocking accepts as far as its walk
-- Assumes nothing.
use Rattle.std.specs.Prelude.{Ok}
use Prim.Native.Nat.{ℕ, ◌*◌, ◌/◌, ◌≤◌, ◌<◌}
use mathlib.Core.Path.{◌≡◌, ap, ◌∙◌}
use mathlib.Core.Bool.{Bool}
use mathlib.Core.List.{List, Memᴰ}
use mathlib.Core.Logic.{⊎_elim, ◌↔◌}
use native.Mathlib.Omega.{arith}
use Rattle.def.proofs.Sizes.{sized}
use Rattle.def.specs.declared.Component.{Component}
use Rattle.laws.specs.Orders.{run}
use Rattle.laws.proofs.Flat.{flat_within}
use Rattle.laws.proofs.Orders.{pairwise_imp, same_list}
use Rattle.split.proofs.Demand3.{demand_3 as lists-3}
use Rattle.split.proofs.Roots.{some_wide}
use Rattle.split.proofs.Rows.{Earlier, rows_order}
use Rattle.split.specs.Edges.{Pass, vertical, horizontal, Edge, edge_list}
use Rattle.split.specs.Picture.{picture_walk}
use Rattle.split.specs.Rows.{EdgeOf, row_list}
use Rattle.df_rules.specs.Demand3.{RowByRow, Demand3}
use Rattle.df_rules.specs.Filter.{filtered, finished}
use Rattle.split.specs.Accepted.{Accepted}
use Rattle.df_rules.specs.Places.{unit_q}
use Rattle.df_rules.specs.Strength.{Maps}
use Rattle.df_rules.proofs.Rows.{row_members, filtered_rows}

-- a row's units come before those of the next
raster : (w : ℕ) (e f : Edge) → e.x < w → Earlier e f → unit_q w e < unit_q w f
raster w e f p o =
    ⊎_elim (λ z. let q = flat_within e.y e.x w f.y p z in omega arith)
    (λ z. let q = ap (λ (y : ℕ). y * w) z.0 in let r = z.1 in omega arith) o

module _ (halved : Bool) (s : List ℕ) (w h : ℕ) (pos : 1 ≤ w) (accepted : (picture_walk s w h).answer ≡ Ok tt) where
  abbrev row_edges : (d : Pass) (e : Edge) → Memᴰ e (row_list d halved s w h) ↔ EdgeOf d halved s w h e
  row_edges = row_members halved s w h pos accepted

  rows : (d : Pass) → RowByRow d halved s w h (row_list d halved s w h)
  rows d = record {
    members = row_edges d;
    order = pairwise_imp (row_list d halved s w h) (λ e f i j o. raster w e f ((row_edges d e).0 i).column o) (rows_order _ w h);
  }

  only_rows : (d : Pass) (l : List Edge) → RowByRow d halved s w h l → l ≡ row_list d halved s w h
  only_rows d l r = same_list (λ e f. unit_q w e < unit_q w f) (λ e z. omega arith) (λ e f y z. omega arith) l (row_list d halved s w h) r.order (rows d).order
      (λ e i. (row_edges d e).1 ((r.members e).0 i)) (λ e i. (r.members e).1 ((row_edges d e).0 i))

  planes : (m : Maps) (t : List ℕ) (at : ℕ → ℕ) (c : Component) (p : List ℕ)
      → finished m t at c w (edge_list vertical halved s w h) (edge_list horizontal halved s w h) p
      ≡ finished m t at c w (row_list vertical halved s w h) (row_list horizontal halved s w h) p
  planes m t at c p =
      filtered_rows halved s w h pos accepted horizontal m t at c _
      ∙ ap (run (filtered m t at horizontal c w) (row_list horizontal halved s w h)) (filtered_rows halved s w h pos accepted vertical m t at c p)

  pub demand_3 : Demand3 halved s w h
  demand_3 = record { lists = lists-3 halved s w h pos accepted; rows = rows; only_rows = only_rows; planes = planes }

pub accepted_demand_3 : (halved : Bool) (s : List ℕ) (w h : ℕ) → Accepted w h s → Demand3 halved s (w / 4) (h / 4)
accepted_demand_3 halved s w h a = demand_3 halved s (w / 4) (h / 4) (some_wide (sized w h a.size)) a.walked
