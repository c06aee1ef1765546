-- What is lent to a call, and the state, as records of the slices.
-- Assumes nothing: these are definitions.
use Rattle.std.specs.Prelude.{ℕ, ◌+◌, ◌≤◌, ◌≡◌, Bool, List, ℤ, length}
use Rattle.def.specs.Components.{plane_length}
use Rattle.def.specs.Formats.{in_format}
use Rattle.def.specs.declared.Component.{Component}
use Rattle.def.specs.declared.Component.TheVariants.{Luma, Chroma}
use Rattle.def.specs.declared.Format.{Format}
use Rattle.def.specs.declared.Format.TheVariants.{Colour}
use Rattle.nbr.specs.Gather.{Around}
use Rattle.driver_rules.specs.Asked.{BlockAsked, LentAsked}
use Rattle.driver_rules.specs.Records.{walked_to, coded_y, coded_u, coded_v, residual_count, most_mask, start_u, start_v, end_v}
use Rattle.driver_rules.specs.Steps.{Given, State, around_of, component_of, with_units}
use Rattle.driver.specs.declared.walk.Leaf.{Leaf}

abbrev pub given_of : (w h : ℕ) (format : Format) (constrained : Bool) (leaves : List ℕ) (residual : List ℤ) (py pu pv : List ℕ) → Given
given_of w h format constrained leaves residual py pu pv =
    record { w = w; h = h; format = format; constrained = constrained; leaves = leaves; residual = residual; pred_y = py; pred_u = pu; pred_v = pv }

abbrev pub state_of : (y u v words modes keep : List ℕ) (at k : ℕ) → State
state_of y u v words modes keep at k = record { y = y; u = u; v = v; words = words; modes = modes; keep = keep; place = walked_to at k }

-- where V's residuals end, those of U starting at `at`
abbrev pub colour_end : (at mask side : ℕ) → ℕ
colour_end at mask side = at + residual_count Chroma (coded_u mask) side + residual_count Chroma (coded_v mask) side

-- the leaf in a component's plane, with the words before it; and the plane with the leaf in it, whose residuals start at `at`
abbrev pub around_leaf : Given → Component → Leaf → (plane words : List ℕ) → Around
around_leaf g c leaf plane words = around_of g c leaf.x.0 leaf.y.0 leaf.side plane words

abbrev pub leaf_in : Given → Component → Leaf → (kind : ℕ) → (lent : List ℕ) → Bool → (at : ℕ) → (plane words : List ℕ) → List ℕ
leaf_in g c leaf kind lent coded at plane words = component_of g c leaf.x.0 leaf.y.0 leaf.side kind lent coded at plane words

-- a map of a picture w wide, one entry a unit, with v in the units of the leaf
abbrev pub told_to : (w : ℕ) → Leaf → (v : ℕ) → List ℕ → List ℕ
told_to w leaf v l = with_units w leaf.x.0 leaf.y.0 leaf.side v l

-- U and V of a leaf, the words being those before it
pub record ColourDrawn (g : Given) (leaf : Leaf) (kind mask at : ℕ) (words u v u' v' : List ℕ) (end : ℕ) : Type 0 where
  pub u_drawn : u' ≡ leaf_in g Chroma leaf kind g.pred_u (coded_u mask) at u words
  pub v_drawn : v' ≡ leaf_in g Chroma leaf kind g.pred_v (coded_v mask) (at + residual_count Chroma (coded_u mask) leaf.side) v words
  pub ends : end ≡ colour_end at mask leaf.side

-- the three components of a leaf
pub record Drawn (g : Given) (leaf : Leaf) (kind mask at : ℕ) (words y u v y' u' v' : List ℕ) (end : ℕ) : Type 0 where
  pub y_drawn : y' ≡ leaf_in g Luma leaf kind g.pred_y (coded_y mask) at y words
  pub u_drawn : u' ≡ leaf_in g Chroma leaf kind g.pred_u (coded_u mask) (start_u at mask leaf.side) u words
  pub v_drawn : v' ≡ leaf_in g Chroma leaf kind g.pred_v (coded_v mask) (start_v at mask leaf.side) v words
  pub ends : end ≡ end_v at mask leaf.side

-- what U and V of a leaf ask: in a grey picture they have no samples and no residuals
pub record ColourAsked (g : Given) (leaf : Leaf) (mask : ℕ) (words u v : List ℕ) : Type 0 where
  pub u_lent : g.format ≡ Colour → LentAsked Chroma g.w g.h g.pred_u
  pub v_lent : g.format ≡ Colour → LentAsked Chroma g.w g.h g.pred_v
  pub u_asked : g.format ≡ Colour → BlockAsked (around_leaf g Chroma leaf u words)
  pub v_asked : g.format ≡ Colour → BlockAsked (around_leaf g Chroma leaf v words)
  pub u_long : length u ≡ in_format g.format (plane_length Chroma g.w g.h)
  pub v_long : length v ≡ in_format g.format (plane_length Chroma g.w g.h)
  pub masked : mask ≤ most_mask g.format

-- what the three components of a leaf ask
pub record PlanesAsked (g : Given) (leaf : Leaf) (mask : ℕ) (words y u v : List ℕ) : Type 0 where
  pub y_lent : LentAsked Luma g.w g.h g.pred_y
  pub y_asked : BlockAsked (around_leaf g Luma leaf y words)
  pub colour : ColourAsked g leaf mask words u v

-- the planes and the maps of a state
pub record Ended (s : State) (y u v words modes keep : List ℕ) : Type 0 where
  pub y_end : y ≡ s.y
  pub u_end : u ≡ s.u
  pub v_end : v ≡ s.v
  pub words_end : words ≡ s.words
  pub modes_end : modes ≡ s.modes
  pub keep_end : keep ≡ s.keep
