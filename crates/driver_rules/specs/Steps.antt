-- What the driver does at a leaf. Each component is gathered around, predicted and reconstructed as the calls of `nbr`, `ipred` and `recon` have it.
-- Both formats have one rule: in a grey picture U and V are [], where no block changes anything (`plane_none`), and no leaf has residuals of them.
-- Assumes nothing: these are definitions.
use Rattle.std.specs.Prelude.{ℕ, ◌+◌, ◌*◌, ◌/◌, Bool, List, ℤ, get_or, take, drop}
use Rattle.laws.specs.Index.{pick}
use Rattle.laws.specs.Orders.{run}
use Rattle.laws.specs.Plane.{with_block}
use Rattle.def.specs.declared.Component.{Component}
use Rattle.def.specs.declared.Component.TheVariants.{Luma, Chroma}
use Rattle.def.specs.declared.Format.{Format}
use Rattle.ipred.specs.Modes.{predicted, block_of}
use Rattle.nbr.specs.Gather.{Around, across, column, row, side_of, run_of}
use Rattle.recon.specs.Plane as recon
use Rattle.split.specs.Walk.{Leaf}
use Rattle.driver_rules.specs.Records.{kind_at, record_mask, word_at, mode_at, keep_at, is_mode, coded_y, coded_u, coded_v, sample_count, start_u, start_v, Place, past}

-- ---- one component of a leaf

-- the lent prediction's sample at row r, column c of the block
abbrev pub lent_at : Around → List ℕ → ℕ → ℕ → ℕ
lent_at a lent r c = get_or lent ((row a + r) * across a + column a + c) 0

-- the block's prediction: by its mode from the run of its neighbours, or the lent one's
unfoldable pub prediction_of : Around → (kind : ℕ) → (lent : List ℕ) → List ℕ
prediction_of a kind lent =
    let n = side_of a.component a.side in
    pick (is_mode kind) (block_of n (predicted kind n (run_of a))) (block_of n (lent_at a lent))

-- the plane with the block in it
unfoldable pub plane_of : Around → (kind : ℕ) → (lent : List ℕ) → (coded : Bool) → (coef : List ℤ) → List ℕ
plane_of a kind lent coded coef =
    (recon.done (record {
      component = a.component;
      w = a.w;
      h = a.h;
      x = a.x;
      y = a.y;
      side = a.side;
      coded = coded;
      pred = prediction_of a kind lent;
      coef = coef;
      rec = a.plane;
    })).rec

-- ---- a leaf

-- what is lent to be read
pub record Given : Type 0 where
  pub w : ℕ
  pub h : ℕ
  pub format : Format
  pub constrained : Bool
  pub leaves : List ℕ
  pub residual : List ℤ
  pub pred_y : List ℕ
  pub pred_u : List ℕ
  pub pred_v : List ℕ

-- what is written, and how far the walk has come
pub record State : Type 0 where
  pub y : List ℕ
  pub u : List ℕ
  pub v : List ℕ
  pub words : List ℕ
  pub modes : List ℕ
  pub keep : List ℕ
  pub place : Place

abbrev pub around_of : Given → Component → (x y side : ℕ) → (plane words : List ℕ) → Around
around_of g c x y side plane words =
    record { component = c; w = g.w; h = g.h; plane = plane; words = words; x = x; y = y; side = side; constrained = g.constrained }

-- a component of the leaf at (x, y) in luma, whose residuals start at `at`
abbrev pub component_of : Given → Component → (x y side kind : ℕ) → (lent : List ℕ) → Bool → (at : ℕ) → (plane words : List ℕ) → List ℕ
component_of g c x y side kind lent coded at plane words =
    plane_of (around_of g c x y side plane words) kind lent coded (take (sample_count c side) (drop at g.residual))

-- a map, one entry a unit, with v in the units of the leaf
abbrev pub with_units : (w x y side v : ℕ) → List ℕ → List ℕ
with_units w x y side v l = with_block 0 (w / 4) (x / 4) (y / 4) (side / 4) (side / 4) (λ (r c : ℕ). v) l

-- the leaf of luma side `side` at (x, y): one mode serves all three components, and the words are those before the leaf
unfoldable pub step_at : Given → (x y side : ℕ) → State → State
step_at g x y side s =
    let k = s.place.k in
    let at = s.place.at in
    let kind = kind_at g.leaves k in
    let mask = record_mask g.leaves k in
    record {
      y = component_of g Luma x y side kind g.pred_y (coded_y mask) at s.y s.words;
      u = component_of g Chroma x y side kind g.pred_u (coded_u mask) (start_u at mask side) s.u s.words;
      v = component_of g Chroma x y side kind g.pred_v (coded_v mask) (start_v at mask side) s.v s.words;
      words = with_units g.w x y side (word_at g.leaves k) s.words;
      modes = with_units g.w x y side (mode_at g.leaves k) s.modes;
      keep = with_units g.w x y side (keep_at g.leaves k) s.keep;
      place = past g.leaves side s.place;
    }

abbrev pub step : Given → Leaf → State → State
step g p s = step_at g (4 * p.x) (4 * p.y) (4 * p.side) s

-- the leaves of a list, the first first
abbrev pub steps : Given → List Leaf → State → State
steps g l s = run (step g) l s
