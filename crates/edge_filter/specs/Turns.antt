-- What the functions below the calls ask for and give: turns over a list of edges, one edge or two at a time.
-- Assumes nothing: these are definitions.
use Rattle.std.specs.Prelude.{ℕ, ◌+◌, ◌*◌, ◌≤◌, ◌<◌, Bool, true, false, List, ◌≡◌, length, get_or}
use Rattle.def.specs.Components.{unit_side}
use Rattle.def.specs.declared.Component.{Component}
use Rattle.line.specs.Line.{mask_of}
use Rattle.split.specs.Edges.{Pass}
use Rattle.df_rules.specs.Lanes.{Apart}
use Rattle.window.specs.declared.Place.{Place}
use Rattle.window.specs.Window.{lies, twice, window_of}
use Rattle.edge_filter.specs.Edges.{cross_in, along_in}
use Rattle.edge_filter.specs.Filter.{filter_by}

-- edge j of a list is the one right after edge i along the same line, and neither is beside a kept unit
pub record Follows (d : Pass) (l marks : List ℕ) (i j : ℕ) : Type 0 where
  pub unmarked : get_or marks i 0 ≡ 0
  pub next_unmarked : get_or marks j 0 ≡ 0
  pub across : cross_in d l j ≡ cross_in d l i
  pub along : along_in d l j ≡ along_in d l i + 4

-- two edges' lines, m of each, share no place, and each edge's lie in a plane of `long` samples
pub record Two (p : Place) (m long : ℕ) : Type 0 where
  pub apart : Apart p.step p.next (m + m)
  pub first : lies p m long ≡ true
  pub second : lies (record { at = p.at + m * p.next; step = p.step; next = p.next }) m long ≡ true

-- edges i and j tried at once, the second where it is loud: r says whether the plane xs became ys by both
pub record Paired (loud : Bool) (c : Component) (d : Pass) (l marks : List ℕ) (i j : ℕ) (p : Place) (s₀ s₁ : ℕ) (r : Bool) (xs ys : List ℕ) : Type 0 where
  pub heard : r ≡ true → loud ≡ true
  pub next : r ≡ true → Follows d l marks i j
  pub two : r ≡ true → Two p (unit_side c) (length xs)
  pub lines : ys ≡ window_of r (mask_of c false false) (twice (unit_side c) s₀ s₁) p (unit_side c + unit_side c) xs

-- a turn over n edges, from edge i to edge r: it takes the plane xs to ys, so that what the first i edges left becomes what the first r leave
pub record Turned (quiet : ℕ → Bool) (t : List ℕ) (first : ℕ) (c : Component) (d : Pass) (w : ℕ) (l places marks : List ℕ) (n i r : ℕ) (xs ys : List ℕ) : Type 0 where
  pub on : i < r
  pub within : r ≤ n
  pub done : (zs : List ℕ) → xs ≡ filter_by quiet t first c d w l places marks i zs → ys ≡ filter_by quiet t first c d w l places marks r zs
