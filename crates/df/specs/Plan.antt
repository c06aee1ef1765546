-- A root's plan: its edges as listing writes them, and for each the place of its strength and its keep marks; and what filtering by a plan leaves of the planes.
-- Assumes nothing: these are definitions.
use Rattle.std.specs.Prelude.{ℕ, zero, suc, ◌+◌, ◌*◌, ◌/◌, ◌≤◌, ◌<◌, Bool, List, [], ◌∷◌, ◌++◌, map, ◌≡◌, ℤ, length, get_or}
use Rattle.def.specs.Formats.{in_format}
use Rattle.def.specs.Word.{qp_of}
use Rattle.def.specs.declared.Component.{Component}
use Rattle.def.specs.declared.Format.{Format}
use Rattle.split.specs.Edges.{Pass, Edge, edge, edges_of}
use Rattle.split.specs.Picture.{root_leaves}
use Rattle.split.specs.Rows.{cross_of, along_of}
use Rattle.df_rules.specs.Filter.{window, Planes, filter_all}
use Rattle.df_rules.specs.Lent.{AtUnit}
use Rattle.df_rules.specs.Places.{unit_q, unit_p}
use Rattle.df_rules.specs.Strength.{Maps, row_by}
use Rattle.df_rules.specs.Window.{Samples}
use Rattle.edge_filter.specs.Filter.{mask_by}
use Rattle.rows_rules.specs.Rule.{rule_byte}
pub use Rattle.edge_place.specs.Plans.{edge_from}
use Rattle.split.specs.RootCall.{leaf_down}

-- the first n edges of a list
unfoldable pub edges_from : List ℕ → ℕ → List Edge
edges_from l zero = []
edges_from l (suc n) = edges_from l n ++ (edge_from l n ∷ [])

-- ---- the place of an edge's strength, by the maps

-- in a plane's 208 entries, of the units q and p
abbrev pub place_by : (words : List ℕ) (motion refs : List ℤ) → (q p : ℕ) → ℕ
place_by words motion refs q p = 52 * row_by words motion refs q p + qp_of (get_or words q 0)

abbrev pub place_at : Maps → Pass → (w : ℕ) → Edge → ℕ
place_at m d w e = place_by m.words m.over.motion m.over.refs (unit_q w e) (unit_p d w e)

-- ---- its keep marks, as one number: P's, and twice Q's

abbrev pub marks_by : (keep : List ℕ) → (q p : ℕ) → ℕ
marks_by keep q p = get_or keep p 0 + 2 * get_or keep q 0

abbrev pub marks_at : Maps → Pass → (w : ℕ) → Edge → ℕ
marks_at m d w e = marks_by m.over.keep (unit_q w e) (unit_p d w e)

-- a list's first n, by the maps
pub record Planned (m : Maps) (d : Pass) (w : ℕ) (l : List ℕ) (n : ℕ) (places marks : List ℕ) : Type 0 where
  pub at : (k : ℕ) → k < n → get_or places k 0 ≡ place_at m d w (edge_from l k)
  pub kept : (k : ℕ) → k < n → get_or marks k 0 ≡ marks_at m d w (edge_from l k)

-- ---- a plane filtered by a plan

-- the first n edges of a plan, one after the other. first: where the plane's entries start
unfoldable pub filter_in : (t : List ℕ) → (first : ℕ) → Component → Pass → (w : ℕ) → (l places marks : List ℕ) → ℕ → List ℕ → List ℕ
filter_in t first c d w l places marks zero xs = xs
filter_in t first c d w l places marks (suc n) xs =
    window (mask_by c (get_or marks n 0)) d c w (4 * get_or t (first + get_or places n 0) 0) (edge_from l n) (filter_in t first c d w l places marks n xs)

-- ---- what the functions ask for and give

-- every byte of a map of edge rows that is lent is right; none may be lent
abbrev pub RowsLent : (w : ℕ) (words : List ℕ) (motion refs : List ℤ) → List ℕ → Type 0
RowsLent w words motion refs rows = (k : ℕ) → k < length rows → get_or rows k 0 ≡ rule_byte words motion refs w k

-- a plane of a picture of w by h units, m samples a unit's side
pub record PlaneOf (m w h : ℕ) (xs : List ℕ) : Type 0 where
  pub wide : w ≤ 1024
  pub high : h ≤ 1024
  pub long : length xs ≡ m * h * (m * w)
  pub all : Samples xs

-- a chroma plane of such a picture, by its format: a grey one has no samples there
pub record ColourOf (f : Format) (w h : ℕ) (xs : List ℕ) : Type 0 where
  pub wide : w ≤ 1024
  pub high : h ≤ 1024
  pub long : length xs ≡ in_format f (2 * h * (2 * w))
  pub all : Samples xs

-- (x, y) is the first luma sample of a unit that has one before it
abbrev pub At : Pass → (w h x y : ℕ) → Type 0
At d w h x y = AtUnit d w h (cross_of d (edge x y)) (along_of d (edge x y))

-- the list of a pass's edges of root i, `top` rows of units further down, r of them. w and h are in luma samples
pub record ListedRoot (w h : ℕ) (s : List ℕ) (d : Pass) (halved : Bool) (top i : ℕ) (l : List ℕ) (r : ℕ) : Type 0 where
  pub long : length l ≡ 512
  pub few : r ≤ 256
  pub same : edges_from l r ≡ edges_of d halved (map (leaf_down top) (root_leaves s (w / 4) (h / 4) i))
  pub units : (k : ℕ) → k < r → At d (w / 4) (top + h / 4) (get_or l (2 * k) 0) (get_or l (2 * k + 1) 0)

-- the edges of a list were filtered, r of them
pub record PassDone (m : Maps) (t : List ℕ) (d : Pass) (w : ℕ) (l : List Edge) (p q : Planes) (r : ℕ) : Type 0 where
  pub planes : q ≡ filter_all m t d w l p
  pub counted : r ≡ length l
