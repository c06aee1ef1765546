-- The plan of a list of edges: of each edge the place of its strength and its keep marks, by the maps of a picture. Maps and lists may have any lengths, and the
-- list any numbers.
-- Assumes nothing: these are definitions.
use Rattle.std.specs.Prelude.{ℕ, ◌+◌, ◌*◌, ◌/◌, min, Bool, ◌&&◌, List, leb, ltb, ℤ, length, get_or}
use Rattle.laws.specs.Index.{pick}
use Rattle.laws.specs.Plane.{with_row}
use Rattle.split.specs.Edges.{Pass, Edge, edge}
use Rattle.df_rules.specs.Places.{step_across, unit_q, unit_p}
use Rattle.edge_place.specs.Places.{place_in, marks_in}

-- what is looked at: the maps, `columns` units a row, the map of edge rows, and the first n edges of a list
pub record Input : Type 0 where
  pub pass : Pass
  pub columns : ℕ
  pub words : List ℕ
  pub motion : List ℤ
  pub refs : List ℤ
  pub keep : List ℕ
  pub rows : List ℕ
  pub list : List ℕ
  pub n : ℕ

-- what is written
pub record Lists : Type 0 where
  pub places : List ℕ
  pub marks : List ℕ

abbrev pub lists_of : (places marks : List ℕ) → Lists
lists_of places marks = record { places = places; marks = marks }

-- how many units there are in all of the maps, by their lengths
unfoldable pub units_in : (words motion refs keep : ℕ) → ℕ
units_in words motion refs keep = min (min words (motion / 4)) (min (refs / 2) keep)

-- how many edges are planned, by the lengths of the list and of what is written: n, or as many as there are numbers and room for; none of a row over 65,535 units
unfoldable pub edges_in : (columns list n places marks : ℕ) → ℕ
edges_in columns list n places marks = pick (leb columns 65535) (min (min n (list / 2)) (min places marks)) 0

-- edge k of a list: its two numbers are Q's first luma sample
abbrev pub edge_from : List ℕ → ℕ → Edge
edge_from l k = edge (get_or l (2 * k) 0 / 4) (get_or l (2 * k + 1) 0 / 4)

-- Q is a unit of all maps, and P, a step before it, is one
unfoldable pub has_units : (step units q : ℕ) → Bool
has_units step units q = leb step q && ltb q units

-- both units of edge k
abbrev pub told : Input → ℕ → Bool
told i k =
    has_units (step_across i.pass i.columns) (units_in (length i.words) (length i.motion) (length i.refs) (length i.keep)) (unit_q i.columns (edge_from i.list k))

-- its place and its marks, by Q and P; 0 where it has no such units
unfoldable pub planned_place : Input → ℕ → ℕ
planned_place i k =
    let e = edge_from i.list k in
    pick (told i k) (place_in i.pass i.words i.motion i.refs i.rows (unit_q i.columns e) (unit_p i.pass i.columns e)) 0

unfoldable pub planned_marks : Input → ℕ → ℕ
planned_marks i k =
    let e = edge_from i.list k in
    pick (told i k) (marks_in i.keep (unit_q i.columns e) (unit_p i.pass i.columns e)) 0

-- the plan put at the front; the rest stays as it is
unfoldable pub planned : Input → Lists → Lists
planned i p =
    let m = edges_in i.columns (length i.list) i.n (length p.places) (length p.marks) in
    lists_of (with_row 0 0 m (planned_place i) p.places) (with_row 0 0 m (planned_marks i) p.marks)
