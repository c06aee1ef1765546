-- What filtering a list's edges leaves of a plane, edge by edge. Any list is taken, and any numbers as samples.
-- Assumes nothing: these are definitions.
use Rattle.std.specs.Prelude.{ℕ, zero, suc, ◌+◌, ◌*◌, ◌/◌, ◌%◌, min, Bool, ◌&&◌, List, eqb, leb, ltb, length, get_or}
use Rattle.laws.specs.Index.{pick}
use Rattle.def.specs.Components.{unit_side}
use Rattle.def.specs.Formats.{in_format}
use Rattle.def.specs.declared.Component.{Component}
use Rattle.def.specs.declared.Format.{Format}
use Rattle.line.specs.declared.Mask.{Mask}
use Rattle.line.specs.Line.{mask_of}
use Rattle.split.specs.Edges.{Pass}
use Rattle.window.specs.declared.Place.{Place}
use Rattle.window.specs.Window.{inside, lies, window_of}
use Rattle.edge_filter.specs.Edges.{place_from}

-- what is written of an edge with these marks: P's, and twice Q's
abbrev pub mask_by : Component → (marks : ℕ) → Mask
mask_by c k = mask_of c (eqb (k % 2) 1) (eqb (k / 2) 1)

-- the strength at entry k of a table, which has 624: none past them
unfoldable pub strength_at : (t : List ℕ) → ℕ → ℕ
strength_at t k = pick (ltb k 624) (4 * get_or t k 0) 0

-- that of edge i, by the place of it in a plane's entries. first: where these start
abbrev pub strength_in : (t : List ℕ) → (first : ℕ) → (places : List ℕ) → ℕ → ℕ
strength_in t first places i = strength_at t (first + get_or places i 0)

-- without one an edge is left: in luma, and in chroma where neither plane has one
abbrev pub quiet_luma : (t places : List ℕ) → ℕ → Bool
quiet_luma t places i = eqb (strength_in t 0 places i) 0

abbrev pub quiet_chroma : (t places : List ℕ) → ℕ → Bool
quiet_chroma t places i = eqb (strength_in t 208 places i) 0 && eqb (strength_in t 416 places i) 0

-- an edge's lines at p, where they lie as `window` takes them; beside a kept unit they may lie in any way
unfoldable pub edge_of : Component → (marks st : ℕ) → Place → List ℕ → List ℕ
edge_of c k st p xs =
    let n = unit_side c in
    window_of (pick (eqb k 0) (lies p n (length xs)) (inside p n (length xs))) (mask_by c k) (λ j. st) p n xs

-- the first n edges of a list, one after the other
unfoldable pub filter_by : (quiet : ℕ → Bool) → (t : List ℕ) → (first : ℕ) → Component → Pass → (w : ℕ) → (l places marks : List ℕ) → ℕ → List ℕ → List ℕ
filter_by quiet t first c d w l places marks zero xs = xs
filter_by quiet t first c d w l places marks (suc n) xs =
    let ys = filter_by quiet t first c d w l places marks n xs in
    pick (quiet n) ys (edge_of c (get_or marks n 0) (strength_in t first places n) (place_from c d w l n) ys)

-- how many of n edges are filtered: a list has no more than 256, and no picture more than 1024 columns
unfoldable pub count_luma : (w n : ℕ) → ℕ
count_luma w n = pick (leb w 1024) (min n 256) 0

-- in chroma none of a grey picture, nor where the two planes are not of one length
unfoldable pub count_chroma : Format → (w n long_u long_v : ℕ) → ℕ
count_chroma f w n long_u long_v = in_format f (pick (eqb long_u long_v) (count_luma w n) 0)
