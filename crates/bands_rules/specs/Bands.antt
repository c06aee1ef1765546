-- Deblocking by bands. A band is a row of roots: 16 rows of units, the last one maybe fewer. w and h are a picture's sides in units, s the split bytes of all
-- its roots, k a band's number, n how many rows of units the band has. halved: the transform limit is 5.
-- Assumes nothing: these are definitions.
use Rattle.std.specs.Prelude.{Bool, List, [], ◌++◌, map, ◌≡◌, ℕ, zero, suc, ◌+◌, ◌*◌, length, take, drop}
use Rattle.def.specs.declared.Component.{Component}
use Rattle.split.specs.Edges.{Pass, vertical, horizontal, Edge, edge, edges_of, Visit, visit}
use Rattle.split.specs.Picture.{across, all_leaves}
use Rattle.split.specs.RootCall.{leaf_down}
use Rattle.split.specs.Walk.{Walk, met}
use Rattle.band_rows.specs.Rows.{band_rows, rows_above, rows_before}
use Rattle.df_rules.specs.Filter.{Planes, filter_all, finished}
use Rattle.df_rules.specs.Places.{unit_side}
use Rattle.df_rules.specs.Strength.{Maps}
use Rattle.df_rules.specs.Visit.{all_done}

-- ---- places, r rows of units further down

abbrev pub edge_down : ℕ → Edge → Edge
edge_down r e = edge e.x (e.y + r)

abbrev pub visit_down : ℕ → Visit → Visit
visit_down r q = visit q.x (q.y + r) q.wide q.tall

abbrev pub walk_down : ℕ → Walk → Walk
walk_down r v = met (map (leaf_down r) v.list) v.answer

-- ---- a band of a picture

-- its own split bytes
abbrev pub band_bytes : List ℕ → (w k : ℕ) → List ℕ
band_bytes s w k = take (1024 * across w) (drop (1024 * (k * across w)) s)

-- a pass's list for a band by itself: s its own bytes, n its rows of units, top the row of units that it starts at in what is lent. The band is walked as a
-- picture of w by n; what lies above it, if anything does, makes its top edge an edge. With top 0 and n the picture's rows it is `edge_list`
abbrev pub list_from : Pass → Bool → (top : ℕ) → List ℕ → (w n : ℕ) → List Edge
list_from d halved top s w n = edges_of d halved (map (leaf_down top) (all_leaves s w n))

-- done set, from word k on
abbrev pub done_from : ℕ → List ℕ → List ℕ
done_from k l = take k l ++ all_done (drop k l)

-- both passes' lists were filtered, one after the other, and counted, and every unit from row `top` on is done
pub record BothPassesFrom (m : Maps) (t : List ℕ) (w top : ℕ) (ups levels : List Edge) (p q : Planes) (words : List ℕ) (ver hor : ℕ) : Type 0 where
  pub planes : q ≡ filter_all m t horizontal w levels (filter_all m t vertical w ups p)
  pub ups_counted : ver ≡ length ups
  pub levels_counted : hor ≡ length levels
  pub marks : words ≡ done_from (top * w) m.words

-- band k's, by its place in the picture
abbrev pub band_list : Pass → Bool → List ℕ → (w h k : ℕ) → List Edge
band_list d halved s w h k = list_from d halved (16 * k) (band_bytes s w k) w (band_rows h k)

-- the lists of the first n bands, one after the other
unfoldable pub joined : (ℕ → List Edge) → ℕ → List Edge
joined f zero = []
joined f (suc n) = joined f n ++ f n

-- ---- what a band's call is lent: the band above, if any, and the band

-- b of the picture's rows of units from row a on: in a map of m numbers a unit; in a plane
abbrev pub map_part : {A : Type 0} → (m w a b : ℕ) → List A → List A
map_part m w a b l = take (m * (b * w)) (drop (m * (a * w)) l)

abbrev pub maps_part : (w a b : ℕ) → Maps → Maps
maps_part w a b m =
    record {
      words = map_part 1 w a b m.words;
      over = record { motion = map_part 4 w a b m.over.motion; refs = map_part 2 w a b m.over.refs; keep = map_part 1 w a b m.over.keep };
    }

abbrev pub places_of : Component → (w r : ℕ) → ℕ
places_of c w r = unit_side c * r * (unit_side c * w)

-- f in the place of b rows of units from row a on
abbrev pub in_part : Component → (w a b : ℕ) → (List ℕ → List ℕ) → List ℕ → List ℕ
in_part c w a b f p = take (places_of c w a) p ++ (f (take (places_of c w b) (drop (places_of c w a) p)) ++ drop (places_of c w b) (drop (places_of c w a) p))

-- the plane after band k's call
unfoldable pub called : Maps → (strengths : List ℕ) → (at : ℕ → ℕ) → Component → Bool → List ℕ → (w h k : ℕ) → List ℕ → List ℕ
called m t at c halved s w h k p =
    let n = band_rows h k in
    let a = rows_before k in
    let b = rows_above k + n in
    in_part c w a b (finished (maps_part w a b m) t at c w (list_from vertical halved (rows_above k) (band_bytes s w k) w n) (list_from horizontal halved (rows_above k) (band_bytes s w k) w n)) p

-- the plane after the calls of the first n bands
unfoldable pub called_all : Maps → (strengths : List ℕ) → (at : ℕ → ℕ) → Component → Bool → List ℕ → (w h n : ℕ) → List ℕ → List ℕ
called_all m t at c halved s w h zero p = p
called_all m t at c halved s w h (suc n) p = called m t at c halved s w h n (called_all m t at c halved s w h n p)
