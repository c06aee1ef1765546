-- What the functions that put the digits into a split map ask and leave behind, and what is known of the map.
-- Assumes nothing: these are definitions.
use Rattle.std.specs.Prelude.{true, List, ◌≡◌, ℕ, ◌-◌, ◌*◌, ◌/◌, ◌%◌, ◌≤◌, eqb, length, Ok, Err, Result}
use Rattle.def.specs.declared.Refusal.{Refusal}
use Rattle.split.specs.Edges.{vertical, horizontal, edge_list}
use Rattle.split.specs.ListCall.{limit_ok}
use Rattle.split.specs.Picture.{roots, picture_walk}
use Rattle.sheet.specs.Descent.{picture_descent, as_sheet}
use Rattle.sheet.specs.Text.{listed_text}

-- a sheet's sides: multiples of 4, from 4 to 256
pub record Sides (w h : ℕ) : Type 0 where
  pub some_wide : 4 ≤ w
  pub wide : w ≤ 256
  pub units_wide : w % 4 ≡ 0
  pub some_high : 4 ≤ h
  pub high : h ≤ 256
  pub units_high : h % 4 ≡ 0

-- the digits up to `next` were taken, and the map is walked as they say
pub record Met (w h : ℕ) (digits map : List ℕ) (next : ℕ) : Type 0 where
  pub done : (picture_descent w h digits).walk.answer ≡ Ok tt
  pub left : length (picture_descent w h digits).left ≡ length digits - next
  pub reads : picture_walk map w h ≡ (picture_descent w h digits).walk

-- the walk is refused, for r where it is said of a sheet
pub record Stopped (w h : ℕ) (digits : List ℕ) (r : Refusal) : Type 0 where
  pub why : Refusal
  pub found : (picture_descent w h digits).walk.answer ≡ Err why
  pub said : r ≡ as_sheet why

abbrev pub Pictured : (w h : ℕ) (digits map : List ℕ) → Result ℕ Refusal → Type 0
Pictured w h digits map (Ok next) = Met w h digits map next
Pictured w h digits map (Err r) = Stopped w h digits r

-- ---- the map, once it is filled

-- a picture and a map whose walk is not refused
pub record Walked (w h limit : ℕ) (map : List ℕ) : Type 0 where
  pub sides : Sides w h
  pub limited : limit_ok limit ≡ true
  pub long : length map ≡ 1024 * roots (w / 4) (h / 4)
  pub accepted : (picture_walk map (w / 4) (h / 4)).answer ≡ Ok tt

-- the text of its edges
abbrev pub edges_text : (w h limit : ℕ) → List ℕ → List ℕ
edges_text w h limit map =
    listed_text (edge_list vertical (eqb limit 5) map (w / 4) (h / 4)) (edge_list horizontal (eqb limit 5) map (w / 4) (h / 4))
