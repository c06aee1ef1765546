-- A pass, and where the lines of a list's edge lie in a plane, over the types of the code.
-- Assumes nothing: these are definitions.
use Rattle.std.specs.Prelude.{ℕ, ◌+◌, ◌*◌, ◌/◌, List, get_or}
use Rattle.def.specs.Components.{unit_side}
use Rattle.def.specs.declared.Component.{Component}
use Rattle.def.specs.declared.Component.TheVariants.{Luma, Chroma}
use Rattle.split.specs.Edges.{Pass, vertical, horizontal, edge}
use Rattle.split.specs.Rows.{cross_of, along_of}
use Rattle.window.specs.declared.Place.{Place}
use Rattle.df_rules.specs.Places.{step_across, step_along, line_start}
use Rattle.edge_filter.specs.declared.place.Pass as code
use Rattle.edge_filter.specs.declared.place.Pass.TheVariants.{Vertical, Horizontal}

-- a pass as the theory has it
abbrev pub pass_of : code.Pass → Pass
pass_of Vertical = vertical
pass_of Horizontal = horizontal

abbrev pub lines_place : Pass → (wide c a : ℕ) → Place
lines_place d wide c a = record { at = line_start d wide c a; step = step_across d wide; next = step_along d wide }

-- edge i of a list: where Q's first luma sample lies across the pass's edges, and along them
abbrev pub cross_in : Pass → (l : List ℕ) → ℕ → ℕ
cross_in d l i = cross_of d (edge (get_or l (2 * i) 0) (get_or l (2 * i + 1) 0))

abbrev pub along_in : Pass → (l : List ℕ) → ℕ → ℕ
along_in d l i = along_of d (edge (get_or l (2 * i) 0) (get_or l (2 * i + 1) 0))

-- a luma sample's number, in a component: a sample of chroma is two of luma
abbrev pub in_component : Component → ℕ → ℕ
in_component Luma k = k
in_component Chroma k = k / 2

-- where its lines lie in a component, in a picture of w columns of units
abbrev pub place_from : Component → Pass → (w : ℕ) → (l : List ℕ) → ℕ → Place
place_from c d w l i = lines_place d (unit_side c * w) (in_component c (cross_in d l i)) (in_component c (along_in d l i))
