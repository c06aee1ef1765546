-- A component of a 4:2:0 picture: how many luma samples along a side make one of its own.
-- Assumes nothing: these are definitions.
use Rattle.std.specs.Prelude.{ℕ, ◌*◌, ◌/◌}
use Rattle.def.specs.declared.Component.{Component}
use Rattle.def.specs.declared.Component.TheVariants.{Luma, Chroma}

abbrev pub scale_of : Component → ℕ
scale_of Luma = 1
scale_of Chroma = 2

-- samples along a unit's side
abbrev pub unit_side : Component → ℕ
unit_side Luma = 4
unit_side Chroma = 2

-- samples of the component's plane
abbrev pub plane_length : Component → ℕ → ℕ → ℕ
plane_length c w h = (w / scale_of c) * (h / scale_of c)
